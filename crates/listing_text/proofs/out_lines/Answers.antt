use Rattle.std.proofs.Common.{arith, rules}
use Rattle.listing_text.specs.Mirror.{OneDigit}
use Rattle.listing_text.proofs.TextLaws.{lines_none, lines_turn, lines_end, lines_room}
use Rattle.listing_text.proofs.out_lines.Goals as goal

pub loop-o-init : goal.loop-o-init
loop-o-init c = lines_none c.args.outs.now _ _

pub out_line-e-requires : goal.out_line-e-requires
unfolding OneDigit
out_line-e-requires c = let k = lines_room c.args.outs.now c.args.n c.loop-o.o c.requires.3 c.requires.1 (omega arith) in (omega arith, search rules, c.requires.3 c.loop-o.o c.loop-o-test.true)

pub loop-o-preserved : goal.loop-o-preserved
loop-o-preserved c = lines_turn c.args.outs.now _ _ _ _ _ _ _ c.loop-o.invariant (c.out_line-e.ensures.text_after, c.out_line-e.ensures.value)

pub returns : goal.returns
returns c = let e = lines_end c.args.outs.now _ _ _ _ _ _ c.loop-o.invariant c.loop-o.auto.o-end c.loop-o-test.false in record { text_after = e.0; value = e.1 }
