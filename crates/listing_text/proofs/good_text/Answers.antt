use borrow.Author.Rules.{rules}
use native.Mathlib.Omega.{arith}
use Rattle.listing_text.proofs.TextLaws.{head_room, lines_room, good_put}
use Rattle.listing_text.proofs.good_text.Goals as goal

pub put_head-a-requires : goal.put_head-a-requires
put_head-a-requires c = let k = head_room c.args.c.inputs c.args.c.gates c.args.c.outputs c.args.total c.requires.in_bounds.1 c.requires.in_bounds.2 c.requires.in_bounds.3 c.requires.in_bounds.4 in omega arith

pub out_lines-b-requires : goal.out_lines-b-requires
out_lines-b-requires c = let k = head_room c.args.c.inputs c.args.c.gates c.args.c.outputs c.args.total c.requires.in_bounds.1 c.requires.in_bounds.2 c.requires.in_bounds.3 c.requires.in_bounds.4 in (omega arith, search rules, c.requires.outs_len.0, c.requires.outs_len.1)

pub put_bytes-requires : goal.put_bytes-requires
put_bytes-requires c = let k = head_room c.args.c.inputs c.args.c.gates c.args.c.outputs c.args.total c.requires.in_bounds.1 c.requires.in_bounds.2 c.requires.in_bounds.3 c.requires.in_bounds.4 in let h = lines_room c.args.outs.now c.args.c.outputs c.args.c.outputs c.requires.outs_len.1 c.requires.in_bounds.3 (omega arith) in omega arith

pub returns : goal.returns
returns c = let e = good_put _ _ _ _ c.args.outs.now _ _ _ _ _ _ _ (c.put_head-a.ensures.text_after, c.put_head-a.ensures.value) (c.out_lines-b.ensures.text_after, c.out_lines-b.ensures.value) (c.put_bytes.ensures.to_after, c.put_bytes.ensures.value) in record { text_after = e.0; value = e.1 }
