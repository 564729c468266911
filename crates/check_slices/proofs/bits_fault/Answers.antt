use Rattle.check_slices.proofs.BitsLaws.{bits_short, bits_long}
use Rattle.check_slices.proofs.bits_fault.Goals as goal

pub returns-then-s-want : goal.returns-then-s-want
returns-then-s-want c = bits_short c.args.s.now c.args.want c.if-s-want.true

pub returns : goal.returns
returns c = bits_long c.args.s.now c.args.want c.if-s-want.false _ c.first_above.ensures
