use Rattle.check_slices.proofs.BitsLaws.{under_first}
use Rattle.check_slices.proofs.first_above.Goals as goal

pub returns-then-largest-le1 : goal.returns-then-largest-le1
returns-then-largest-le1 c = under_first _ _ c.largest.ensures c.if-largest-le1.true
