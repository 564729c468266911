use Rattle.retape_pairs.specs.Mirror.{operand}
use Rattle.retape_pairs.proofs.PairLaws.{change_law}
use Rattle.retape_pairs.proofs.change.Goals as goal

pub returns : goal.returns
returns c = let a = c.args in change_law (operand a.p a.u a.y) (operand a.q a.v a.z)
