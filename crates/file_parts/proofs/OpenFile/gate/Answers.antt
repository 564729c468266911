use borrow.Author.Tests.{le-leb, lt-leb}
use Rattle.file_parts.specs.Mirror.{gate_by}
use Rattle.file_parts.proofs.OpenFile.gate.Goals as goal

pub returns-then-self-k : goal.returns-then-self-k
unfolding gate_by
returns-then-self-k c = simp (le-leb _ _ c.if-self-k.true)

pub returns : goal.returns
unfolding gate_by
returns c = simp (lt-leb _ _ c.if-self-k.false) (cc)
