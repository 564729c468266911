use borrow.Author.Tests.{le-leb, lt-leb}
use Rattle.file_parts.specs.Mirror.{output_by}
use Rattle.file_parts.proofs.OpenFile.output.Goals as goal

pub returns-then-self-k : goal.returns-then-self-k
unfolding output_by
returns-then-self-k c = simp (le-leb _ _ c.if-self-k.true)

pub returns : goal.returns
unfolding output_by
returns c = simp (lt-leb _ _ c.if-self-k.false) (cc)
