use borrow.Author.Tests.{le-leb, lt-leb}
use Rattle.file_parts.specs.Mirror.{owner_by}
use Rattle.file_parts.proofs.OpenFile.owner.Goals as goal

pub returns-then-self-k : goal.returns-then-self-k
unfolding owner_by
returns-then-self-k c = simp (le-leb _ _ c.if-self-k.true)

pub returns : goal.returns
unfolding owner_by
returns c = simp (lt-leb _ _ c.if-self-k.false) (cc)
