use borrow.Author.Tests.{le-leb, lt-leb}
use Rattle.file_header.specs.Mirror.{header_of}
use Rattle.file_header.proofs.Opens.{opened_of}
use Rattle.file_header.proofs.read_header.Goals as goal

pub returns-then-file-lt32-clause-value : goal.returns-then-file-lt32-clause-value
unfolding header_of
returns-then-file-lt32-clause-value c = simp (lt-leb _ _ c.if-file-lt32.true)

pub returns-clause-value : goal.returns-clause-value
unfolding header_of
returns-clause-value c = simp (le-leb _ _ c.if-file-lt32.false) (cc)
