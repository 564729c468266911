use Rattle.theory_sharing.proofs.FirstLaws.{Clear}
use Rattle.check_tests.specs.Seat.{seat}
use Rattle.retape_differs.specs.Mirror.{own_differs}
use Rattle.retape_differs.proofs.first_own_at.Given as goal

abbrev pub invariant-loop-k : goal.invariant-loop-k
invariant-loop-k l = Clear (own_differs l.c.file.now (seat l.site) l.inputs l.second) l.k
