use Rattle.theory_sharing.proofs.FirstLaws.{Clear}
use Rattle.retape_differs.specs.Mirror.{opened_differs}
use Rattle.retape_differs.proofs.first_opened.Given as goal

abbrev pub invariant-loop-k : goal.invariant-loop-k
invariant-loop-k l = Clear (opened_differs l.c.file.now l.c.counts.inputs l.c.counts.gates l.room) l.k
