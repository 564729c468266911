use Rattle.theory_sharing.proofs.FirstLaws.{Clear}
use Rattle.check_tests.specs.Mirror.{bad_owner}
use Rattle.check_circuit.proofs.first_owner.Given as goal

abbrev pub invariant-loop-k : goal.invariant-loop-k
invariant-loop-k l = Clear (bad_owner l.f.file.now) l.k
