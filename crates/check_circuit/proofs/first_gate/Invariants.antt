use Rattle.theory_sharing.proofs.FirstLaws.{Clear}
use Rattle.check_tests.specs.Mirror.{bad_gate}
use Rattle.check_circuit.proofs.first_gate.Given as goal

abbrev pub invariant-loop-k : goal.invariant-loop-k
invariant-loop-k l = Clear (bad_gate l.f.file.now l.f.counts.inputs) l.k
