use Rattle.check_slices.specs.Mirror.{Under}
use Rattle.check_slices.proofs.largest.Given as goal

abbrev pub invariant-loop-byte : goal.invariant-loop-byte
invariant-loop-byte l = Under l.s l.most l.byte-index
