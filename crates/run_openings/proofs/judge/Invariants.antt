use mathlib.Core.Path.{◌≡◌}
use Prim.Native.Nat.{◌+◌}
use Rattle.theory_sharing.proofs.FirstLaws.{Clear}
use Rattle.run_passes.specs.Mirror.{objects_on, opens_on}
use Rattle.run_openings.specs.Mirror.{objected}
use Rattle.run_openings.proofs.judge.Given as goal

abbrev pub invariant-loop-k : goal.invariant-loop-k
invariant-loop-k l = record {
  opened : l.transcript ≡ opens_on l.c.file.now l.line l.store (l.c.counts.inputs + l.c.counts.gates) l.at l.initial.transcript l.k;
  clear : Clear (objected (objects_on l.c.file.now l.line l.store (l.c.counts.inputs + l.c.counts.gates) l.at)) l.k;
}
