use mathlib.Core.Path.{◌≡◌}
use Prim.Native.Nat.{◌+◌}
use Rattle.run_passes.specs.Mirror.{hands_on}
use Rattle.run_openings.proofs.hand_over.Given as goal

abbrev pub invariant-loop-k : goal.invariant-loop-k
invariant-loop-k l = l.outs ≡ hands_on l.c.file.now l.tr l.store (l.c.counts.inputs + l.c.counts.gates) l.at l.initial.outs l.k
