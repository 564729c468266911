use mathlib.Core.Path.{◌≡◌}
use Prim.Native.Nat.{◌≤◌}
use Rattle.theory_sharing.specs.Circuit.{ands}
use Rattle.theory_calls.specs.File.{circuit}
use Rattle.file_counts.proofs.count_ands.Given as goal

abbrev pub invariant-loop-k : goal.invariant-loop-k
invariant-loop-k l = (l.ands ≡ ands (circuit l.c.file.now).gate l.k) × (l.ands ≤ l.k)
