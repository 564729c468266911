use mathlib.Core.Path.{◌≡◌}
use Prim.Native.Nat.{◌≤◌}
use Rattle.theory_sharing.specs.Circuit.{owned}
use Rattle.theory_calls.specs.File.{circuit}
use Rattle.check_tests.specs.Seat.{seat}
use Rattle.file_counts.proofs.owned_by.Given as goal

abbrev pub invariant-loop-k : goal.invariant-loop-k
invariant-loop-k l = (l.count ≡ owned (circuit l.c.file.now).owner (seat l.site) l.k) × (l.count ≤ l.k)
