-- The test of the limits, over plain numbers: no line names a limit's own goal, so a wrong limit falls at the promise itself.
use Rattle.std.proofs.Common.{◌≡◌, ℕ, ◌<◌, ◌≤◌, None, Some}
use borrow.Author.Tests.{le-leb, lt-leb}
use Rattle.check_limits.specs.Mirror.{large_place, Within}

module _ (i g o : ℕ) where
  pub inputs_large : 1024 < i → (Some 0 ≡ large_place i g o) × Within (Some 0) i g o
  unfolding large_place
  inputs_large h = (simp (lt-leb _ _ h), tt)

  pub gates_large : i ≤ 1024 → 3072 < g → (Some 1 ≡ large_place i g o) × Within (Some 1) i g o
  unfolding large_place
  gates_large a h = (simp (le-leb _ _ a, lt-leb _ _ h), tt)

  pub outputs_large : i ≤ 1024 → g ≤ 3072 → 256 < o → (Some 2 ≡ large_place i g o) × Within (Some 2) i g o
  unfolding large_place
  outputs_large a b h = (simp (le-leb _ _ a, le-leb _ _ b, lt-leb _ _ h), tt)

  pub none_large : i ≤ 1024 → g ≤ 3072 → o ≤ 256 → (None ≡ large_place i g o) × Within None i g o
  unfolding large_place
  none_large a b h = (simp (le-leb _ _ a, le-leb _ _ b, le-leb _ _ h), (a, b, h))

pub ruleset limit_laws = (inputs_large, gates_large, outputs_large, none_large)
