-- Wires counted up from a on, n of them, as a loop over o meets them.
--     count_one    the next
-- Assumes nothing.
use mathlib.Core.Path.{◌≡◌}
use mathlib.Core.List.{◌∷◌}
use Prim.Native.Nat.{ℕ, suc, ◌+◌, ◌-◌, ◌<◌}
use native.Mathlib.Omega.{arith}
use Rattle.bristol_text.specs.Heard.{count_up}

module _ (a n : ℕ) where
  pub count_one : (o : ℕ) → o < n → count_up (a + o) (n - o) ≡ (a + o) ∷ count_up (a + (o + 1)) (n - (o + 1))
  unfolding count_up
  count_one o h =
      let k : n - o ≡ suc (n - (o + 1)) = omega arith in
      let s : a + (o + 1) ≡ suc (a + o) = omega arith in
      rw (k, s)
