-- The first number at which a test holds.
--     first p n    the first k below n at which p holds, or n where there is none
-- Every "first fault by index" and the output at which a run stops are one of these; proofs/FirstLaws.antt has what it means.
use Rattle.std.specs.Prelude.{Bool, cond, ℕ, zero, suc}

unfoldable pub first : (ℕ → Bool) → ℕ → ℕ
first p zero = zero
first p (suc n) = cond (p zero) zero (suc (first (λ (k : ℕ). p (suc k)) n))
