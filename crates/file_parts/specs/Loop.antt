-- A state after k turns of a loop, which every pass over inputs, gates or outputs is.
use Rattle.std.specs.Prelude.{ℕ, zero, suc}

unfoldable pub up_to : {S : Type 0} → (ℕ → S → S) → S → ℕ → S
up_to f s zero = s
up_to f s (suc k) = f k (up_to f s k)
