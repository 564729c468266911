-- Two copies compared, over plain numbers: no line names the test's own goal, so a wrong test falls at the promise itself.
use Rattle.std.proofs.Common.{◌≡◌, ℕ, ◌≤◌, ◌≢◌}
use borrow.Author.Tests.{eq-eqb, ne_eqb}
use native.Mathlib.Omega.{arith}
use Rattle.theory_sharing.specs.Steps.{unlike}

pub copies_alike : {x y w : ℕ} → x ≡ y → (0 ≡ unlike (x, y) w) × (0 ≤ w)
copies_alike h = (simp (eq-eqb _ _ h), omega arith)

pub copies_differ : {x y w : ℕ} → x ≢ y → (w ≡ unlike (x, y) w) × (w ≤ w)
copies_differ h = (simp (ne_eqb _ _ h), omega arith)
