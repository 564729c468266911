-- A loop, as its proof meets it.
--     none_yet, turn, at_end    before its first turn, one turn more, behind its last
-- Assumes nothing.
use mathlib.Core.Path.{◌≡◌, refl, sym, ap, ◌∙◌}
use Prim.Native.Nat.{ℕ, ◌+◌, ◌≤◌}
use native.Mathlib.Numerals.{add-one}
use native.Mathlib.Nat.{le_antisymm}
use Rattle.file_parts.specs.Loop.{up_to}

module _ {S : Type 0} (f : ℕ → S → S) (s : S) where
  pub none_yet : s ≡ up_to f s 0
  unfolding up_to
  none_yet = refl

  pub turn : (k : ℕ) (x y : S) → x ≡ up_to f s k → y ≡ f k x → y ≡ up_to f s (k + 1)
  unfolding up_to
  turn k x y e q = q ∙ ap (f k) e ∙ ap (up_to f s) (sym (add-one k))

-- of any state that goes by the number of turns
pub at_end : {S : Type 0} (f : ℕ → S) (k n : ℕ) (y : S) → y ≡ f k → k ≤ n → n ≤ k → y ≡ f n
at_end f k n y e a b = e ∙ ap f (le_antisymm a b)
