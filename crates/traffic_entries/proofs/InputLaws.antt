-- What an input adds, by its owner.
-- Assumes nothing.
use mathlib.Core.Path.{◌≡◌, refl}
use mathlib.Core.List.{[], ◌∷◌}
use Prim.Native.Nat.{ℕ, zero, suc}
use Rattle.theory_sharing.specs.Sites.{is}
use Rattle.theory_sharing.specs.Traffic.{input_adds}
use Rattle.theory_calls.specs.File.{site_of}
use Rattle.traffic_entries.specs.Mirror.{from_input}

pub input_one : (o : ℕ) → o ≡ 1 → (0 ∷ 2 ∷ 2 ∷ []) ∷ (0 ∷ 0 ∷ 0 ∷ []) ∷ (0 ∷ 0 ∷ 0 ∷ []) ∷ [] ≡ from_input o
unfolding from_input input_adds is site_of
input_one o e = rw e

pub input_two : (o : ℕ) → o ≡ 2 → (0 ∷ 0 ∷ 0 ∷ []) ∷ (2 ∷ 0 ∷ 2 ∷ []) ∷ (0 ∷ 0 ∷ 0 ∷ []) ∷ [] ≡ from_input o
unfolding from_input input_adds is site_of
input_two o e = rw e

pub input_three : (o : ℕ) → (o ≡ 1 → ⊥) → (o ≡ 2 → ⊥) → (0 ∷ 0 ∷ 0 ∷ []) ∷ (0 ∷ 0 ∷ 0 ∷ []) ∷ (2 ∷ 2 ∷ 0 ∷ []) ∷ [] ≡ from_input o
unfolding from_input input_adds is site_of
input_three zero p q = refl
input_three (suc zero) p q = absurd (p refl)
input_three (suc (suc zero)) p q = absurd (q refl)
input_three (suc (suc (suc n))) p q = refl
