-- The first place with a fault, as a search finds it.
--     none_found, some_found    what a place below a bound says, and what none says
--     found_first       the first number below n at which a test holds, as `find` over a range has it
--     position_first    the same of a list, as `position` has it
-- Assumes nothing.
use mathlib.Core.Path.{◌≡◌, refl, sym, ap, ◌∙◌}
use mathlib.Core.Bool.{Bool, true, false, not, cond}
use mathlib.Core.List.{List, [], ◌∷◌}
use Prim.Native.Nat.{ℕ, zero, suc, ◌+◌, ◌<◌, ◌≤◌, suc-le-suc}
use native.Mathlib.Omega.{arith}
use lib.ListN.{length, get_or}
use lib.Dec.{ltb}
use borrow.Author.Tests.{lt-ltb, le-ltb, ltb-true, ltb-false}
use Rattle.std.specs.Prelude.{Option, None, Some, MatchOption, position}
use Rattle.std.specs.List.{position_or_len}
use Rattle.theory_sharing.specs.First.{first}
use Rattle.theory_sharing.proofs.FirstLaws.{Clear, first_at, first_none, found, ended}
use Rattle.check_refusal.specs.Found.{some_below}

pub some_is : (k n : ℕ) → k < n → Some k ≡ some_below k n
some_is k n h = rw (lt-ltb k n h)

pub none_is : (k n : ℕ) → n ≤ k → None ≡ some_below k n
none_is k n h = rw (le-ltb k n h)

pub some_found : (i k n : ℕ) → Some i ≡ some_below k n → (i ≡ k) × (k < n)
some_found i k n e = go (ltb k n) refl e
  where
    go : (b : Bool) → ltb k n ≡ b → Some i ≡ cond b (Some k) None → (i ≡ k) × (k < n)
    go true q f = (cc, ltb-true k n q)
    go false q f = absurd (cc)

pub none_found : (k n : ℕ) → ◌≡◌ {A = Option ℕ} None (some_below k n) → n ≤ k
none_found k n e = go (ltb k n) refl e
  where
    go : (b : Bool) → ltb k n ≡ b → ◌≡◌ {A = Option ℕ} None (cond b (Some k) None) → n ≤ k
    go true q f = absurd (cc)
    go false q f = ltb-false k n q

-- as a loop over the range meets it: at a hit, r is what the test said there, and at the end
pub hit_is : (p : ℕ → Bool) (k n : ℕ) (r : Bool) → Clear p k → k < n → r ≡ p k → r ≡ true → Some k ≡ some_below (first p n) n
hit_is p k n r clear h e t = some_is k n h ∙ ap (λ (m : ℕ). some_below m n) (found p k n r clear h e t)

pub end_is : (p : ℕ → Bool) (k n : ℕ) → Clear p k → k ≤ n → n ≤ k → None ≡ some_below (first p n) n
end_is p k n clear a b = none_is n n (omega arith) ∙ ap (λ (m : ℕ). some_below m n) (ended p k n clear a b)

pub found_first : (p : ℕ → Bool) (n : ℕ) (r : Option ℕ)
    → MatchOption r ((k : ℕ) → 0 ≤ k → k < n → p k ≡ false) (λ i. (0 ≤ i) × (i < n) × (p i ≡ true) × ((k : ℕ) → 0 ≤ k → k < i → p k ≡ false))
    → r ≡ some_below (first p n) n
found_first p n None h = let e = first_none p n (λ k l. h k (omega arith) l) in rw (e) (none_is n n (omega arith))
found_first p n (Some i) h = let e = first_at p i n (λ k l. h.3 k (omega arith) l) h.1 h.2 in rw (e) (some_is i n h.1)

-- a list's first element with the test, by its number; d is what is read behind the list's end
pub place_first : {X : Type 0} (p : X → Bool) (d : X) (xs : List X) → position_or_len p xs ≡ first (λ (k : ℕ). p (get_or xs k d)) (length xs)
unfolding first
place_first p d [] = refl
place_first p d (x ∷ xs) = go (p x) (place_first p d xs)
  where
    go : (b : Bool) → position_or_len p xs ≡ first (λ (k : ℕ). p (get_or xs k d)) (length xs)
        → cond (not b) (1 + position_or_len p xs) 0 ≡ cond b 0 (suc (first (λ (k : ℕ). p (get_or xs k d)) (length xs)))
    go true e = refl
    go false e = omega arith

pub position_first : {X : Type 0} (p : X → Bool) (d : X) (xs : List X) → position p xs ≡ some_below (first (λ (k : ℕ). p (get_or xs k d)) (length xs)) (length xs)
position_first p d xs = ap (λ (k : ℕ). some_below k (length xs)) (place_first p d xs)
