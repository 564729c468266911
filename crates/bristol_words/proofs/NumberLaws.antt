-- A number, digit by digit.
--     nines, few_nines      n nines: no number of n digits is above
--     Read                  so far v was read, and the word's other bytes follow
--     no_number             a word that is none by its length
--     start_read, small_read, next_read, stop_read, all_read     the loop
-- Assumes nothing.
use mathlib.Core.Path.{◌≡◌, refl, sym, ◌∙◌}
use mathlib.Core.Bool.{Bool, true, false, cond, ◌&&◌}
use mathlib.Core.List.{List, [], ◌∷◌}
use Prim.Native.Nat.{ℕ, zero, suc, ◌+◌, ◌*◌, ◌-◌, ◌≤◌, ◌<◌}
use native.Mathlib.Omega.{arith}
use native.Mathlib.Numerals.{add-one}
use lib.ListN.{length, drop, get_or, drop_of_length-le}
use lib.Seq.{drop-cons}
use lib.Dec.{leb}
use borrow.Author.Tests.{le-leb, leb-true}
use Rattle.bristol_text.specs.Words.{is, none, digits, number}

unfoldable pub nines : ℕ → ℕ
nines zero = 0
nines (suc n) = 10 * nines n + 9

few_nines : (n : ℕ) → n < 5 → nines n ≤ 9999
unfolding nines
few_nines zero h = omega arith
few_nines (suc zero) h = omega arith
few_nines (suc (suc zero)) h = omega arith
few_nines (suc (suc (suc zero))) h = omega arith
few_nines (suc (suc (suc (suc zero)))) h = omega arith
few_nines (suc (suc (suc (suc (suc n))))) h = omega arith

-- more bytes than may follow
too_many : (k v : ℕ) (w : List ℕ) → k < length w → digits k v w ≡ none
unfolding digits
too_many k v [] h = absurd (omega arith)
too_many zero v (b ∷ w) h = refl
too_many (suc k) v (b ∷ w) h = go (leb 48 b && leb b 57) (too_many k (10 * v + (b - 48)) w (omega arith))
  where
    go : (c : Bool) → digits k (10 * v + (b - 48)) w ≡ none → cond c (digits k (10 * v + (b - 48)) w) none ≡ none
    go true e = e
    go false e = refl

pub no_number : (w : List ℕ) → (0 < length w → 5 < length w) → none ≡ number w
unfolding number
no_number [] h = refl
no_number (b ∷ w) h = sym (too_many 5 0 (b ∷ w) (h (omega arith)))

-- i digits were read, with the value v
pub record Read (w : List ℕ) (i v : ℕ) : Type 0 where
  pub fits : v ≤ nines i
  pub same : digits (5 - i) v (drop i w) ≡ number w

pub start_read : (w : List ℕ) → 0 < length w → Read w 0 0
unfolding number nines
start_read [] h = absurd (omega arith)
start_read (b ∷ w) h = record { fits = omega arith; same = refl }

module _ (w : List ℕ) (i v : ℕ) (few : length w ≤ 5) (l : i < length w) (r : Read w i v) where
  abbrev b : ℕ
  b = get_or w i 0

  turn : number w ≡ cond (leb 48 b && leb b 57) (digits (5 - (i + 1)) (10 * v + (b - 48)) (drop (i + 1) w)) none
  unfolding digits
  turn = let k : 5 - i ≡ suc (5 - (i + 1)) = omega arith in sym r.same ∙ rw (k, drop-cons w i 0 l, add-one)

  pub small_read : v ≤ 9999
  small_read = let f = r.fits in let g = few_nines i (omega arith) in omega arith

  pub stop_read : (48 ≤ b → b ≤ 57 → ⊥) → none ≡ number w
  stop_read n = sym (turn ∙ go (leb 48 b) (leb b 57) refl refl)
    where
      go : (p q : Bool) → leb 48 b ≡ p → leb b 57 ≡ q → cond (p && q) (digits (5 - (i + 1)) (10 * v + (b - 48)) (drop (i + 1) w)) none ≡ none
      go true true e f = absurd (n (leb-true _ _ e) (leb-true _ _ f))
      go true false e f = refl
      go false q e f = refl

  pub next_read : 48 ≤ b → b ≤ 57 → Read w (i + 1) (10 * v + (b - 48))
  unfolding nines
  next_read h g = record { fits = let f = r.fits in rw add-one (omega arith); same = sym (turn ∙ rw (le-leb 48 b h, le-leb b 57 g)) }

pub all_read : (w : List ℕ) (i v : ℕ) → length w ≤ i → Read w i v → is v ≡ number w
unfolding digits
all_read w i v l r = sym (at_end (5 - i) v) ∙ (rw (drop_of_length-le w l) at r.same)
  where
    at_end : (k v : ℕ) → digits k v [] ≡ is v
    at_end zero v = refl
    at_end (suc k) v = refl
