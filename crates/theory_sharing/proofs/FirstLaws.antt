-- What the first number at which a test holds is: one law for every "first fault by index".
--     Clear p i             the test holds nowhere below i
--     first_at              a number below n at which it holds, and nowhere before, is the first
--     first_none            where it holds nowhere below n, the first is n
--     first_hit, first_le   the first below n is a number at which it holds; it is never above n
--     first_before          it holds nowhere before the first
--     later_is_not_first    a later number at which it holds is not the first
--     found, passed, ended  the same, as a loop over i meets them
-- Assumes nothing.
use mathlib.Core.Path.{◌≡◌, refl, sym, ap, ◌∙◌, subst}
use mathlib.Core.Bool.{Bool, true, false, cond, true≢false}
use Prim.Native.Nat.{ℕ, zero, suc, ◌+◌, ◌≤◌, ◌<◌, zero-le, suc-le-suc}
use native.Mathlib.Nat.{not-suc-le-zero, le_of_suc-le-suc, le_antisymm}
use Rattle.theory_sharing.specs.First.{first}
use borrow.Author.Count.{below_more, below_none}

-- the test holds nowhere below i
abbrev pub Clear : (ℕ → Bool) → ℕ → Type 0
Clear p i = (k : ℕ) → k < i → p k ≡ false

pub clear_none : (p : ℕ → Bool) → Clear p 0
clear_none p = below_none (λ (k : ℕ). p k ≡ false)

pub clear_more : (p : ℕ → Bool) (i : ℕ) → Clear p i → p i ≡ false → Clear p (i + 1)
clear_more p i = below_more (λ (k : ℕ). p k ≡ false) i

pub first_at : (p : ℕ → Bool) (i n : ℕ) → Clear p i → i < n → p i ≡ true → first p n ≡ i
unfolding first
first_at p i zero clear h e = absurd (not-suc-le-zero h)
first_at p zero (suc n) clear h e = rw e
first_at p (suc i) (suc n) clear h e =
    rw (clear 0 (suc-le-suc zero-le)) (ap suc (first_at (λ (k : ℕ). p (suc k)) i n (λ k l. clear (suc k) (suc-le-suc l)) (le_of_suc-le-suc h) e))

pub first_none : (p : ℕ → Bool) (n : ℕ) → Clear p n → first p n ≡ n
unfolding first
first_none p zero clear = refl
first_none p (suc n) clear =
    rw (clear 0 (suc-le-suc zero-le)) (ap suc (first_none (λ (k : ℕ). p (suc k)) n (λ k l. clear (suc k) (suc-le-suc l))))

-- what a loop returns at a hit, and at its end: r is what its test said there
pub found : (p : ℕ → Bool) (i n : ℕ) (r : Bool) → Clear p i → i < n → r ≡ p i → r ≡ true → i ≡ first p n
found p i n r clear h e t = sym (first_at p i n clear h (sym e ∙ t))

pub passed : (p : ℕ → Bool) (i : ℕ) (r : Bool) → Clear p i → r ≡ p i → r ≡ false → Clear p (i + 1)
passed p i r clear e t = clear_more p i clear (sym e ∙ t)

pub ended : (p : ℕ → Bool) (i n : ℕ) → Clear p i → i ≤ n → n ≤ i → n ≡ first p n
ended p i n clear a b = sym (first_none p n (subst (λ (k : ℕ). Clear p k) (le_antisymm a b) clear))

pub first_le : (p : ℕ → Bool) (n : ℕ) → first p n ≤ n
unfolding first
first_le p zero = zero-le
first_le p (suc n) = go (p zero) (first_le (λ (k : ℕ). p (suc k)) n)
  where
    go : (t : Bool) → first (λ (k : ℕ). p (suc k)) n ≤ n → cond t zero (suc (first (λ (k : ℕ). p (suc k)) n)) ≤ suc n
    go true ih = zero-le
    go false ih = suc-le-suc ih

pub first_hit : (p : ℕ → Bool) (n : ℕ) → first p n < n → p (first p n) ≡ true
unfolding first
first_hit p zero h = absurd (not-suc-le-zero h)
first_hit p (suc n) h = go (p zero) refl h (first_hit (λ (k : ℕ). p (suc k)) n)
  where
    go : (t : Bool) → p zero ≡ t → cond t zero (suc (first (λ (k : ℕ). p (suc k)) n)) < suc n
        → (first (λ (k : ℕ). p (suc k)) n < n → p (suc (first (λ (k : ℕ). p (suc k)) n)) ≡ true)
        → p (cond t zero (suc (first (λ (k : ℕ). p (suc k)) n))) ≡ true
    go true e l ih = e
    go false e l ih = ih (le_of_suc-le-suc l)

pub first_before : (p : ℕ → Bool) (n : ℕ) → Clear p (first p n)
unfolding first
first_before p zero = clear_none p
first_before p (suc n) = go (p zero) refl (first_before (λ (k : ℕ). p (suc k)) n)
  where
    go : (t : Bool) → p zero ≡ t → Clear (λ (k : ℕ). p (suc k)) (first (λ (k : ℕ). p (suc k)) n)
        → Clear p (cond t zero (suc (first (λ (k : ℕ). p (suc k)) n)))
    go true e ih k l = absurd (not-suc-le-zero l)
    go false e ih zero l = e
    go false e ih (suc k) l = ih k (le_of_suc-le-suc l)

-- no hit: the test holds nowhere
pub first_clear : (p : ℕ → Bool) (n : ℕ) → n ≤ first p n → Clear p n
first_clear p n h = subst (λ (k : ℕ). Clear p k) (le_antisymm (first_le p n) h) (first_before p n)

-- a later number at which the test holds is not the first: "first fault replaced by last" does not meet a statement about the first
pub later_is_not_first : (p : ℕ → Bool) (i j n : ℕ) → p i ≡ true → i < j → j ≡ first p n → ⊥
later_is_not_first p i j n e h q = true≢false (sym e ∙ first_before p n i (subst (λ (k : ℕ). i < k) q h))
