-- What is said of a site, said of its number, as code meets it that asks for 1 and for 2; any other number is site 3's.
--     by_number                   the tests choose the site
--     at_one, at_two, at_three    the three ways out
-- Assumes nothing.
use mathlib.Core.Path.{◌≡◌, refl, sym, ap}
use mathlib.Core.Bool.{cond}
use Prim.Native.Nat.{ℕ, zero, suc}
use native.Mathlib.Omega.{arith}
use lib.Dec.{eqb}
use borrow.Author.Tests.{ne_eqb}
use Rattle.theory_sharing.specs.Sites.{Site, s1, s2, s3}
use Rattle.theory_calls.specs.File.{site_of}

module _ {A : Type 0} (f : Site → A) where
  pub by_number : (k : ℕ) → cond (eqb k 1) (f s1) (cond (eqb k 2) (f s2) (f s3)) ≡ f (site_of k)
  unfolding site_of
  by_number zero = refl
  by_number (suc zero) = refl
  by_number (suc (suc zero)) = refl
  by_number (suc (suc (suc k))) = rw (ne_eqb (suc (suc (suc k))) 1 (λ e. omega arith), ne_eqb (suc (suc (suc k))) 2 (λ e. omega arith))

  pub at_one : (k : ℕ) → k ≡ 1 → f s1 ≡ f (site_of k)
  unfolding site_of
  at_one k e = ap (λ (n : ℕ). f (site_of n)) (sym e)

  pub at_two : (k : ℕ) → k ≡ 2 → f s2 ≡ f (site_of k)
  unfolding site_of
  at_two k e = ap (λ (n : ℕ). f (site_of n)) (sym e)

  pub at_three : (k : ℕ) → (k ≡ 1 → ⊥) → (k ≡ 2 → ⊥) → f s3 ≡ f (site_of k)
  at_three k p q = rw (ne_eqb k 1 p, ne_eqb k 2 q) at (by_number k)
