-- The three sites, told by their numbers.
--     seated_is         a number that stands for a site is the site's in theory_calls
--     seated_good, seated_bad    11, as the code meets it
--     seat_is, seated_number     a site by its number, and the number by the site
-- Assumes nothing.
use Rattle.std.proofs.Common.{◌≡◌, ℕ, zero, suc, ◌≢◌, refl, sym, ap, ◌∙◌, Bool, true, false, cond, arith, Result, Ok, Err}
use borrow.Author.Tests.{ne_eqb, le-leb, lt-leb}
use Rattle.theory_sharing.specs.Sites.{s1, s2, s3}
use Rattle.theory_calls.specs.File.{site_of}
use Rattle.theory_calls.specs.Checks.{one_to_three}
use Rattle.check_refusal.specs.declared.Refusal.{Refusal}
use Rattle.check_refusal.specs.declared.Refusal.TheVariants.{Site as NoSite}
use Rattle.check_tests.specs.declared.Site.{Site}
use Rattle.check_tests.specs.declared.Site.TheVariants.{One, Two, Three}
use Rattle.check_tests.specs.Seat.{seat, number_of, seated}

-- a number above 3 stands for no site
above : (n : ℕ) → seated (suc (suc (suc (suc n)))) ≡ Err NoSite
above n =
    rw (ne_eqb (suc (suc (suc (suc n)))) 1 (λ e. omega arith), ne_eqb (suc (suc (suc (suc n)))) 2 (λ e. omega arith), ne_eqb (suc (suc (suc (suc n)))) 3 (λ e. omega arith))

pub seated_is : (n : ℕ) (s : Site) → Ok s ≡ seated n → seat s ≡ site_of n
unfolding site_of
seated_is zero s e = absurd (cc)
seated_is (suc zero) s e = let d : One ≡ s = cc in ap seat (sym d)
seated_is (suc (suc zero)) s e = let d : Two ≡ s = cc in ap seat (sym d)
seated_is (suc (suc (suc zero))) s e = let d : Three ≡ s = cc in ap seat (sym d)
seated_is (suc (suc (suc (suc n)))) s e = let d = e ∙ above n in absurd (cc)

pub seated_good : (n : ℕ) (s : Site) → Ok s ≡ seated n → one_to_three n ≡ true
seated_good zero s e = absurd (cc)
seated_good (suc zero) s e = refl
seated_good (suc (suc zero)) s e = refl
seated_good (suc (suc (suc zero))) s e = refl
seated_good (suc (suc (suc (suc n)))) s e = let d = e ∙ above n in absurd (cc)

pub seated_bad : (n : ℕ) (d : Refusal) → Err d ≡ seated n → (one_to_three n ≡ false) × (d ≡ NoSite)
seated_bad zero d e = (refl, cc)
seated_bad (suc zero) d e = absurd (cc)
seated_bad (suc (suc zero)) d e = absurd (cc)
seated_bad (suc (suc (suc zero))) d e = absurd (cc)
seated_bad (suc (suc (suc (suc n)))) d e = let f = e ∙ above n in (rw (le-leb 1 (suc (suc (suc (suc n)))) (omega arith), lt-leb (suc (suc (suc (suc n)))) 3 (omega arith)), cc)

pub seat_is : (s : Site) → seat s ≡ site_of (number_of s)
unfolding site_of
seat_is One = refl
seat_is Two = refl
seat_is Three = refl

pub seated_number : (n : ℕ) (s : Site) → Ok s ≡ seated n → n ≡ number_of s
seated_number zero s e = absurd (cc)
seated_number (suc zero) s e = let d : One ≡ s = cc in ap number_of d
seated_number (suc (suc zero)) s e = let d : Two ≡ s = cc in ap number_of d
seated_number (suc (suc (suc zero))) s e = let d : Three ≡ s = cc in ap number_of d
seated_number (suc (suc (suc (suc n)))) s e = let d = e ∙ above n in absurd (cc)
