-- What is counted in a circuit, as the code meets it.
--     deals_law, gate_deals_law     a gate that deals, by its kind; gate k of a file whose header is good
--     number_law, owned_law         one site is another by their numbers; an input of a site, by the owner's number
--     ands_none, ands_turn                 no gate yet, and one more
--     owned_none, owned_yes, owned_no      no input yet, and one more, the site's or not
-- Assumes nothing.
use mathlib.Core.Path.{◌≡◌, refl, sym, ap, ap₂, ◌∙◌}
use mathlib.Core.Bool.{Bool, true, false, cond}
use mathlib.Core.List.{List}
use Prim.Native.Nat.{ℕ, zero, suc, ◌+◌, ◌≤◌}
use native.Mathlib.Omega.{arith}
use native.Mathlib.Numerals.{add-one}
use native.Mathlib.Nat.{add-zero}
use lib.Dec.{eqb}
use borrow.Author.Tests.{ne_eqb}
use Rattle.theory_sharing.specs.Sites.{Site, s1, s2, s3, is}
use Rattle.theory_sharing.specs.Circuit.{Gate, dealing, ands, owned}
use Rattle.theory_calls.specs.File.{circuit, gate_of, kind_at, first_at, second_at, site_of}
use Rattle.file_header.specs.declared.Counts.{Counts}
use Rattle.file_header.specs.Opened.{Opened}
use Rattle.check_tests.specs.declared.Site.{Site as Seated}
use Rattle.check_tests.specs.declared.Site.TheVariants.{One, Two, Three}
use Rattle.check_tests.specs.Seat.{seat, number_of}
use Rattle.check_tests.specs.Mirror.{deals}

pub deals_law : (kind a b : ℕ) → deals kind ≡ dealing (gate_of kind a b)
unfolding deals dealing gate_of
deals_law zero a b = refl
deals_law (suc zero) a b = refl
deals_law (suc (suc zero)) a b = refl
deals_law (suc (suc (suc zero))) a b = refl
deals_law (suc (suc (suc (suc n)))) a b = rw (ne_eqb (suc (suc (suc (suc n)))) 1 (λ e. omega arith), ne_eqb (suc (suc (suc (suc n)))) 3 (λ e. omega arith))

-- for this the header is enough
pub gate_deals_law : (s : List ℕ) (c : Counts) (k t : ℕ) → Opened s c → t ≡ deals (kind_at s c.inputs k) → t ≡ dealing ((circuit s).gate k)
gate_deals_law s c k t o m =
    m ∙ deals_law (kind_at s c.inputs k) (first_at s c.inputs k) (second_at s c.inputs k)
    ∙ ap (λ (n : ℕ). dealing (gate_of (kind_at s n k) (first_at s n k) (second_at s n k))) o.ins_are

-- of the sites that two numbers stand for, too: they are those of `Site::of`
pub number_law : (a b : Seated) → is (seat a) (seat b) ≡ eqb (number_of a) (number_of b)
unfolding is
number_law One One = refl
number_law One Two = refl
number_law One Three = refl
number_law Two One = refl
number_law Two Two = refl
number_law Two Three = refl
number_law Three One = refl
number_law Three Two = refl
number_law Three Three = refl

pub owned_law : (o : ℕ) (s : Seated) → (1 ≤ o) × (o ≤ 3) → eqb o (number_of s) ≡ is (seat s) (site_of o)
unfolding is site_of
owned_law zero s h = let l = h.0 in absurd (omega arith)
owned_law (suc zero) One h = refl
owned_law (suc zero) Two h = refl
owned_law (suc zero) Three h = refl
owned_law (suc (suc zero)) One h = refl
owned_law (suc (suc zero)) Two h = refl
owned_law (suc (suc zero)) Three h = refl
owned_law (suc (suc (suc zero))) One h = refl
owned_law (suc (suc (suc zero))) Two h = refl
owned_law (suc (suc (suc zero))) Three h = refl
owned_law (suc (suc (suc (suc n)))) s h = let l = h.1 in absurd (omega arith)

pub ands_none : (f : ℕ → Gate) → 0 ≡ ands f 0
unfolding ands
ands_none f = refl

pub ands_turn : (f : ℕ → Gate) (k t d : ℕ) → t ≡ ands f k → d ≡ dealing (f k) → t + d ≡ ands f (k + 1)
unfolding ands
ands_turn f k t d e q = ap₂ ◌+◌ e q ∙ ap (ands f) (sym (add-one k))

pub owned_none : (f : ℕ → Site) (s : Site) → 0 ≡ owned f s 0
unfolding owned
owned_none f s = refl

module _ (f : ℕ → Site) (s : Site) (k t : ℕ) (b : Bool) (e : t ≡ owned f s k) (q : b ≡ is s (f k)) where
  owned_turn : t + cond b 1 0 ≡ owned f s (k + 1)
  unfolding owned
  owned_turn = ap₂ (λ (n : ℕ) (z : Bool). n + cond z 1 0) e q ∙ ap (owned f s) (sym (add-one k))

  pub owned_yes : b ≡ true → t + 1 ≡ owned f s (k + 1)
  owned_yes h = ap (λ (z : Bool). t + cond z 1 0) (sym h) ∙ owned_turn

  pub owned_no : b ≡ false → t ≡ owned f s (k + 1)
  owned_no h = sym (add-zero t) ∙ ap (λ (z : Bool). t + cond z 1 0) (sym h) ∙ owned_turn
