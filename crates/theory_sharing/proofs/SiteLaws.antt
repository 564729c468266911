-- Where a site stands, seen from another, so that a law is proved once and not for nine pairs.
--     Seen s t, seen                   t is s itself, the one behind it (s + 1), or the one before it (s + 2)
--     by_site                          what holds of each of the three holds of all
--     alike_one, alike_two, alike_three    two functions of sites are equal, by a test that is computed
--     is_itself, is_behind, is_before  whether it is s
--     own_itself, own_behind, own_before    what counts as its own
-- Assumes nothing.
use mathlib.Core.Path.{◌≡◌, refl}
use mathlib.Core.Bool.{Bool, true, false, ◌&&◌}
use mathlib.Core.List.{List, []}
use Prim.Native.Nat.{ℕ}
use lib.Dec.{T, eqb, eqb→eq}
use Rattle.theory_sharing.specs.Sites.{Site, s1, s2, s3, next, prev, is, if_own}

pub data Seen (s : Site) : Site → Type 0 where
  itself : Seen s s
  behind : Seen s (next s)
  before : Seen s (prev s)

pub seen : (s t : Site) → Seen s t
seen s1 s1 = itself
seen s1 s2 = behind
seen s1 s3 = before
seen s2 s1 = before
seen s2 s2 = itself
seen s2 s3 = behind
seen s3 s1 = behind
seen s3 s2 = before
seen s3 s3 = itself

pub by_site : (P : Site → Type 0) → P s1 → P s2 → P s3 → (s : Site) → P s
by_site P p q r s1 = p
by_site P p q r s2 = q
by_site P p q r s3 = r

abbrev pub every : (Site → Bool) → Bool
every p = p s1 && p s2 && p s3

both_left : (a b : Bool) → T (a && b) → T a
both_left true b h = tt
both_left false b h = h

both_right : (a b : Bool) → T (a && b) → T b
both_right true b h = h
both_right false b h = absurd h

every_holds : (p : Site → Bool) → T (every p) → (s : Site) → T (p s)
every_holds p h s1 = both_left (p s1) (p s2) (both_left (p s1 && p s2) (p s3) h)
every_holds p h s2 = both_right (p s1) (p s2) (both_left (p s1 && p s2) (p s3) h)
every_holds p h s3 = both_right (p s1 && p s2) (p s3) h

pub alike_one : (f g : Site → ℕ) → T (every (λ a. eqb (f a) (g a))) → (a : Site) → f a ≡ g a
alike_one f g h a = eqb→eq (f a) (g a) (every_holds (λ a. eqb (f a) (g a)) h a)

pub alike_two : (f g : Site → Site → ℕ) → T (every (λ a. every (λ b. eqb (f a b) (g a b)))) → (a b : Site) → f a b ≡ g a b
alike_two f g h a = alike_one (f a) (g a) (every_holds (λ a. every (λ b. eqb (f a b) (g a b))) h a)

pub alike_three : (f g : Site → Site → Site → ℕ) → T (every (λ a. every (λ b. every (λ c. eqb (f a b c) (g a b c))))) → (a b c : Site) → f a b c ≡ g a b c
alike_three f g h a = alike_two (f a) (g a) (every_holds (λ a. every (λ b. every (λ c. eqb (f a b c) (g a b c)))) h a)

pub is_itself : (s : Site) → is s s ≡ true
unfolding is
is_itself = by_site (λ s. is s s ≡ true) refl refl refl

pub is_behind : (s : Site) → is s (next s) ≡ false
unfolding is
is_behind = by_site (λ s. is s (next s) ≡ false) refl refl refl

pub is_before : (s : Site) → is s (prev s) ≡ false
unfolding is
is_before = by_site (λ s. is s (prev s) ≡ false) refl refl refl

pub own_itself : (s : Site) (l : List ℕ) → if_own s s l ≡ l
unfolding if_own
own_itself s l = rw (is_itself s)

pub own_behind : (s : Site) (l : List ℕ) → if_own s (next s) l ≡ []
unfolding if_own
own_behind s l = rw (is_behind s)

pub own_before : (s : Site) (l : List ℕ) → if_own s (prev s) l ≡ []
unfolding if_own
own_before s l = rw (is_before s)
