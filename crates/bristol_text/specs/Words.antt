-- A text: its lines, their words, and the numbers that words are.
--     split p t      the parts of t between the bytes at which p holds: there is always a first
--     lines t        the parts between LFs; behind a last LF there is no further line
--     words l        the parts of a line between spaces and CRs, those that are not empty
--     number w       what a word of one to five digits says
-- T-01: "Good text has words parted by spaces or CR, LF after each line but perhaps the last, numbers of one to five digits".
use Rattle.std.specs.Prelude.{Bool, cond, ◌&&◌, ◌||◌, List, [], ◌∷◌, ℕ, zero, suc, ◌+◌, ◌*◌, ◌-◌, leb, eqb}

abbrev pub is_lf : ℕ → Bool
is_lf b = eqb b 10

abbrev pub is_gap : ℕ → Bool
is_gap b = eqb b 32 || eqb b 13

abbrev pub is_digit : ℕ → Bool
is_digit b = leb 48 b && leb b 57

pub record Parts : Type 0 where
  pub head : List ℕ
  pub more : List (List ℕ)

unfoldable pub split : (ℕ → Bool) → List ℕ → Parts
split p [] = record { head = []; more = [] }
split p (b ∷ t) =
    let r = split p t in
    cond (p b) (record { head = []; more = r.head ∷ r.more }) (record { head = b ∷ r.head; more = r.more })

-- "LF after each line but perhaps the last"
unfoldable pub but_empty_last : List (List ℕ) → List ℕ → List (List ℕ)
but_empty_last [] [] = []
but_empty_last [] (b ∷ l) = (b ∷ l) ∷ []
but_empty_last (m ∷ ms) l = l ∷ but_empty_last ms m

unfoldable pub lines : List ℕ → List (List ℕ)
lines t = but_empty_last (split is_lf t).more (split is_lf t).head

-- "words parted by spaces or CR"
unfoldable pub not_empty : List (List ℕ) → List (List ℕ)
not_empty [] = []
not_empty ([] ∷ ws) = not_empty ws
not_empty ((b ∷ w) ∷ ws) = (b ∷ w) ∷ not_empty ws

unfoldable pub words : List ℕ → List (List ℕ)
words l = not_empty ((split is_gap l).head ∷ (split is_gap l).more)

-- a word that is a number, or none
pub data Number : Type 0 where
  is : ℕ → Number
  none : Number

-- "numbers of one to five digits": v is what was read so far, and at most k digits may follow
unfoldable pub digits : ℕ → ℕ → List ℕ → Number
digits k v [] = is v
digits zero v (b ∷ w) = none
digits (suc k) v (b ∷ w) = cond (is_digit b) (digits k (10 * v + (b - 48)) w) none

unfoldable pub number : List ℕ → Number
number [] = none
number (b ∷ w) = digits 5 0 (b ∷ w)
