-- An order of checks, and what it is to be the first refusal in it.
--     check            the check that stands at a place of an order, counted from 0
--     FirstRefusal     refusal N at place P is the first: it concerns the call, its condition holds, and nothing earlier holds
--     position ns n    where number n stands in a list of numbers; the list's length where it does not stand in it
--     InOneOrder       each check gives one number, and these stand as in an order of numbers
-- 00: "A refusal is a number and a place, given in one fixed order, when its condition holds and at no other time."
use Rattle.std.specs.Prelude.{◌≡◌, cond, List, [], ◌∷◌, ℕ, suc, ◌<◌, length, get_or, eqb}
use Rattle.theory_calls.specs.Checks.{Refusal, no_check, Holds}

abbrev pub check : List Refusal → ℕ → Refusal
check cs k = get_or cs k no_check

-- 01: "Checks go by .., the first fault by index inside each, and a call makes only those that concern it." A number may stand more than
-- once in an order: which says by which check it comes.
pub record FirstRefusal (cs : List Refusal) (N P : ℕ) : Type 0 where
  pub which : ℕ
  pub concerns : which < length cs
  pub number : (check cs which).number P ≡ N
  pub holds : Holds (check cs which).row P
  pub before : (k Q : ℕ) → k < which → ¬ Holds (check cs k).row Q
  pub inside : (Q : ℕ) → Q < P → ¬ Holds (check cs which).row Q

unfoldable pub position : List ℕ → ℕ → ℕ
position [] n = 0
position (m ∷ ms) n = cond (eqb m n) 0 (suc (position ms n))

-- 00: "given in one fixed order": the number that check k gives, at any place
pub record InOneOrder (order : List ℕ) (cs : List Refusal) : Type 0 where
  pub one : (k P Q : ℕ) → (check cs k).number P ≡ (check cs k).number Q
  pub stands : (k P : ℕ) → k < length cs → position order ((check cs k).number P) < length order
  pub rises : (j k P Q : ℕ) → j < k → k < length cs → position order ((check cs j).number P) < position order ((check cs k).number Q)
