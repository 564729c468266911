-- What a call answers, and what it leaves behind.
--     Answer             good with its values, abort, refused
--     Outcome, said      the first two alone: what a call can answer that refuses nothing; as an answer
--     number_of, place_of    an answer as numbers
--     Left               an answer or an outcome, what is returned beside it, and everything that was lent as it is afterwards;  After: of an answer
-- Where code answers by an enum, a definition beside it gives the Answer that each of its cases stands for, and promises go through that.
use Rattle.std.specs.Prelude.{List, ℕ}

pub data Answer : Type 0 where
  good : List ℕ → Answer  -- what was asked for: counts, a gate's three numbers, an owner, a wire, the length of a text; nothing for the others
  abort : ℕ → ℕ → Answer  -- "the output's number and the objecting sites"
  refused : ℕ → ℕ → Answer  -- "A refusal is a number and a place"

pub data Outcome : Type 0 where
  done : List ℕ → Outcome
  stopped : ℕ → ℕ → Outcome

abbrev pub said : Outcome → Answer
said (done vs) = good vs
said (stopped o m) = abort o m

-- Refusals have the numbers of 01's table. Good is 0 and abort is 100: no refusal's, now or later.
unfoldable pub number_of : Answer → ℕ
number_of (good vs) = 0
number_of (abort o m) = 100
number_of (refused n p) = n

-- a refusal's place, an abort's output, else 0
unfoldable pub place_of : Answer → ℕ
place_of (good vs) = 0
place_of (abort o m) = o
place_of (refused n p) = p

-- returned: of a traffic call the table's rows, else nothing. lent: the result buffers, by number.
pub record Left (A : Type 0) : Type 0 where
  pub answer : A
  pub returned : List (List ℕ)
  pub lent : List (List ℕ)

abbrev pub After : Type 0
After = Left Answer
