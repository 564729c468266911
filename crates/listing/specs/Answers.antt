-- 01's number and values for each case of a listing's answer, and the lent buffer. Promises go through this.
--     listed_answer    the answer: good with the length of the text
--     listed_after     with the buffer
use Rattle.std.specs.Prelude.{List, [], ◌∷◌, ℕ, Result, Ok, Err}
use Rattle.theory_calls.specs.Answer.{Answer, good, After}
use Rattle.check_refusal.specs.declared.Refusal.{Refusal}
use Rattle.check_refusal.specs.Number.{refused_by}

unfoldable pub listed_answer : Result ℕ Refusal → Answer
listed_answer (Ok n) = good (n ∷ [])
listed_answer (Err e) = refused_by e

abbrev pub listed_after : Result ℕ Refusal → List ℕ → After
listed_after r text = record { answer = listed_answer r; returned = []; lent = text ∷ [] }
