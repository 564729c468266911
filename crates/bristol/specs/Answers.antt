-- The number and values for each case of the answer for a text, and the lent room. Promises go through this.
--     filed_answer    the answer: good with the length of the file
--     filed_after     with the room
use Rattle.std.specs.Prelude.{List, [], ◌∷◌, ℕ, Result, Ok, Err}
use Rattle.theory_calls.specs.Answer.{Answer, good, After}
use Rattle.check_refusal.specs.declared.Refusal.{Refusal}
use Rattle.check_refusal.specs.Number.{refused_by}

unfoldable pub filed_answer : Result ℕ Refusal → Answer
filed_answer (Ok n) = good (n ∷ [])
filed_answer (Err e) = refused_by e

abbrev pub filed_after : Result ℕ Refusal → List ℕ → After
filed_after r room = record { answer = filed_answer r; returned = []; lent = room ∷ [] }
