-- 01's number and values for each case of the reader's answers. Promises go through these.
use Rattle.std.specs.Prelude.{[], ◌∷◌, ℕ, Result, Ok, Err}
use Rattle.theory_calls.specs.Answer.{Answer, good}
use Rattle.check_refusal.specs.declared.Refusal.{Refusal}
use Rattle.check_refusal.specs.Number.{refused_by}
use Rattle.file_parts.specs.declared.Gate.{Gate}

unfoldable pub gate_answer : Result Gate Refusal → Answer
gate_answer (Ok g) = good (g.kind ∷ g.first ∷ g.second ∷ [])
gate_answer (Err e) = refused_by e

unfoldable pub owner_answer : Result ℕ Refusal → Answer
owner_answer (Ok o) = good (o ∷ [])
owner_answer (Err e) = refused_by e

unfoldable pub output_answer : Result ℕ Refusal → Answer
output_answer (Ok w) = good (w ∷ [])
output_answer (Err e) = refused_by e
