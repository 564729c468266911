-- 01's number and values for each case of the header's answer. Promises go through this.
use Rattle.std.specs.Prelude.{[], ◌∷◌, Result, Ok, Err}
use Rattle.theory_calls.specs.Answer.{Answer, good}
use Rattle.check_refusal.specs.declared.Refusal.{Refusal}
use Rattle.check_refusal.specs.Number.{refused_by}
use Rattle.file_header.specs.declared.Counts.{Counts}

unfoldable pub header_answer : Result Counts Refusal → Answer
header_answer (Ok c) = good (c.inputs ∷ c.gates ∷ c.outputs ∷ [])
header_answer (Err e) = refused_by e
