-- 01's number and values for each case of a run's answer. Promises go through this.
use Rattle.std.specs.Prelude.{List, [], ◌∷◌, ℕ, Result, Ok, Err}
use Rattle.theory_calls.specs.Answer.{Answer, good, abort, After}
use Rattle.check_refusal.specs.declared.Refusal.{Refusal}
use Rattle.check_refusal.specs.Number.{refused_by}
use Rattle.run.specs.declared.Ran.{Ran}
use Rattle.run.specs.declared.Ran.TheVariants.{Good, Abort}

unfoldable pub run_answer : Result Ran Refusal → Answer
run_answer (Ok Good) = good []
run_answer (Ok (Abort o m)) = abort o m
run_answer (Err e) = refused_by e

-- a run's answer with the three buffers as it left them
abbrev pub run_after : Result Ran Refusal → List ℕ → List ℕ → List ℕ → After
run_after r outs tr store = record { answer = run_answer r; returned = []; lent = outs ∷ tr ∷ store ∷ [] }
