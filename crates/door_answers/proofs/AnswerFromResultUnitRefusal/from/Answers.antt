use mathlib.Core.Path.{sym, ap, ◌∙◌}
use Rattle.std.specs.Prelude.{Result}
use Rattle.theory_calls.specs.Answer.{number_of, place_of}
use Rattle.check_refusal.specs.declared.Refusal.{Refusal}
use Rattle.check_circuit.specs.Answers.{done_answer}
use Rattle.door_answers.specs.Told.{sites_of, told}
use Rattle.door_answers.proofs.AnswerFromResultUnitRefusal.from.Goals as goal

pub returns-in-Ok : goal.returns-in-Ok
unfolding number_of place_of sites_of done_answer
returns-in-Ok c = sym (ap (λ (x : Result (Unit {0}) Refusal). told (done_answer x)) c.in-Ok.is)

pub returns-in-Err : goal.returns-in-Err
unfolding done_answer
returns-in-Err c = c.from.ensures ∙ sym (ap (λ (x : Result (Unit {0}) Refusal). told (done_answer x)) c.in-Err.is)
