use mathlib.Core.Path.{sym, ap, ◌∙◌}
use Rattle.file_parts.specs.declared.Gate.{Gate}
use Rattle.std.specs.Prelude.{Result}
use Rattle.theory_calls.specs.Answer.{refused, number_of, place_of}
use Rattle.check_refusal.specs.declared.Refusal.{Refusal}
use Rattle.file_parts.specs.Answers.{gate_answer}
use Rattle.door_answers.specs.Told.{value_of, told_gate}
use Rattle.door_answers.proofs.GateAnswerFromResultGateRefusal.from.Goals as goal

pub returns-in-Ok : goal.returns-in-Ok
unfolding number_of place_of value_of gate_answer
returns-in-Ok c = sym (ap (λ (x : Result Gate Refusal). told_gate (gate_answer x)) c.in-Ok.is)

pub returns-in-Err : goal.returns-in-Err
unfolding number_of place_of value_of gate_answer
returns-in-Err c =
    c.gate_refused.ensures ∙ (λ i. told_gate (refused (c.number.ensures i) (c.place.ensures i)))
    ∙ sym (ap (λ (x : Result Gate Refusal). told_gate (gate_answer x)) c.in-Err.is)
