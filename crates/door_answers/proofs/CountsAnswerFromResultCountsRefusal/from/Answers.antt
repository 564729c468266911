use mathlib.Core.Path.{sym, ap, ◌∙◌}
use Rattle.file_header.specs.declared.Counts.{Counts}
use Rattle.std.specs.Prelude.{Result}
use Rattle.theory_calls.specs.Answer.{refused, number_of, place_of}
use Rattle.check_refusal.specs.declared.Refusal.{Refusal}
use Rattle.file_header.specs.Answers.{header_answer}
use Rattle.door_answers.specs.Told.{value_of, told_counts}
use Rattle.door_answers.proofs.CountsAnswerFromResultCountsRefusal.from.Goals as goal

pub returns-in-Ok : goal.returns-in-Ok
unfolding number_of place_of value_of header_answer
returns-in-Ok c = sym (ap (λ (x : Result Counts Refusal). told_counts (header_answer x)) c.in-Ok.is)

pub returns-in-Err : goal.returns-in-Err
unfolding number_of place_of value_of header_answer
returns-in-Err c =
    c.counts_refused.ensures ∙ (λ i. told_counts (refused (c.number.ensures i) (c.place.ensures i)))
    ∙ sym (ap (λ (x : Result Counts Refusal). told_counts (header_answer x)) c.in-Err.is)
