use mathlib.Core.Path.{sym, ap, ◌∙◌}
use Prim.Native.Nat.{ℕ}
use Rattle.std.specs.Prelude.{Result}
use Rattle.theory_calls.specs.Answer.{refused, number_of, place_of}
use Rattle.check_refusal.specs.declared.Refusal.{Refusal}
use Rattle.file_parts.specs.Answers.{owner_answer}
use Rattle.door_answers.specs.Told.{value_of, told_owner}
use Rattle.door_answers.proofs.OwnerAnswerFromResultU8Refusal.from.Goals as goal

pub returns-in-Ok : goal.returns-in-Ok
unfolding number_of place_of value_of owner_answer
returns-in-Ok c = sym (ap (λ (x : Result ℕ Refusal). told_owner (owner_answer x)) c.in-Ok.is)

pub returns-in-Err : goal.returns-in-Err
unfolding number_of place_of value_of owner_answer
returns-in-Err c =
    c.owner_refused.ensures ∙ (λ i. told_owner (refused (c.number.ensures i) (c.place.ensures i)))
    ∙ sym (ap (λ (x : Result ℕ Refusal). told_owner (owner_answer x)) c.in-Err.is)
