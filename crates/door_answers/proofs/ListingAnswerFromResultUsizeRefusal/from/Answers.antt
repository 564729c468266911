use mathlib.Core.Path.{sym, ap, ◌∙◌}
use Prim.Native.Nat.{ℕ}
use Rattle.std.specs.Prelude.{Result}
use Rattle.theory_calls.specs.Answer.{refused, number_of, place_of}
use Rattle.check_refusal.specs.declared.Refusal.{Refusal}
use Rattle.door_answers.specs.Told.{value_of, length_answer, told_listing}
use Rattle.door_answers.proofs.ListingAnswerFromResultUsizeRefusal.from.Goals as goal

pub returns-in-Ok : goal.returns-in-Ok
unfolding number_of place_of value_of length_answer
returns-in-Ok c = sym (ap (λ (x : Result ℕ Refusal). told_listing (length_answer x)) c.in-Ok.is)

pub returns-in-Err : goal.returns-in-Err
unfolding number_of place_of value_of length_answer
returns-in-Err c =
    c.listing_refused.ensures ∙ (λ i. told_listing (refused (c.number.ensures i) (c.place.ensures i)))
    ∙ sym (ap (λ (x : Result ℕ Refusal). told_listing (length_answer x)) c.in-Err.is)
