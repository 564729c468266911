use mathlib.Core.Path.{◌≡◌, refl, ap, ◌∙◌}
use Rattle.std.specs.Prelude.{ℕ, Result, Ok, Err}
use Rattle.check_refusal.specs.declared.Refusal.{Refusal}
use Rattle.listing.specs.Answers.{listed_answer}
use Rattle.door_answers.specs.Told.{length_answer, told_listing}
use Rattle.door_answers.proofs.Apart.{tells_by}
use Rattle.door_figures.proofs.listing_for_c.Goals as goal

as_listed : (r : Result ℕ Refusal) → length_answer r ≡ listed_answer r
unfolding length_answer listed_answer
as_listed (Ok n) = refl
as_listed (Err e) = refl

pub returns : goal.returns
returns c = tells_by told_listing _ _ _ (c.from.ensures ∙ ap told_listing (as_listed _)) c.listing.ensures
