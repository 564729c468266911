use mathlib.Core.Path.{◌≡◌, refl, ap, ◌∙◌}
use Rattle.std.specs.Prelude.{ℕ, Result, Ok, Err}
use Rattle.check_refusal.specs.declared.Refusal.{Refusal}
use Rattle.bristol.specs.Answers.{filed_answer}
use Rattle.door_answers.specs.Told.{length_answer, told_file}
use Rattle.door_answers.proofs.Apart.{tells_by}
use Rattle.door_texts.proofs.from_bristol_for_c.Goals as goal

as_filed : (r : Result ℕ Refusal) → length_answer r ≡ filed_answer r
unfolding length_answer filed_answer
as_filed (Ok n) = refl
as_filed (Err e) = refl

pub returns : goal.returns
returns c = tells_by told_file _ _ _ (c.from.ensures ∙ ap told_file (as_filed _)) c.from_bristol.ensures
