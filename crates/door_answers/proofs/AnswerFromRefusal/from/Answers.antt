use mathlib.Core.Path.{◌∙◌}
use Rattle.theory_calls.specs.Answer.{refused}
use Rattle.door_answers.specs.Told.{told}
use Rattle.door_answers.proofs.AnswerFromRefusal.from.Goals as goal

pub returns : goal.returns
returns c = c.refused_told.ensures ∙ (λ i. told (refused (c.number.ensures i) (c.place.ensures i)))
