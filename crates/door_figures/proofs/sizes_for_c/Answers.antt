use mathlib.Core.Path.{ap, ◌∙◌}
use Rattle.theory_calls.specs.Answer.{After}
use Rattle.file_header.specs.Answers.{header_answer}
use Rattle.door_answers.specs.Sizes.{sized}
use Rattle.door_figures.proofs.sizes_for_c.Goals as goal

pub returns-in-Ok : goal.returns-in-Ok
unfolding sized header_answer
returns-in-Ok c = rw c.in-Ok.ensures.lent at c.sizes.ensures ∙ ap (λ (a : After). sized c.args.file.now a.answer) c.in-Ok.ensures.value

pub returns-in-Err : goal.returns-in-Err
unfolding sized header_answer
returns-in-Err c = c.from.ensures ∙ ap (λ (a : After). sized c.args.file.now a.answer) c.in-Err.ensures.value
