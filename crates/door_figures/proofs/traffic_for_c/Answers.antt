use mathlib.Core.Path.{ap, ◌∙◌}
use Rattle.door_answers.specs.Told.{nine}
use Rattle.door_figures.proofs.traffic_for_c.Goals as goal

pub returns : goal.returns
returns c = let n = c.traffic_of-t.ensures.number_after in
    let p = c.traffic_of-t.ensures.place_after in
    let b = c.rows_told-bits.ensures ∙ ap nine c.traffic_of-t.ensures.value in
    λ i. record { number = n i; place = p i; bits = b i }
