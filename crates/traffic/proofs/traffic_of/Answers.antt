use Rattle.std.proofs.Common.{refl}
use Rattle.theory_calls.specs.Answer.{number_of, place_of}
use Rattle.traffic.proofs.TrafficCall.{traffic_refused, traffic_good, table_is, number_is, place_is}
use Rattle.traffic.proofs.traffic_of.Goals as goal

pub returns-in-Ok-clause-value : goal.returns-in-Ok-clause-value
returns-in-Ok-clause-value c = rw (← c.in-Ok.ensures.lent) (table_is _ _ (traffic_good _ _ c.in-Ok.c.checked.passes c.whole_table.ensures))

pub returns-in-Ok-clause-number_after : goal.returns-in-Ok-clause-number_after
unfolding number_of
returns-in-Ok-clause-number_after c = rw (← c.in-Ok.ensures.lent) (number_is _ _ (traffic_good _ _ c.in-Ok.c.checked.passes c.whole_table.ensures) _ refl)

pub returns-in-Ok-clause-place_after : goal.returns-in-Ok-clause-place_after
unfolding place_of
returns-in-Ok-clause-place_after c = rw (← c.in-Ok.ensures.lent) (place_is _ _ (traffic_good _ _ c.in-Ok.c.checked.passes c.whole_table.ensures) _ refl)

pub returns-in-Err-clause-value : goal.returns-in-Err-clause-value
returns-in-Err-clause-value c = table_is _ _ (traffic_refused _ _ c.in-Err.ensures.value)

pub returns-in-Err-clause-number_after : goal.returns-in-Err-clause-number_after
unfolding number_of
returns-in-Err-clause-number_after c = number_is _ _ (traffic_refused _ _ c.in-Err.ensures.value) _ c.number.ensures

pub returns-in-Err-clause-place_after : goal.returns-in-Err-clause-place_after
unfolding place_of
returns-in-Err-clause-place_after c = place_is _ _ (traffic_refused _ _ c.in-Err.ensures.value) _ c.place.ensures
