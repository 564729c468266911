use native.Mathlib.Omega.{arith}
use Rattle.traffic.specs.Mirror.{input_steps}
use Rattle.traffic.proofs.TrafficCall.{input_few, under_sums, under_input, input_sum, sums_none, sums_turn}
use Rattle.traffic.proofs.inputs_table.Goals as goal

pub loop-k-init : goal.loop-k-init
loop-k-init c = sums_none _

pub added-more-requires : goal.added-more-requires
added-more-requires c =
    let f = c.args.c.now.file.now in
    (under_sums (input_steps f) (input_few f) _ _ _ c.loop-k.invariant (omega (arith, c.loop-k-test.true, c.args.c.now.checked.opened.few_inputs)), under_input _ _ c.input_adds-adds.ensures)

pub loop-k-preserved : goal.loop-k-preserved
loop-k-preserved c =
    sums_turn (input_steps c.args.c.now.file.now) _ _ _ c.loop-k.invariant
    (input_sum _ _ _ _ _ _ c.owner.ensures.is c.input_adds-adds.ensures c.added-more.ensures)
