use native.Mathlib.Omega.{arith}
use Rattle.traffic.specs.Mirror.{output_steps}
use Rattle.traffic.proofs.TrafficCall.{output_few, under_sums, under_output, output_sum, sums_none, sums_turn}
use Rattle.traffic.proofs.outputs_table.Goals as goal

pub loop-init : goal.loop-init
loop-init c = sums_none _

pub added-more-requires : goal.added-more-requires
added-more-requires c =
    (under_sums output_steps output_few _ _ _ c.loop.invariant (omega (arith, c.loop-test.true, c.requires)), under_output _ c.output_adds.ensures)

pub loop-preserved : goal.loop-preserved
loop-preserved c = sums_turn output_steps _ _ _ c.loop.invariant (output_sum _ _ _ c.output_adds.ensures c.added-more.ensures)
