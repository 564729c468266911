use native.Mathlib.Omega.{arith}
use Rattle.traffic.specs.Mirror.{gate_steps}
use Rattle.traffic.proofs.TrafficCall.{gate_few, under_sums, under_gate, gate_sum, sums_none, sums_turn}
use Rattle.traffic.proofs.gates_table.Goals as goal

pub loop-k-init : goal.loop-k-init
loop-k-init c = sums_none _

pub added-more-requires : goal.added-more-requires
added-more-requires c =
    let f = c.args.c.now.file.now in
    (under_sums (gate_steps f) (gate_few f) _ _ _ c.loop-k.invariant (omega (arith, c.loop-k-test.true, c.args.c.now.checked.opened.few_gates)), under_gate _ _ c.gate_adds-adds.ensures)

pub loop-k-preserved : goal.loop-k-preserved
loop-k-preserved c =
    sums_turn (gate_steps c.args.c.now.file.now) _ _ _ c.loop-k.invariant
    (gate_sum _ _ _ _ _ c.gate_deals.ensures.value c.gate_adds-adds.ensures c.added-more.ensures)
