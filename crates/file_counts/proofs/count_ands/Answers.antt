use Rattle.std.proofs.Common.{arith}
use Rattle.file_counts.proofs.CountLaws.{ands_none, ands_turn}
use Rattle.file_counts.proofs.count_ands.Goals as goal

pub loop-k-init : goal.loop-k-init
loop-k-init c = (ands_none _, omega arith)

pub loop-k-preserved : goal.loop-k-preserved
loop-k-preserved c = (ands_turn _ _ _ _ c.loop-k.invariant.0 c.gate_deals-ands.ensures.value, omega (arith, c.loop-k.invariant.1, c.gate_deals-ands.ensures.bound))
