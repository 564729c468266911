use Rattle.file_parts.proofs.LoopLaws.{none_yet, turn}
use Rattle.plain.proofs.gates_pass.Goals as goal

pub loop-k-init : goal.loop-k-init
loop-k-init c = none_yet _ _

pub loop-k-preserved : goal.loop-k-preserved
loop-k-preserved c = turn _ _ _ _ _ c.loop-k.invariant c.gate_step.ensures
