use Rattle.file_parts.proofs.LoopLaws.{none_yet, turn}
use Rattle.run_passes.specs.Mirror.{st}
use Rattle.run_passes.proofs.PassLaws.{room_at}
use Rattle.run_passes.proofs.gates_pass.Goals as goal

pub loop-k-init : goal.loop-k-init
loop-k-init c = none_yet _ _

pub gate_step-pos-requires-clause-room : goal.gate_step-pos-requires-clause-room
gate_step-pos-requires-clause-room c =
    let l = c.loop-k in room_at _ _ _ _ _ _ (st _ _ _) _ _ _ _ c.loop-k-test.true l.auto.transcript c.requires.room l.invariant

pub loop-k-preserved : goal.loop-k-preserved
loop-k-preserved c = turn _ _ _ _ _ c.loop-k.invariant c.gate_step-pos.ensures
