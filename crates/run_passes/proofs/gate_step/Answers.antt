use Rattle.run_passes.proofs.PassLaws.{step_done, step_room}
use Rattle.run_passes.proofs.gate_step.Goals as goal

pub and_gate-requires-clause-room : goal.and_gate-requires-clause-room
and_gate-requires-clause-room c = step_room _ _ _ _ _ _ c.in-Deal.ensures.is c.requires.room

pub returns-in-Add : goal.returns-in-Add
returns-in-Add c = step_done _ _ _ _ _ _ _ _ c.in-Add.ensures.is (cc c.wires-n.ensures.0)

pub returns-in-Flip : goal.returns-in-Flip
returns-in-Flip c = step_done _ _ _ _ _ _ _ _ c.in-Flip.ensures.is (cc c.wires-n.ensures.0)

pub returns-in-Deal : goal.returns-in-Deal
returns-in-Deal c = step_done _ _ _ _ _ _ _ _ c.in-Deal.ensures.is (cc c.wires-n.ensures.0)
