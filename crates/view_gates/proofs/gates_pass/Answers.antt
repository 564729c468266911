use Rattle.std.proofs.Common.{◌∙◌}
use Rattle.run_passes.specs.Mirror.{st}
use Rattle.file_parts.specs.Loop.{up_to}
use Rattle.file_parts.proofs.LoopLaws.{none_yet, turn, at_end}
use Rattle.view_gates.proofs.GatesLaws.{gates_room}
use Rattle.view_gates.proofs.gates_pass.Goals as goal

pub loop-k-init : goal.loop-k-init
loop-k-init c = none_yet _ _

pub gate_step-pos-requires : goal.gate_step-pos-requires
gate_step-pos-requires c = let l = c.loop-k in let t = c.loop-k-test.true in
    record { k_lt_gates = t; store_len = l.auto.store ∙ c.requires.seeing.ls; and_room = gates_room _ _ _ _ _ _ c.requires.seeing (st _ _ _) c.requires.begun _ _ (st _ _ _) t l.auto.got l.invariant }

pub loop-k-preserved : goal.loop-k-preserved
loop-k-preserved c = turn _ _ _ _ _ c.loop-k.invariant c.gate_step-pos.ensures

pub returns : goal.returns
returns c = let l = c.loop-k in at_end (up_to _ _) _ _ _ l.invariant l.auto.k-end c.loop-k-test.false
