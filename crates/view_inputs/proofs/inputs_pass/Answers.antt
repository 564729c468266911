use Rattle.std.proofs.Common.{arith, ◌<◌, ◌∙◌}
use Rattle.check_tests.specs.Seat.{seat}
use Rattle.run_passes.specs.Mirror.{st}
use Rattle.file_parts.proofs.LoopLaws.{at_end}
use Rattle.view_inputs.specs.Mirror.{ins_seen}
use Rattle.view_inputs.proofs.InsLaws.{ins_start, ins_turn, ins_room}
use Rattle.view_inputs.proofs.inputs_pass.Goals as goal

pub loop-k-init : goal.loop-k-init
loop-k-init c = let a = c.args in ins_start a.c.now.file.now a.inputs.now a.tapes.now (seat a.site) a.store.now a.got.now _ c.requires.seeing _ c.requires.start

pub input_step-pos-requires : goal.input_step-pos-requires
input_step-pos-requires c =
    let a = c.args in let l = c.loop-k in let t : c.loop-k.k < c.args.c.now.counts.inputs = omega arith in
    let r = ins_room a.c.now.file.now a.inputs.now a.tapes.now (seat a.site) a.store.now a.got.now _ c.requires.seeing _ _ (st _ _ _) t l.auto.got l.invariant in
    record { k_lt_inputs = t; store_len = l.auto.store ∙ c.requires.seeing.ls; small = r.0; room = r.1 }

pub loop-k-preserved : goal.loop-k-preserved
loop-k-preserved c =
    let a = c.args in let t : c.loop-k.k < c.args.c.now.counts.inputs = omega arith in
    ins_turn a.c.now.file.now a.inputs.now a.tapes.now (seat a.site) a.store.now a.got.now _ c.requires.seeing _ (st _ _ _) _ t c.loop-k.invariant c.input_step-pos.ensures

pub returns : goal.returns
returns c = at_end (ins_seen _ _ _ _ _ _ _) _ _ _ c.loop-k.invariant (omega arith) (omega arith)
