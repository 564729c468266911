use mathlib.Core.Path.{◌∙◌}
use Prim.Native.Nat.{◌<◌}
use native.Mathlib.Omega.{arith}
use Rattle.file_parts.proofs.LoopLaws.{none_yet, turn}
use Rattle.run_passes.specs.Mirror.{st}
use Rattle.run_passes.proofs.PassLaws.{in_room_at}
use Rattle.run_passes.proofs.inputs_pass.Goals as goal

pub loop-k-init : goal.loop-k-init
loop-k-init c = none_yet _ _

pub input_step-pos-requires : goal.input_step-pos-requires
input_step-pos-requires c =
    let a = c.args in
    let h : c.loop-k.k < a.c.now.counts.inputs = omega arith in
    let r = in_room_at _ a.inputs.now _ _ _ _ (st _ _ _) _ _ _ _ h c.loop-k.auto.transcript c.requires.in_room c.loop-k.invariant in
    record { k_lt_inputs = h; store_len = c.loop-k.auto.store ∙ c.requires.store_len; small = r.0; room = r.1 }

pub loop-k-preserved : goal.loop-k-preserved
loop-k-preserved c = turn _ _ _ _ _ c.loop-k.invariant c.input_step-pos.ensures
