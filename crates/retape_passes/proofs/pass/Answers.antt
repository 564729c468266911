use mathlib.Core.Path.{◌∙◌}
use Rattle.retape_pairs.specs.Mirror.{st}
use Rattle.retape_passes.proofs.BothPasses.{gates_fit, walked}
use Rattle.retape_passes.proofs.pass.Goals as goal

pub gates_pass-requires : goal.gates_pass-requires
gates_pass-requires c =
    let a = c.args in record { room_len = (c.inputs_pass-at.auto.room ∙ c.requires.room_len, c.inputs_pass-at.auto.moved ∙ c.requires.lengths.moved_is); fits = gates_fit _ _ a.c.now.checked _ a.inputs.now a.second.now a.tapes.now.own.now a.tapes.now.next.now a.tapes.now.prev.now a.room.now a.moved.now c.requires.room_len c.requires.lengths (st _ _ _) c.inputs_pass-at.ensures }

pub returns : goal.returns
returns c =
    let a = c.args in walked _ _ a.c.now.checked _ a.inputs.now a.second.now a.tapes.now.own.now a.tapes.now.next.now a.tapes.now.prev.now a.room.now a.moved.now c.requires.room_len c.requires.lengths c.requires.inputs_bits.0 c.requires.inputs_bits.1 c.requires.room_value
    (st _ _ _) (st _ _ _) c.inputs_pass-at.ensures c.gates_pass.ensures
