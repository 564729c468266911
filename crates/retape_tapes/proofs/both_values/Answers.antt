use Rattle.retape_tapes.proofs.PartLaws.{values_in}
use Rattle.retape_tapes.proofs.both_values.Goals as goal

pub returns : goal.returns
returns c =
    let a = c.args in values_in _ _ a.c.now.checked.opened a.inputs.now a.second.now a.room.now _ _ c.requires.room_len c.values_pass.ensures c.values_pass-2.ensures _ c.wires-n.ensures.0
