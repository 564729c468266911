use Rattle.plain.proofs.ValueLaws.{values_law}
use Rattle.plain.proofs.values_pass.Goals as goal

pub returns : goal.returns
returns c = values_law _ _ _ _ _ _ c.args.c.now.checked c.requires.inputs_len c.requires.values_len c.inputs_pass.ensures c.gates_pass.ensures
