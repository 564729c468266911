use Rattle.plain.proofs.ValueLaws.{read_gate}
use Rattle.plain.proofs.gate_step.Goals as goal

pub returns : goal.returns
returns c = read_gate _ _ c.args.c.now.counts _ _ _ c.gate-gate.ensures.stored c.gate_value.ensures
