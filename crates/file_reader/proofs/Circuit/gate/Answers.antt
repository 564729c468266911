use Rattle.file_parts.proofs.CheckedLaws.{kind_known, gate_lower}
use Rattle.file_reader.proofs.Circuit.gate.Goals as goal

pub returns-clause-known : goal.returns-clause-known
returns-clause-known c = rw (c.gate_at.ensures, c.open.ensures.file, c.open.ensures.counts) (kind_known _ _ c.args.self.now.checked _ c.requires)

pub returns-clause-lower : goal.returns-clause-lower
returns-clause-lower c = rw (c.gate_at.ensures, c.open.ensures.file, c.open.ensures.counts) (gate_lower _ _ c.args.self.now.checked _ c.requires)
