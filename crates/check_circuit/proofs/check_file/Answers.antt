use Rattle.check_circuit.proofs.CheckLaws.{check_out, check_in}
use Rattle.check_circuit.proofs.check_file.Goals as goal

pub returns-in_default-clause-value : goal.returns-in_default-clause-value
returns-in_default-clause-value c = (check_out c.read_header-header.result _ _ c.read_header-header.ensures.value c.in_default.is).0

pub returns-clause-value : goal.returns-clause-value
returns-clause-value c = (check_in c.read_header-header.result _ _ _ c.read_header-header.ensures.value c.read_header-header.ensures.opened c.in-Ok.is c.judge_parts.ensures).0

pub returns-clause-checked : goal.returns-clause-checked
returns-clause-checked c = (check_in c.read_header-header.result _ _ _ c.read_header-header.ensures.value c.read_header-header.ensures.opened c.in-Ok.is c.judge_parts.ensures).1
