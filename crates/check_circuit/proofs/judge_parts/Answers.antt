use Rattle.check_circuit.proofs.CheckLaws.{parts_owner, parts_gate, parts_output, parts_good}
use Rattle.check_circuit.proofs.judge_parts.Goals as goal

pub returns-in-Some : goal.returns-in-Some
returns-in-Some c = parts_owner _ _ _ c.in-Some.ensures

pub returns-in-Some-first_gate : goal.returns-in-Some-first_gate
returns-in-Some-first_gate c = parts_gate _ _ _ c.in_default.ensures c.in-Some-first_gate.ensures

pub returns-in-Some-first_output : goal.returns-in-Some-first_output
returns-in-Some-first_output c = parts_output _ _ _ c.in_default.ensures c.in_default-first_gate.ensures c.in-Some-first_output.ensures

pub returns : goal.returns
returns c = parts_good _ _ c.in_default.ensures c.in_default-first_gate.ensures c.in_default-first_output.ensures
