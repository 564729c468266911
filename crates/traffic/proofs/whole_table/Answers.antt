use native.Mathlib.Omega.{arith}
use Rattle.traffic.specs.Mirror.{input_steps, gate_steps, output_steps}
use Rattle.traffic.proofs.TrafficCall.{input_few, gate_few, output_few, under_sums, under_both, whole_is}
use Rattle.traffic.proofs.whole_table.Goals as goal

pub added-both-requires : goal.added-both-requires
added-both-requires c =
    let f = c.args.c.now.file.now in
    let o = c.args.c.now.checked.opened in
    let a = o.few_inputs in
    let b = o.few_gates in
    (under_sums (input_steps f) (input_few f) _ _ _ c.inputs_table-inputs.ensures (omega arith), under_sums (gate_steps f) (gate_few f) _ _ _ c.gates_table-gates.ensures (omega arith))

pub added-requires : goal.added-requires
added-requires c =
    let f = c.args.c.now.file.now in
    let o = c.args.c.now.checked.opened in
    let a = o.few_outputs in
    (under_both (input_steps f) (gate_steps f) (input_few f) (gate_few f) _ _ _ _ _ c.inputs_table-inputs.ensures c.gates_table-gates.ensures o.few_inputs o.few_gates c.added-both.ensures, under_sums output_steps output_few _ _ _ c.outputs_table-outputs.ensures (omega arith))

pub returns : goal.returns
returns c = whole_is _ _ _ _ _ _ _ c.args.c.now.checked.opened c.inputs_table-inputs.ensures c.gates_table-gates.ensures c.outputs_table-outputs.ensures c.added-both.ensures c.added.ensures
