use Rattle.run_passes.specs.Mirror.{st}
use Rattle.run.proofs.RunLaws.{inputs_ready, gates_ready, shared}
use Rattle.run.proofs.shares.Goals as goal

pub inputs_pass-q-requires-clause-in_room : goal.inputs_pass-q-requires-clause-in_room
inputs_pass-q-requires-clause-in_room c = inputs_ready _ _ _ _ _ _ _ _ c.requires c.begin-pos.ensures

pub gates_pass-z-requires-clause-room : goal.gates_pass-z-requires-clause-room
gates_pass-z-requires-clause-room c =
    let a = c.args in
    gates_ready _ _ a.inputs.now _ _ a.store.now a.transcript.now _ _ (st _ _ _) c.requires c.begin-pos.ensures c.inputs_pass-q.auto.transcript c.inputs_pass-q.ensures

pub returns : goal.returns
returns c =
    let a = c.args in
    let q = shared _ _ a.inputs.now _ _ a.store.now _ _ (st _ _ _) (st _ _ _) c.requires c.begin-pos.ensures c.inputs_pass-q.ensures c.gates_pass-z.ensures in
    record { value = q.0; store_after = q.1; transcript_after = q.2 }
