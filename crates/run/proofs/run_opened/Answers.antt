use Rattle.std.proofs.lemmas.Result.{err_from_is_err_and}
use Rattle.run.proofs.RunCall.{run_given_no, ready, outs_ready, accepted_run}
use Rattle.run.proofs.run_opened.Goals as goal

pub returns-in_err-run : goal.returns-in_err-run
returns-in_err-run c =
    let p = err_from_is_err_and c.from_residual.result c.from_residual.ensures.1 in
    rw (p.1, p.2, ← c.from-c.ensures) (run_given_no _ _ _ _ _ _ _ c.from-c.result.circuit.checked.passes _ c.in_err-run.ensures)

pub run_checked-requires : goal.run_checked-requires
run_checked-requires c =
    let a = c.args in
    let k = c.from-c.result.circuit in
    let e = c.in_ok-run.ensures in
    record {
      ready = ready k.file.now a.inputs.now a.tapes.now a.line.now a.outputs.now a.transcript.now a.store.now _ k.checked e;
      outs_len = outs_ready k.file.now a.inputs.now a.tapes.now a.line.now a.outputs.now a.transcript.now a.store.now _ k.checked e;
    }

pub returns : goal.returns
returns c = rw (← c.from-c.ensures) (accepted_run _ _ _ _ _ _ _ _ c.from-c.result.circuit.checked c.in_ok-run.ensures _ _ _ _ c.run_checked.ensures)
