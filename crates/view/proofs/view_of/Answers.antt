use Rattle.std.proofs.lemmas.Result.{err_from_is_err_and}
use Rattle.check_circuit.proofs.FrontLaws.{done_circuit}
use Rattle.view.proofs.ViewCall.{front}
use Rattle.view.proofs.view_of.Goals as goal

pub returns-in_err-c : goal.returns-in_err-c
returns-in_err-c c =
    let p = err_from_is_err_and c.from_residual.result c.from_residual.ensures.1 in
    rw (p.1, p.2) (done_circuit _ _ _ _ _ (front _ _ _ _ _ _) _ c.in_err-c.ensures.value)

pub returns : goal.returns
returns c = rw (← c.in_ok-c.ensures.lent) c.view_opened.ensures
