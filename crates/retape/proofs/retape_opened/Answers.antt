use Rattle.std.proofs.Common.{sym}
use Rattle.std.proofs.lemmas.Result.{err_from_is_err_and}
use Rattle.check_circuit.proofs.FrontLaws.{done_given}
use Rattle.retape.proofs.RetapeCall.{front}
use Rattle.retape.proofs.retape_opened.Goals as goal

pub returns-in_err-seat : goal.returns-in_err-seat
returns-in_err-seat c =
    let p = err_from_is_err_and c.from_residual.result c.from_residual.ensures.1 in
    rw (p.1, p.2, ← c.from-counted.ensures) (done_given _ _ _ _ _ (front _ _ _ _ _ _ _) c.from-counted.result.circuit.checked.passes _ c.in_err-seat.ensures.checks)

pub retape_given-requires : goal.retape_given-requires
retape_given-requires c = rw (← c.in_ok-seat.ensures.seated) (sym c.in_ok-seat.ensures.checks)

pub returns : goal.returns
returns c = rw (← c.from-counted.ensures, c.in_ok-seat.ensures.seated) c.retape_given.ensures
