use Rattle.std.proofs.Common.{sym, ap, subst, ◌∙◌, length}
use Rattle.std.proofs.lemmas.Result.{err_from_is_err_and}
use Rattle.theory_sharing.specs.Sites.{Site}
use Rattle.theory_calls.specs.File.{site_of}
use Rattle.check_tests.proofs.SeatLaws.{seat_is}
use Rattle.check_circuit.proofs.FrontLaws.{done_given}
use Rattle.view.specs.Mirror.{Ready}
use Rattle.view.proofs.ViewCall.{front, ready, accepted_view}
use Rattle.view.proofs.view_opened.Goals as goal

pub returns-in_err-seat : goal.returns-in_err-seat
returns-in_err-seat c =
    let p = err_from_is_err_and c.from_residual.result c.from_residual.ensures.1 in
    rw (p.1, p.2, ← c.from-counted.ensures) (done_given _ _ _ _ _ (front _ _ _ _ _ _) c.from-counted.result.circuit.checked.passes _ c.in_err-seat.ensures.checks)

pub view_at-requires : goal.view_at-requires
view_at-requires c =
    let a = c.args in
    let k = c.from-counted.result.circuit in
    let r = ready k.file.now a.inputs.now a.tapes.now a.site a.view.now a.store.now _ k.checked c.in_ok-seat.ensures.checks in
    subst (λ (s : Site). Ready k.file.now k.counts s (length a.inputs.now) (length a.tapes.now) (length a.view.now) (length a.store.now))
    (ap site_of c.in_ok-seat.ensures.seated ∙ sym (seat_is c.in_ok-seat.seat)) r

pub returns : goal.returns
returns c =
    let v = rw (← c.in_ok-seat.ensures.seated) at c.view_at.ensures.view_after in
    rw (← c.from-counted.ensures) (accepted_view _ _ _ _ _ _ _ c.from-counted.result.circuit.checked c.in_ok-seat.ensures.checks _ _ v c.view_at.ensures.store_after)
