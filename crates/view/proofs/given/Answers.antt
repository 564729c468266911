use Rattle.std.proofs.Common.{refl, ap, ◌∙◌, ℕ, ◌+◌, ◌*◌, List, [], ◌∷◌}
use Rattle.std.proofs.lemmas.Result.{err_from_is_err_and}
use Rattle.theory_sharing.specs.Circuit.{owned}
use Rattle.theory_sharing.specs.Sites.{Site}
use Rattle.theory_calls.specs.File.{circuit}
use Rattle.file_counts.specs.declared.Counted.{Counted}
use Rattle.check_tests.proofs.SeatLaws.{seated_is}
use Rattle.check_slices.proofs.ChainLaws.{nothing, sizes_stop, sizes_go, site_stop, site_go}
use Rattle.check_given.proofs.GivenLaws.{slices_stop, slices_go}
use Rattle.view.proofs.ViewLaws.{view_sizes}
use Rattle.view.proofs.given.Goals as goal

abbrev buffers : Counted → ℕ → ℕ → ℕ → List (ℕ × ℕ)
buffers c own v st = let n = c.circuit.counts in (v, 2 * n.inputs + own + 6 * c.ands + 3 * n.outputs) ∷ (st, 6 * (n.inputs + n.gates)) ∷ []

pub returns-in_err-slices-clause-checks : goal.returns-in_err-slices-clause-checks
returns-in_err-slices-clause-checks c =
    let p = err_from_is_err_and c.from_residual.result c.from_residual.ensures.1 in
    rw (p.1, p.2) (slices_stop _ _ _ _ _ c.in_err-slices.ensures)

pub returns-in_err-seat-clause-checks : goal.returns-in_err-seat-clause-checks
returns-in_err-seat-clause-checks c =
    let p = err_from_is_err_and c.from_residual-in_err-seat.result c.from_residual-in_err-seat.ensures.1 in
    rw (p.1, p.2) (site_stop _ _ c.args.site (slices_go _ _ _ _ c.in_ok-slices.ensures) _ c.in_err-seat.ensures)

pub returns-in_err-first_size-clause-checks : goal.returns-in_err-first_size-clause-checks
returns-in_err-first_size-clause-checks c =
    let p = err_from_is_err_and c.from_residual-in_err-first_size.result c.from_residual-in_err-first_size.ensures.1 in
    let k = c.args.c.now in let o = k.circuit.checked.opened in
    let e = c.owned_by-own.ensures.value ∙ ap (λ (s : Site). owned (circuit k.circuit.file.now).owner s k.circuit.counts.inputs) (seated_is _ _ c.in_ok-seat.ensures) in
    rw (p.1, p.2) (sizes_stop _ _ (buffers c.args.c.now c.owned_by-own.result c.args.view c.args.store) _ _ refl (view_sizes _ _ _ o k.counted.0 _ _ e)
    (site_go _ _ c.args.site (slices_go _ _ _ _ c.in_ok-slices.ensures) _ c.in_ok-seat.ensures) _ c.in_err-first_size.ensures)

pub returns-clause-checks : goal.returns-clause-checks
returns-clause-checks c =
    let k = c.args.c.now in let o = k.circuit.checked.opened in
    let e = c.owned_by-own.ensures.value ∙ ap (λ (s : Site). owned (circuit k.circuit.file.now).owner s k.circuit.counts.inputs) (seated_is _ _ c.in_ok-seat.ensures) in
    nothing
    ∙ sizes_go _ _ (buffers c.args.c.now c.owned_by-own.result c.args.view c.args.store) _ _ refl (view_sizes _ _ _ o k.counted.0 _ _ e)
    (site_go _ _ c.args.site (slices_go _ _ _ _ c.in_ok-slices.ensures) _ c.in_ok-seat.ensures) c.in_ok-first_size.ensures
