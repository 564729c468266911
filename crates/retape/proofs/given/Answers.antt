use Rattle.std.proofs.Common.{refl, ◌∙◌, ℕ, ◌+◌, ◌*◌, List, [], ◌∷◌}
use Rattle.std.proofs.lemmas.Result.{err_from_is_err_and}
use Rattle.file_counts.specs.declared.Counted.{Counted}
use Rattle.check_slices.proofs.ChainLaws.{nothing, bits_stop, bits_go, sizes_stop, sizes_go, site_stop, site_go}
use Rattle.check_given.proofs.GivenLaws.{slices_stop, slices_go}
use Rattle.retape.proofs.RetapeCall.{retape_sizes}
use Rattle.retape.proofs.given.Goals as goal

abbrev buffers : Counted → ℕ → ℕ → List (ℕ × ℕ)
buffers c f r = let n = c.circuit.counts in (f, 2 * n.inputs + 6 * c.ands) ∷ (r, 4 * (n.inputs + n.gates)) ∷ []

pub returns-in_err-slices-clause-checks : goal.returns-in_err-slices-clause-checks
returns-in_err-slices-clause-checks c =
    let p = err_from_is_err_and c.from_residual.result c.from_residual.ensures.1 in
    rw (p.1, p.2) (slices_stop _ _ _ _ _ c.in_err-slices.ensures)

pub returns-in_err-seat-clause-checks : goal.returns-in_err-seat-clause-checks
returns-in_err-seat-clause-checks c =
    let p = err_from_is_err_and c.from_residual-in_err-seat.result c.from_residual-in_err-seat.ensures.1 in
    rw (p.1, p.2) (site_stop _ _ c.args.site (slices_go _ _ _ _ c.in_ok-slices.ensures) _ c.in_err-seat.ensures)

pub returns-in_err-first_size-clause-checks : goal.returns-in_err-first_size-clause-checks
returns-in_err-first_size-clause-checks c =
    let p = err_from_is_err_and c.from_residual-in_err-first_size.result c.from_residual-in_err-first_size.ensures.1 in
    let o = c.args.c.now.circuit.checked.opened in let n = c.args.c.now.counted.0 in
    rw (p.1, p.2) (sizes_stop _ _ (buffers c.args.c.now c.args.fresh c.args.room) _ _ refl (retape_sizes _ _ _ o n)
    (site_go _ _ c.args.site (slices_go _ _ _ _ c.in_ok-slices.ensures) _ c.in_ok-seat.ensures) _ c.in_err-first_size.ensures)

pub returns-in_err-bits-clause-checks : goal.returns-in_err-bits-clause-checks
returns-in_err-bits-clause-checks c =
    let p = err_from_is_err_and c.from_residual-in_err-bits.result c.from_residual-in_err-bits.ensures.1 in
    let q = c.in_err-bits.ensures in
    let o = c.args.c.now.circuit.checked.opened in let n = c.args.c.now.counted.0 in
    rw (p.1, p.2, q.2) (bits_stop _ 12 _ c.args.second.now _ _ o.ins_are
    (sizes_go _ _ (buffers c.args.c.now c.args.fresh c.args.room) _ _ refl (retape_sizes _ _ _ o n)
    (site_go _ _ c.args.site (slices_go _ _ _ _ c.in_ok-slices.ensures) _ c.in_ok-seat.ensures) c.in_ok-first_size.ensures) q.0 q.1)

pub returns-clause-checks : goal.returns-clause-checks
returns-clause-checks c =
    let o = c.args.c.now.circuit.checked.opened in let n = c.args.c.now.counted.0 in
    nothing
    ∙ bits_go _ 12 _ c.args.second.now _ _ o.ins_are
    (sizes_go _ _ (buffers c.args.c.now c.args.fresh c.args.room) _ _ refl (retape_sizes _ _ _ o n)
    (site_go _ _ c.args.site (slices_go _ _ _ _ c.in_ok-slices.ensures) _ c.in_ok-seat.ensures) c.in_ok-first_size.ensures) c.in_ok-bits.ensures
