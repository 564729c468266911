use mathlib.Core.Path.{◌∙◌}
use Rattle.std.proofs.lemmas.Result.{err_from_is_err_and}
use Rattle.listing.proofs.PartLaws.{slices_told, buffer_told, good_told, fit}
use Rattle.listing.proofs.list_opened.Goals as goal

pub returns-in_err-slices : goal.returns-in_err-slices
returns-in_err-slices c =
    let p = err_from_is_err_and c.from_residual.result c.from_residual.ensures.1 in
    rw (p.1, p.2, ← c.from-c.ensures) (slices_told _ _ _ _ c.from-c.result.circuit.checked.passes _ c.in_err-slices.ensures)

pub returns-then-text-ne2624 : goal.returns-then-text-ne2624
returns-then-text-ne2624 c = rw (← c.from-c.ensures) (buffer_told _ _ _ _ c.from-c.result.circuit.checked.passes c.in_ok-slices.ensures c.if-text-ne2624.true)

pub good-requires-clause-fit : goal.good-requires-clause-fit
good-requires-clause-fit c = fit _ _ _ c.in_ok-slices.ensures

pub returns : goal.returns
returns c = rw (← c.from-c.ensures) (c.good.ensures ∙ good_told _ _ _ _ c.from-c.result.circuit.checked.passes c.in_ok-slices.ensures c.if-text-ne2624.false)
