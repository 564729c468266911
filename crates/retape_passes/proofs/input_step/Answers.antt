-- Three owners, each with its own deal and its own way out. No lemma is lacking: a need cites one law, and its length is the places of its facts.
use Rattle.std.proofs.Common.{arith, sym, ◌∙◌}
use Rattle.retape_passes.proofs.StepLaws.{fits_own, fits_next, fits_prev, input_own, input_next, input_prev}
use Rattle.retape_passes.proofs.input_step.Goals as goal

pub deal-d-requires : goal.deal-d-requires
deal-d-requires c = fits_own _ _ _ _ _ _ (sym c.owns.ensures ∙ c.if-owns.true) c.requires.in_fits

pub overflow_add-result : goal.overflow_add-result
overflow_add-result c =
    let f = c.requires.in_fits in let h = fits_own _ _ _ _ _ _ (sym c.owns.ensures ∙ c.if-owns.true) f in let l = c.requires.in_fits.few_own in
    omega arith

pub returns-then-owns : goal.returns-then-owns
returns-then-owns c =
    let a = c.args in
    input_own a.tapes.now.own.now a.tapes.now.next.now a.tapes.now.prev.now _ _ _ _ _ _ a.at _ _ _ _ c.wires-n.ensures.0 c.put_in.ensures _ _ (sym c.owns.ensures ∙ c.if-owns.true) c.deal-d.ensures c.kept.ensures

pub deal-d-requires-then-owns-2 : goal.deal-d-requires-then-owns-2
deal-d-requires-then-owns-2 c = fits_next _ _ _ _ _ _ (sym c.owns.ensures ∙ c.if-owns.false) (sym c.owns-2.ensures ∙ c.if-owns-2.true) c.requires.in_fits

pub put_draws-requires : goal.put_draws-requires
put_draws-requires c =
    let p = c.requires in let f = c.requires.in_fits in let l = c.requires.in_fits.few_next in
    let h = fits_next _ _ _ _ _ _ (sym c.owns.ensures ∙ c.if-owns.false) (sym c.owns-2.ensures ∙ c.if-owns-2.true) f in
    (omega arith, omega arith)

pub overflow_add-result-then-owns-2 : goal.overflow_add-result-then-owns-2
overflow_add-result-then-owns-2 c =
    let f = c.requires.in_fits in let l = c.requires.in_fits.few_next in
    let h = fits_next _ _ _ _ _ _ (sym c.owns.ensures ∙ c.if-owns.false) (sym c.owns-2.ensures ∙ c.if-owns-2.true) f in
    omega arith

pub returns-then-owns-2 : goal.returns-then-owns-2
returns-then-owns-2 c =
    let a = c.args in
    input_next a.tapes.now.own.now a.tapes.now.next.now a.tapes.now.prev.now _ _ _ _ _ _ a.at _ _ _ _ c.wires-n.ensures.0 c.put_in-then-owns-2.ensures _ _ (sym c.owns.ensures ∙ c.if-owns.false)
    (sym c.owns-2.ensures ∙ c.if-owns-2.true) c.deal-d-then-owns-2.ensures c.prev.ensures _ c.put_draws.ensures

pub deal-d-requires-2 : goal.deal-d-requires-2
deal-d-requires-2 c = fits_prev _ _ _ _ _ _ (sym c.owns.ensures ∙ c.if-owns.false) (sym c.owns-2.ensures ∙ c.if-owns-2.false) c.requires.in_fits

pub overflow_add-result-2 : goal.overflow_add-result-2
overflow_add-result-2 c =
    let f = c.requires.in_fits in let l = c.requires.in_fits.few_prev in
    let h = fits_prev _ _ _ _ _ _ (sym c.owns.ensures ∙ c.if-owns.false) (sym c.owns-2.ensures ∙ c.if-owns-2.false) f in
    omega arith

pub returns : goal.returns
returns c =
    let a = c.args in
    input_prev a.tapes.now.own.now a.tapes.now.next.now a.tapes.now.prev.now _ _ _ _ _ _ a.at _ _ _ _ c.wires-n.ensures.0 c.put_in-2.ensures _ _ (sym c.owns.ensures ∙ c.if-owns.false)
    (sym c.owns-2.ensures ∙ c.if-owns-2.false) c.deal-d-2.ensures c.next.ensures
