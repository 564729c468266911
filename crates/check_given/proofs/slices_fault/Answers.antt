use Rattle.std.proofs.Common.{refl, ◌∙◌}
use Rattle.std.proofs.lemmas.Result.{err_from_is_err_and}
use Rattle.check_slices.proofs.ChainLaws.{nothing, bits_stop, bits_go}
use Rattle.check_given.proofs.GivenLaws.{tapes_are}
use Rattle.check_given.proofs.slices_fault.Goals as goal

pub returns-in_err-bits : goal.returns-in_err-bits
returns-in_err-bits c =
    let p = err_from_is_err_and c.from_residual.result c.from_residual.ensures.1 in
    let q = c.in_err-bits.ensures in
    rw (p.1, p.2, q.2) (bits_stop _ 7 _ c.args.inputs.now _ _ c.args.f.now.opened.ins_are refl q.0 q.1)

pub returns-in_err-bits-2 : goal.returns-in_err-bits-2
returns-in_err-bits-2 c =
    let o = c.args.f.now.opened in
    let p = err_from_is_err_and c.from_residual-in_err-bits-2.result c.from_residual-in_err-bits-2.ensures.1 in
    let q = c.in_err-bits-2.ensures in
    rw (p.1, p.2, q.2) (bits_stop _ 8 _ c.args.tapes.now _ _ (tapes_are _ _ _ o c.requires.counted.0)
    (bits_go _ 7 _ c.args.inputs.now _ _ o.ins_are refl c.in_ok-bits.ensures) q.0 q.1)

pub returns : goal.returns
returns c =
    let o = c.args.f.now.opened in
    nothing
    ∙ bits_go _ 8 _ c.args.tapes.now _ _ (tapes_are _ _ _ o c.requires.counted.0)
    (bits_go _ 7 _ c.args.inputs.now _ _ o.ins_are refl c.in_ok-bits.ensures) c.in_ok-bits-2.ensures
