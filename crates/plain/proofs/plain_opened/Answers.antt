use Rattle.std.proofs.Common.{sym, ◌∙◌}
use Rattle.std.proofs.lemmas.Result.{err_from_is_err_and}
use Rattle.check_slices.proofs.BitsLaws.{bits_right}
use Rattle.plain.proofs.PlainCall.{inputs_stop, buffer_stop, accepted_plain}
use Rattle.plain.proofs.plain_opened.Goals as goal

pub returns-in_err-bits : goal.returns-in_err-bits
returns-in_err-bits c =
    let p = err_from_is_err_and c.from_residual.result c.from_residual.ensures.1 in
    let q = c.in_err-bits.ensures in
    rw (p.1, p.2, q.2) (inputs_stop _ _ _ _ c.args.c.now.checked q.0 q.1)

pub returns-then-values-wires : goal.returns-then-values-wires
returns-then-values-wires c = buffer_stop _ _ _ _ c.args.c.now.checked c.in_ok-bits.ensures (λ e. c.if-values-wires.true (e ∙ sym c.wires.ensures.0))

pub values_pass-requires-clause-inputs_len : goal.values_pass-requires-clause-inputs_len
values_pass-requires-clause-inputs_len c = bits_right c.args.inputs.now _ c.in_ok-bits.ensures

pub returns : goal.returns
returns c = accepted_plain _ _ _ _ c.args.c.now.checked c.in_ok-bits.ensures (c.if-values-wires.false ∙ c.wires.ensures.0) _ c.values_pass.ensures
