use Rattle.std.proofs.Common.{sym}
use Rattle.check_tests.specs.Seat.{number_of}
use Rattle.retape.proofs.RetapeCall.{ready, values_front, differs_refused, accepted_retape}
use Rattle.retape.proofs.retape_given.Goals as goal

pub both_values-requires : goal.both_values-requires
both_values-requires c =
    let a = c.args in let f = a.c.now.circuit in
    let r = ready f.file.now a.inputs.now a.tapes.now a.second.now (number_of a.site) a.fresh.now a.room.now _ f.checked (sym c.requires) in
    record { inputs_len = (r.in_x.long, r.in_y.long); room_len = r.wr_long }

pub differ-requires : goal.differ-requires
differ-requires c =
    let a = c.args in let f = a.c.now.circuit in
    let r = ready f.file.now a.inputs.now a.tapes.now a.second.now (number_of a.site) a.fresh.now a.room.now _ f.checked (sym c.requires) in
    let v = values_front f.file.now a.inputs.now a.tapes.now a.second.now (number_of a.site) a.fresh.now a.room.now _ f.checked (sym c.requires) _ c.both_values.ensures in
    record { inputs_len = (r.in_x.long, r.in_y.long); room_len = v.0; room_value = v.1 }

pub returns-in-Some : goal.returns-in-Some
returns-in-Some c =
    differs_refused _ _ _ _ _ _ _ _ c.args.c.now.circuit.checked (sym c.requires) _ c.in-Some.ensures _ c.both_values.ensures

pub renew-requires : goal.renew-requires
renew-requires c =
    let a = c.args in let f = a.c.now.circuit in
    let r = ready f.file.now a.inputs.now a.tapes.now a.second.now (number_of a.site) a.fresh.now a.room.now _ f.checked (sym c.requires) in
    let v = values_front f.file.now a.inputs.now a.tapes.now a.second.now (number_of a.site) a.fresh.now a.room.now _ f.checked (sym c.requires) _ c.both_values.ensures in
    record { inputs_bits = (r.in_x, r.in_y); tapes_len = (r.t_long, r.nt_long); room_len = v.0; room_value = v.1 }

pub returns : goal.returns
returns c =
    accepted_retape _ _ _ _ _ _ _ _ c.args.c.now.circuit.checked (sym c.requires) c.in_default.ensures _ _ c.renew.ensures.fresh_after c.renew.ensures.room_after
