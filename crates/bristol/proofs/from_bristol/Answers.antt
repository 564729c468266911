use Rattle.std.proofs.lemmas.Result.{err_from_is_err_and}
use Rattle.bristol.proofs.CallLaws.{room_wrong, line_refused, outs_fit, rest_refused, limits, seated, filed}
use Rattle.bristol.proofs.from_bristol.Goals as goal

pub returns-then-room-ne20000 : goal.returns-then-room-ne20000
returns-then-room-ne20000 c = room_wrong _ _ _ c.if-room-ne20000.true

pub returns-in_err-pass : goal.returns-in_err-pass
returns-in_err-pass c =
    let n = c.new-numbering.ensures in
    let p = err_from_is_err_and c.from_residual.result c.from_residual.ensures.1 in
    rw (p.1, p.2) (line_refused c.args.text.now c.args.owners.now c.args.room.now c.if-room-ne20000.false _ n.map n.gates n.text _ c.in_err-pass.ensures.told.0)

pub rest_check-requires : goal.rest_check-requires
rest_check-requires c =
    let n = c.new-numbering.ensures in
    outs_fit c.args.text.now c.args.owners.now c.args.room.now c.if-room-ne20000.false _ n.map n.gates n.text c.in_ok-pass.pass _ c.in_ok-pass.ensures.told

pub returns-in_err-rest_check : goal.returns-in_err-rest_check
returns-in_err-rest_check c =
    let n = c.new-numbering.ensures in
    let p = err_from_is_err_and c.from_residual-in_err-rest_check.result c.from_residual-in_err-rest_check.ensures.1 in
    rw (p.1, p.2)
    (rest_refused c.args.text.now c.args.owners.now c.args.room.now c.if-room-ne20000.false _ n.map n.gates n.text c.in_ok-pass.pass _ c.in_ok-pass.ensures.told _ c.rest_check.ensures _ c.in_err-rest_check.was)

pub put_numbered-requires-clause-few : goal.put_numbered-requires-clause-few
put_numbered-requires-clause-few c =
    let n = c.new-numbering.ensures in
    limits c.args.text.now c.args.owners.now c.args.room.now c.if-room-ne20000.false _ n.map n.gates n.text c.in_ok-pass.pass _ c.in_ok-pass.ensures.told _ c.rest_check.ensures c.in_ok-rest_check.ensures

pub put_numbered-requires-clause-seated : goal.put_numbered-requires-clause-seated
put_numbered-requires-clause-seated c =
    let n = c.new-numbering.ensures in
    seated c.args.text.now c.args.owners.now c.args.room.now c.if-room-ne20000.false _ n.map n.gates n.text c.in_ok-pass.pass _ c.in_ok-pass.ensures.told _ c.rest_check.ensures c.in_ok-rest_check.ensures

pub returns : goal.returns
returns c =
    let n = c.new-numbering.ensures in
    filed c.args.text.now c.args.owners.now c.args.room.now c.if-room-ne20000.false _ n.map n.gates n.text c.in_ok-pass.pass _ c.in_ok-pass.ensures.told _ c.rest_check.ensures c.in_ok-rest_check.ensures _ _ c.put_numbered.ensures.room_after c.put_numbered.ensures.value
