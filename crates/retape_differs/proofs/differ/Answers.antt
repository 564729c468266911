use Rattle.retape_differs.proofs.DiffersLaws.{own_fault, opened_fault, no_fault}
use Rattle.retape_differs.proofs.differ.Goals as goal

pub returns-in-Some : goal.returns-in-Some
returns-in-Some c = own_fault _ _ _ _ _ c.args.c.now.checked _ c.in-Some.ensures

pub returns-in_err-output : goal.returns-in_err-output
returns-in_err-output c =
    let none = no_fault _ _ _ _ _ c.args.c.now.checked _ c.requires.room_value c.in_default.ensures c.in_err-output.ensures in cc

pub returns : goal.returns
returns c = opened_fault _ _ _ _ _ c.args.c.now.checked _ c.requires.room_value c.in_default.ensures _ c.in_ok-output.ensures
