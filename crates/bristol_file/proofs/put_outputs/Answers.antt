use native.Mathlib.Omega.{arith}
use Rattle.bristol_file.proofs.FileLaws.{outs_turn, outs_end}
use Rattle.bristol_file.proofs.put_outputs.Goals as goal

pub loop-w-preserved : goal.loop-w-preserved
loop-w-preserved c =
    let h = c.requires.few in
    outs_turn _ _ _ _ _ _ _ _ c.loop-w.invariant _ _ (omega arith) (rw (← c.ours.ensures) c.put_u16-to.ensures.to_after) c.put_u16-to.ensures.value

pub returns-clause-room_after : goal.returns-clause-room_after
returns-clause-room_after c =
    let h = c.requires.few in
    (outs_end _ _ _ _ _ _ _ _ c.loop-w.invariant (omega arith)).0
