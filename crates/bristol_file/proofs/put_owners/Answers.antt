use mathlib.Core.Path.{refl}
use native.Mathlib.Omega.{arith}
use Rattle.bristol_file.proofs.OwnerLaws.{here, here_room, owners_turn, owners_end}
use Rattle.bristol_file.proofs.put_owners.Goals as goal

pub unwrap-requires : goal.unwrap-requires
unwrap-requires c =
    let d = here _ _ c.args.seat _ _ _ _ _ _ c.loop-owner.invariant c.loop-owner-test.true _ c.next_word-width.ensures in
    rw d.number refl

pub put_owner-to-requires : goal.put_owner-to-requires
put_owner-to-requires c =
    let k = here_room _ _ c.args.seat _ _ _ _ _ _ c.loop-owner.invariant c.loop-owner-test.true _ c.next_word-width.ensures _ c.unwrap.ensures in
    omega (arith, k, c.requires.room_long, c.loop-owner.auto.room)

pub loop-owner-preserved : goal.loop-owner-preserved
loop-owner-preserved c =
    let l = c.loop-owner in
    owners_turn _ _ c.args.seat _ _ _ _ _ _ l.invariant c.loop-owner-test.true _ c.next_word-width.ensures _ _ _ c.unwrap.ensures c.put_owner-to.ensures.room_after c.put_owner-to.ensures.value

pub returns-clause-room_after : goal.returns-clause-room_after
returns-clause-room_after c = (owners_end _ _ c.args.seat _ _ _ _ _ _ c.loop-owner.invariant c.loop-owner-test.false).0

pub returns-clause-value : goal.returns-clause-value
returns-clause-value c = (owners_end _ _ c.args.seat _ _ _ _ _ _ c.loop-owner.invariant c.loop-owner-test.false).1
