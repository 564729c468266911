use native.Mathlib.Omega.{arith}
use Rattle.bristol_pass.proofs.LineLaws.{end_in, next_place}
use Rattle.bristol_pass.proofs.TurnLaws.{turn_on, turn_blank, stop_bad, stop_checked, turn_end, seat_inside}
use Rattle.bristol_pass.proofs.read_lines.Goals as goal

pub returns-in_default-clause-told : goal.returns-in_default-clause-told
returns-in_default-clause-told c = (stop_bad _ _ _ c.loop-at.pass.seat _ _ _ c.loop-at-test.true _ c.loop-at.invariant.3 _ c.in_default.is c.line_at.ensures).0

pub behind-at-requires : goal.behind-at-requires
behind-at-requires c = end_in _ c.loop-at.at _ c.loop-at.invariant.0 c.in-Some.ensures.ends

pub behind-at-requires-in-loop-at : goal.behind-at-requires-in-loop-at
behind-at-requires-in-loop-at c = end_in _ c.loop-at.at _ c.loop-at.invariant.0 c.in-Some.ensures.ends

pub loop-at-smaller : goal.loop-at-smaller
loop-at-smaller c = let k = next_place _ c.loop-at.at _ _ c.loop-at-test.true c.in-Some.ensures.ends c.behind-at-in-loop-at.ensures in omega (arith, k.0, c.loop-at-test.true)

pub loop-at-smaller-in-Blank : goal.loop-at-smaller-in-Blank
loop-at-smaller-in-Blank c = let k = next_place _ c.loop-at.at _ _ c.loop-at-test.true c.in-Some.ensures.ends c.behind-at.ensures in omega (arith, k.0, c.loop-at-test.true)

pub returns-in-Err-clause-told : goal.returns-in-Err-clause-told
returns-in-Err-clause-told c =
    (stop_checked _ _ _ c.loop-at.pass.seat _ _ _ c.loop-at-test.true _ c.loop-at.invariant.3 _ c.in-Some.ensures _ c.in-Err.ensures).0

pub loop-at-preserved : goal.loop-at-preserved
loop-at-preserved c =
    let l = c.loop-at in
    let k = next_place _ l.at _ _ c.loop-at-test.true c.in-Some.ensures.ends c.behind-at-in-loop-at.ensures in (
      k.1,
      omega (arith, k.0, l.invariant.1),
      seat_inside _ _ l.at l.pass.seat _ c.seat_after-in-loop-at.ensures l.invariant.0 l.invariant.2,
      turn_on _ _ l.at l.pass.seat _ _ _ c.loop-at-test.true _ l.invariant.3 _ c.in-Some.ensures c.in_default-check.ensures _ c.seat_after-in-loop-at.ensures _ _ _ c.enter.ensures.map c.enter.ensures.gates c.after-t.ensures _ c.behind-at-in-loop-at.ensures,
    )

pub loop-at-preserved-in-Blank : goal.loop-at-preserved-in-Blank
loop-at-preserved-in-Blank c =
    let l = c.loop-at in
    let k = next_place _ l.at _ _ c.loop-at-test.true c.in-Some.ensures.ends c.behind-at.ensures in (
      k.1,
      omega (arith, k.0, l.invariant.1),
      seat_inside _ _ l.at l.pass.seat _ c.seat_after.ensures l.invariant.0 l.invariant.2,
      turn_blank _ _ l.at l.pass.seat _ _ _ c.loop-at-test.true _ l.invariant.3 _ c.in-Some.ensures c.in-Blank.is _ c.seat_after.ensures _ c.behind-at.ensures,
    )

pub returns-clause-told : goal.returns-clause-told
returns-clause-told c = turn_end _ c.loop-at.pass.lines c.loop-at.at c.loop-at.pass.seat _ _ _ _ c.loop-at-test.false c.loop-at.invariant.3
