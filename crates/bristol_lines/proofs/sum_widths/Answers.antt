use mathlib.Core.Path.{refl}
use native.Mathlib.Omega.{arith}
use Rattle.bristol_lines.proofs.LoopLaws.{sums_no, sums_over, sums_on, sums_end}
use Rattle.bristol_lines.proofs.sum_widths.Goals as goal

pub returns-in_err-word : goal.returns-in_err-word
returns-in_err-word c =
    sums_no _ _ _ _ _ _ _ c.loop.invariant _ c.loop-test.true c.next_word-word.ensures _ c.from_residual.ensures c.in_err-word.was

pub returns-in_err-sum : goal.returns-in_err-sum
returns-in_err-sum c =
    sums_over _ _ _ _ _ _ _ c.loop.invariant _ c.loop-test.true c.next_word-word.ensures _ c.from_residual-in_err-sum.ensures _ c.in_ok-word.was (omega (arith, c.in_err-sum.ensures))

pub returns-then-sum-wires : goal.returns-then-sum-wires
returns-then-sum-wires c =
    sums_over _ _ _ _ _ _ _ c.loop.invariant _ c.loop-test.true c.next_word-word.ensures _ refl _ c.in_ok-word.was (omega (arith, c.in_ok-sum.ensures))

pub loop-preserved : goal.loop-preserved
loop-preserved c =
    let more = c.in_ok-sum.ensures in
    rw more.1 (sums_on _ _ _ _ _ _ _ c.loop.invariant _ c.loop-test.true c.next_word-word.ensures _ c.in_ok-word.was (omega arith))

pub returns : goal.returns
returns c = sums_end _ _ _ _ _ _ _ c.loop.invariant c.loop-test.false
