use Rattle.bristol_lines.proofs.LoopLaws.{keeps_no, keeps_over, keeps_on, keeps_end}
use Rattle.bristol_lines.proofs.read_wires.Goals as goal

pub returns-in_err-wire : goal.returns-in_err-wire
returns-in_err-wire c = keeps_no _ _ _ _ _ _ c.loop.invariant _ c.loop-test.true c.next_word-word.ensures _ c.from_residual.ensures c.in_err-wire.was

pub returns-then-wire-wires : goal.returns-then-wire-wires
returns-then-wire-wires c = keeps_over _ _ _ _ _ _ c.loop.invariant _ c.loop-test.true c.next_word-word.ensures _ c.in_ok-wire.was c.if-wire-wires.true

pub loop-preserved : goal.loop-preserved
loop-preserved c = keeps_on _ _ _ _ _ _ c.loop.invariant _ c.loop-test.true c.next_word-word.ensures _ c.in_ok-wire.was c.if-wire-wires.false

pub returns : goal.returns
returns c = keeps_end _ _ _ _ _ _ c.loop.invariant c.loop-test.false
