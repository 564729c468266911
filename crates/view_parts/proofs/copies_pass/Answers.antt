use Rattle.file_parts.specs.Loop.{up_to}
use Rattle.file_parts.proofs.LoopLaws.{none_yet, turn, at_end}
use Rattle.view_parts.proofs.copies_pass.Goals as goal

pub loop-k-init : goal.loop-k-init
loop-k-init c = none_yet _ _

pub loop-k-preserved : goal.loop-k-preserved
loop-k-preserved c = turn _ _ _ _ _ c.loop-k.invariant c.copies_step.ensures

pub returns : goal.returns
returns c = let l = c.loop-k in at_end (up_to _ _) _ _ _ l.invariant l.auto.k-end c.loop-k-test.false
