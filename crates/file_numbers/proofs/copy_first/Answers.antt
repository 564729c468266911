use native.Mathlib.Omega.{arith}
use Rattle.file_numbers.proofs.CopyLaws.{copy_none, copy_turn}
use Rattle.file_numbers.proofs.copy_first.Goals as goal

pub loop-k-init : goal.loop-k-init
loop-k-init c = copy_none c.args.from.now c.args.to.now

pub loop-k-preserved : goal.loop-k-preserved
loop-k-preserved c = copy_turn _ _ _ _ (omega arith) c.requires.1 c.loop-k.invariant
