use mathlib.Core.Path.{ap}
use lib.ListN.{set}
use Rattle.file_parts.proofs.LoopLaws.{none_yet, turn}
use Rattle.plain.proofs.inputs_pass.Goals as goal

pub loop-k-init : goal.loop-k-init
loop-k-init c = none_yet _ _

pub loop-k-preserved : goal.loop-k-preserved
loop-k-preserved c = turn _ _ _ _ _ c.loop-k.invariant (ap (set c.loop-k.values c.loop-k.k) c.input_value.ensures)
