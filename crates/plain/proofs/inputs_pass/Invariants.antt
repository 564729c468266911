use mathlib.Core.Path.{◌≡◌}
use Rattle.plain.specs.Mirror.{inputs_on}
use Rattle.plain.proofs.inputs_pass.Given as goal

abbrev pub invariant-loop-k : goal.invariant-loop-k
invariant-loop-k l = l.values ≡ inputs_on l.inputs l.initial.values l.k
