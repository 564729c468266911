use mathlib.Core.Path.{◌≡◌}
use Rattle.plain.specs.Mirror.{gates_on}
use Rattle.plain.proofs.gates_pass.Given as goal

abbrev pub invariant-loop-k : goal.invariant-loop-k
invariant-loop-k l = l.values ≡ gates_on l.c.file.now l.c.counts.inputs l.initial.values l.k
