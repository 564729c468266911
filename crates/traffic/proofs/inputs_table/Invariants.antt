use mathlib.Core.Path.{◌≡◌}
use Rattle.traffic.specs.Mirror.{input_steps, sums_upto}
use Rattle.traffic.proofs.inputs_table.Given as goal

abbrev pub invariant-loop-k : goal.invariant-loop-k
invariant-loop-k l = l.table ≡ sums_upto (input_steps l.c.file.now) l.k
