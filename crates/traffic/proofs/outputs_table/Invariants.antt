use mathlib.Core.Path.{◌≡◌}
use Rattle.traffic.specs.Mirror.{output_steps, sums_upto}
use Rattle.traffic.proofs.outputs_table.Given as goal

abbrev pub invariant-loop : goal.invariant-loop
invariant-loop l = l.table ≡ sums_upto (output_steps) l.counter
