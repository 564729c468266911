use mathlib.Core.Path.{◌≡◌}
use Rattle.traffic.specs.Mirror.{gate_steps, sums_upto}
use Rattle.traffic.proofs.gates_table.Given as goal

abbrev pub invariant-loop-k : goal.invariant-loop-k
invariant-loop-k l = l.table ≡ sums_upto (gate_steps l.c.file.now) l.k
