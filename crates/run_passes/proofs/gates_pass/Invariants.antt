use Prim.Native.Nat.{◌+◌}
use mathlib.Core.Path.{◌≡◌}
use Rattle.run_passes.specs.Mirror.{st, gates_on}
use Rattle.run_passes.proofs.gates_pass.Given as goal

abbrev pub invariant-loop-k : goal.invariant-loop-k
invariant-loop-k l =
    st l.store l.transcript l.pos
    ≡ gates_on l.c.file.now l.tapes l.line l.c.counts.inputs (l.c.counts.inputs + l.c.counts.gates) (st l.initial.store l.initial.transcript l.initial.pos) l.k
