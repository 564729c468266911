use Rattle.std.proofs.Common.{◌≡◌, ◌+◌}
use Rattle.check_tests.specs.Seat.{seat}
use Rattle.run_passes.specs.Mirror.{st}
use Rattle.view_inputs.specs.Mirror.{gates_seen}
use Rattle.view_gates.proofs.gates_pass.Given as goal

abbrev pub invariant-loop-k : goal.invariant-loop-k
invariant-loop-k l =
    st l.store l.got l.pos
    ≡ gates_seen (seat l.site) l.c.file.now l.tapes l.c.counts.inputs (l.c.counts.inputs + l.c.counts.gates) (st l.initial.store l.initial.got l.initial.pos) l.k
