use Rattle.std.proofs.Common.{◌≡◌, ◌+◌}
use Rattle.check_tests.specs.Seat.{seat}
use Rattle.retape_pairs.specs.Mirror.{st, further}
use Rattle.retape_passes.specs.Mirror.{gates_on}
use Rattle.retape_passes.proofs.gates_pass.Given as goal

abbrev pub invariant-loop-k : goal.invariant-loop-k
invariant-loop-k l =
    st l.room l.moved (further l.start l.t)
    ≡ gates_on l.c.file.now (seat l.site) l.tapes.own.now l.tapes.next.now l.tapes.prev.now l.c.counts.inputs (l.c.counts.inputs + l.c.counts.gates) (st l.initial.room l.initial.moved l.start) l.k
