use Rattle.std.proofs.Common.{◌≡◌, ◌+◌, ◌*◌, take, drop}
use Rattle.theory_calls.specs.File.{circuit}
use Rattle.theory_calls.specs.Calls.{at_wire}
use Rattle.check_tests.specs.Seat.{seat}
use Rattle.retape_pairs.specs.Mirror.{st}
use Rattle.retape_passes.specs.Mirror.{in_state}
use Rattle.retape_passes.proofs.inputs_pass.Given as goal

abbrev pub invariant-loop-k : goal.invariant-loop-k
invariant-loop-k l =
    st l.room l.moved l.at
    ≡ in_state (seat l.site) (circuit l.c.file.now) (at_wire l.inputs) (at_wire l.second) l.tapes.own.now l.tapes.next.now l.tapes.prev.now
    (take (2 * (l.c.counts.inputs + l.c.counts.gates)) l.initial.room) (drop (2 * (l.c.counts.inputs + l.c.counts.gates)) l.initial.room) l.initial.moved l.k
