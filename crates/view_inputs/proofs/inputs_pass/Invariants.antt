use Rattle.std.proofs.Common.{◌≡◌, ◌+◌}
use Rattle.theory_sharing.specs.Tapes.{read}
use Rattle.theory_calls.specs.File.{circuit}
use Rattle.theory_calls.specs.Calls.{at_wire}
use Rattle.check_tests.specs.Seat.{seat}
use Rattle.run_passes.specs.Mirror.{st}
use Rattle.view_inputs.specs.Mirror.{ins_seen}
use Rattle.view_inputs.proofs.inputs_pass.Given as goal

abbrev pub invariant-loop-k : goal.invariant-loop-k
invariant-loop-k l =
    st l.store l.got l.pos
    ≡ ins_seen (seat l.site) (circuit l.c.file.now) (at_wire l.inputs) (read (circuit l.c.file.now) l.tapes) (l.c.counts.inputs + l.c.counts.gates) l.initial.store l.initial.got l.k
