use Rattle.std.proofs.Common.{◌≡◌}
use Rattle.theory_sharing.specs.Circuit.{owned}
use Rattle.theory_sharing.specs.Store.{fill}
use Rattle.theory_sharing.specs.View.{own_ins}
use Rattle.theory_calls.specs.File.{circuit}
use Rattle.theory_calls.specs.Calls.{at_wire}
use Rattle.check_tests.specs.Seat.{seat}
use Rattle.view_parts.proofs.own_inputs.Given as goal

abbrev pub invariant-loop-k : goal.invariant-loop-k
invariant-loop-k l = (l.part ≡ fill l.initial.part (own_ins (seat l.site) (circuit l.c.file.now) (at_wire l.inputs) l.k)) × (l.p ≡ owned (circuit l.c.file.now).owner (seat l.site) l.k)
