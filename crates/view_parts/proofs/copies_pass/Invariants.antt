use Rattle.std.proofs.Common.{◌≡◌, ◌+◌}
use Rattle.check_tests.specs.Seat.{seat}
use Rattle.view_parts.specs.Mirror.{copies_all}
use Rattle.view_parts.proofs.copies_pass.Given as goal

abbrev pub invariant-loop-k : goal.invariant-loop-k
invariant-loop-k l = l.got ≡ copies_all (seat l.site) l.c.file.now l.store (l.c.counts.inputs + l.c.counts.gates) l.at l.initial.got l.k
