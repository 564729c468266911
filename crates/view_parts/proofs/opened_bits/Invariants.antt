use Rattle.std.proofs.Common.{◌≡◌, ◌+◌}
use Rattle.check_tests.specs.Seat.{seat}
use Rattle.view_parts.specs.Mirror.{opened_all}
use Rattle.view_parts.proofs.opened_bits.Given as goal

abbrev pub invariant-loop-k : goal.invariant-loop-k
invariant-loop-k l = l.part ≡ opened_all (seat l.site) l.c.file.now l.store (l.c.counts.inputs + l.c.counts.gates) l.initial.part l.k
