use Rattle.std.proofs.Common.{sym, ap, ◌∙◌}
use Rattle.theory_sharing.specs.Ops.{bits}
use Rattle.theory_sharing.specs.Sites.{Site}
use Rattle.theory_sharing.specs.View.{view_from}
use Rattle.theory_calls.specs.File.{circuit}
use Rattle.theory_calls.specs.Calls.{at_wire}
use Rattle.check_tests.proofs.SeatLaws.{seat_is}
use Rattle.view.proofs.view_checked.Goals as goal

pub returns-clause-view_after : goal.returns-clause-view_after
returns-clause-view_after c =
    let a = c.args in
    c.view_at.ensures.view_after ∙ ap (λ (s : Site). view_from bits s (circuit a.c.now.circuit.file.now) (at_wire a.inputs.now) a.tapes.now) (sym (seat_is _) ∙ c.of.ensures)
