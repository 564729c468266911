use Rattle.std.proofs.Common.{ap, ◌∙◌}
use Rattle.theory_sharing.specs.Sites.{is}
use Rattle.check_tests.specs.Seat.{seat}
use Rattle.file_counts.proofs.CountLaws.{owned_law}
use Rattle.file_counts.proofs.owns.Goals as goal

pub returns : goal.returns
returns c = rw (c.number.ensures) (owned_law _ c.args.site c.owner.ensures.known ∙ ap (is (seat c.args.site)) c.owner.ensures.is)
