use Rattle.std.proofs.Common.{ap, ◌∙◌}
use Rattle.theory_sharing.specs.Sites.{Site}
use Rattle.retape_pairs.specs.Mirror.{flipped}
use Rattle.retape_pairs.proofs.flip.Goals as goal

pub returns : goal.returns
returns c = c.flip_at.ensures ∙ ap (λ (s : Site). flipped s c.args.o c.args.p) c.of.ensures
