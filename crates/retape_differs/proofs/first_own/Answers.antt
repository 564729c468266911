use Rattle.std.proofs.Common.{ap, ◌∙◌}
use Rattle.theory_sharing.specs.First.{first}
use Rattle.theory_sharing.specs.Sites.{Site}
use Rattle.check_refusal.specs.Found.{some_below}
use Rattle.retape_differs.specs.Mirror.{own_differs}
use Rattle.retape_differs.proofs.first_own.Goals as goal

pub returns : goal.returns
returns c =
    let a = c.args in let n = a.c.now.counts.inputs in
    c.first_own_at.ensures ∙ ap (λ (s : Site). some_below (first (own_differs a.c.now.file.now s a.inputs.now a.second.now) n) n) c.of.ensures
