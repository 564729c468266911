use mathlib.Core.Path.{subst}
use Rattle.bristol_text.specs.Told.{told}
use Rattle.bristol_words.specs.Mirror.{words_at}
use Rattle.bristol_lines.specs.Mirror.{LineFrom}
use Rattle.bristol_lines.proofs.line_at.Goals as goal

pub returns : goal.returns
returns c =
    let a = c.args in
    subst (λ l. LineFrom a.text.now a.at (told l) c.line_by.result) (c.stage_of.ensures a.wires (words_at a.text.now a.at)) c.line_by.ensures
