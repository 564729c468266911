use mathlib.Core.Path.{refl, sym, ◌∙◌}
use Rattle.bristol_lines.proofs.SeenLaws.{none_from}
use Rattle.bristol_lines.proofs.LineLaws.{word_bad, word_good, word_line}
use Rattle.bristol_lines.proofs.word_line.Goals as goal

pub returns-then-is_empty : goal.returns-then-is_empty
returns-then-is_empty c =
    let word = c.next_word-word.ensures in
    let next = c.next_word-next.ensures in
    none_from _ _ _ _ refl (word_bad _ _ _ c.args.read _ _ word next _ _ c.is_empty.ensures c.is_empty-2.ensures c.if-is_empty.true)

pub returns-in_err-says : goal.returns-in_err-says
returns-in_err-says c =
    let word = c.next_word-word.ensures in
    let next = c.next_word-next.ensures in
    none_from _ _ _ _ c.from_residual.ensures
    (word_good _ _ _ c.args.read _ _ word next _ _ c.is_empty.ensures c.is_empty-2.ensures c.if-is_empty.false _ c.gate_word.ensures _ c.gate.ensures ∙ c.in_err-says.was)

pub returns : goal.returns
returns c =
    let word = c.next_word-word.ensures in
    let next = c.next_word-next.ensures in
    word_line _ _ _ c.args.read _ _ word next _ _ c.is_empty.ensures c.is_empty-2.ensures c.if-is_empty.false _ c.gate_word.ensures _ (sym c.in_ok-says.was ∙ c.gate.ensures)
