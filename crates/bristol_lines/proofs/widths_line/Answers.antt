use mathlib.Core.Path.{refl, sym, ◌∙◌}
use borrow.Author.Tests.{eqb-true, eqb-false}
use Rattle.bristol_lines.proofs.SeenLaws.{none_from}
use Rattle.bristol_lines.proofs.WidthsLaws.{widths_none}
use Rattle.bristol_lines.proofs.LineLaws.{widths_stop, widths_more, widths_good}
use Rattle.bristol_lines.proofs.widths_line.Goals as goal

pub returns-in_err-values : goal.returns-in_err-values
returns-in_err-values c = none_from _ _ _ _ c.from_residual.ensures (widths_none _ c.args.first _ c.in_err-values.was)

pub returns-in_err-widths : goal.returns-in_err-widths
returns-in_err-widths c =
    none_from _ _ _ _ c.from_residual-in_err-widths.ensures (widths_stop _ _ c.args.first _ c.in_ok-values.was _ c.sum_widths.ensures c.in_err-widths.was)

pub returns-then-not-is_empty : goal.returns-then-not-is_empty
returns-then-not-is_empty c =
    none_from _ _ _ _ refl
    (widths_more _ _ c.args.first _ c.in_ok-values.was _ c.in_ok-widths.ensures _ c.next_word-next.ensures (eqb-false _ _ (sym c.is_empty.ensures ∙ c.if-not-is_empty.true)))

pub returns : goal.returns
returns c =
    widths_good _ _ c.args.first _ c.in_ok-values.was _ c.in_ok-widths.ensures _ c.next_word-next.ensures (eqb-true _ _ (sym c.is_empty.ensures ∙ c.if-not-is_empty.false))
