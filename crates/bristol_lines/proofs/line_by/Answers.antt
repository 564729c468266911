use mathlib.Core.Path.{sym, ◌∙◌}
use borrow.Author.Tests.{eqb-true, eqb-false}
use Rattle.std.proofs.Common.{inl, inr}
use Rattle.bristol_lines.proofs.LineLaws.{line_blank, line_counts, line_inputs, line_outputs, line_gate}
use Rattle.bristol_lines.proofs.line_by.Goals as goal

pub returns-then-is_empty : goal.returns-then-is_empty
returns-then-is_empty c = line_blank _ _ _ _ _ c.next_word-first.ensures (eqb-true _ _ (sym c.is_empty.ensures ∙ c.if-is_empty.true))

pub returns-in-Counts : goal.returns-in-Counts
returns-in-Counts c =
    let some = eqb-false _ _ (sym c.is_empty.ensures ∙ c.if-is_empty.false) in
    rw c.in-Counts.is (line_counts _ _ _ _ c.next_word-first.ensures some _ c.counts_line.ensures)

pub returns-in-Inputs : goal.returns-in-Inputs
returns-in-Inputs c =
    let some = eqb-false _ _ (sym c.is_empty.ensures ∙ c.if-is_empty.false) in
    elim c.in-Inputs.is [
      | inl e ↦ rw e (line_inputs _ _ _ _ c.next_word-first.ensures some _ c.widths_line.ensures)
      | inr e ↦ rw e (line_outputs _ _ _ _ c.next_word-first.ensures some _ c.widths_line.ensures)
    ]

pub returns-in-Gates : goal.returns-in-Gates
returns-in-Gates c =
    let some = eqb-false _ _ (sym c.is_empty.ensures ∙ c.if-is_empty.false) in
    rw c.in-Gates.is (line_gate _ _ _ _ c.next_word-first.ensures some _ c.gate_line.ensures)
