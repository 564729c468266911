use mathlib.Core.Path.{refl}
use Rattle.bristol_lines.proofs.SeenLaws.{none_from}
use Rattle.bristol_lines.proofs.LineLaws.{counts_good, counts_bad, counts_first, counts_second}
use Rattle.bristol_lines.proofs.counts_line.Goals as goal

pub returns-in_err-gates : goal.returns-in_err-gates
returns-in_err-gates c =
    let second = c.next_word-second.ensures in
    let next = c.next_word-next.ensures in
    none_from _ _ _ _ c.from_residual.ensures (counts_first _ c.args.first _ _ second next c.in_err-gates.was)

pub returns-in_err-wires : goal.returns-in_err-wires
returns-in_err-wires c =
    let second = c.next_word-second.ensures in
    let next = c.next_word-next.ensures in
    none_from _ _ _ _ c.from_residual-in_err-wires.ensures (counts_second _ c.args.first _ _ second next _ c.in_ok-gates.was c.in_err-wires.was)

pub returns-then-is_empty-wires : goal.returns-then-is_empty-wires
returns-then-is_empty-wires c =
    let second = c.next_word-second.ensures in
    let next = c.next_word-next.ensures in
    none_from _ _ _ _ refl (counts_bad _ c.args.first _ _ second next _ _ c.in_ok-gates.was c.in_ok-wires.was _ c.is_empty.ensures c.if-is_empty-wires.true)

pub returns : goal.returns
returns c =
    let second = c.next_word-second.ensures in
    let next = c.next_word-next.ensures in
    counts_good _ c.args.first _ _ second next _ _ c.in_ok-gates.was c.in_ok-wires.was _ c.is_empty.ensures c.if-is_empty-wires.false
