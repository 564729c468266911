use Rattle.bristol_lines.proofs.LoopLaws.{Sums}
use Rattle.bristol_lines.proofs.sum_widths.Given as goal

abbrev pub invariant-loop : goal.invariant-loop
invariant-loop l = Sums l.text l.at l.n l.wires l.counter l.sum l.end
