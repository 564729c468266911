use Rattle.bristol_lines.proofs.LoopLaws.{Keeps}
use Rattle.bristol_lines.proofs.read_wires.Given as goal

abbrev pub invariant-loop : goal.invariant-loop
invariant-loop l = Keeps l.text l.at l.n l.wires l.counter l.read
