use mathlib.Core.Path.{◌≡◌}
use Prim.Native.Nat.{◌≤◌, ◌-◌}
use lib.ListN.{length, drop}
use Rattle.bristol_text.specs.Words.{lines}
use Rattle.bristol_words.specs.Mirror.{words_at}
use Rattle.bristol_wires.specs.Pass.{pass_from}
use Rattle.bristol_pass.proofs.read_lines.Given as goal

abbrev pub invariant-loop-at : goal.invariant-loop-at
invariant-loop-at l = (l.at ≤ length l.text) × (l.pass.lines ≤ l.at) × (l.pass.seat ≤ length l.text) × (pass_from l.pass.lines l.t (words_at l.text l.pass.seat) l.map l.gates (lines (drop l.at l.text)) ≡ pass_from 0 l.fn.before (words_at l.text 0) l.initial.map l.initial.gates (lines l.text))

abbrev pub decreases-loop-at : goal.decreases-loop-at
decreases-loop-at l = length l.text - l.at
