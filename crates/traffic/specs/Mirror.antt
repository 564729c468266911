-- What the inner functions of traffic compute. No public contract cites these: laws in proofs/ tie them to sharing's table.
--     input_steps, ..     what each step of a file adds
--     sums_upto           the sum of the first k steps
use Rattle.std.specs.Prelude.{List, ℕ}
use Rattle.theory_sharing.specs.Sites.{Site}
use Rattle.theory_sharing.specs.Traffic.{input_adds, gate_adds, output_adds, sum}
use Rattle.theory_calls.specs.File.{circuit}
use Rattle.traffic_entries.specs.Mirror.{table_of}

-- what each step of a file adds
abbrev pub input_steps : List ℕ → ℕ → Site → Site → ℕ
input_steps s i = input_adds ((circuit s).owner i)

abbrev pub gate_steps : List ℕ → ℕ → Site → Site → ℕ
gate_steps s g = gate_adds ((circuit s).gate g)

abbrev pub output_steps : ℕ → Site → Site → ℕ
output_steps o = output_adds

unfoldable pub sums_upto : (ℕ → Site → Site → ℕ) → ℕ → List (List ℕ)
sums_upto F k = table_of (λ a b. sum (λ i. F i a b) k)
