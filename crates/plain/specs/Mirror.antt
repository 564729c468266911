-- What the inner functions of plain values compute. No public contract cites these: laws in proofs/ tie them to theory_calls' plain values.
--     truth, kind_value    the four kinds' values; a gate's value by its kind's number, from two bits
--     inputs_on            values after the first k inputs
--     gate_on, gates_on    values after gate k, and after the first k gates, of a file with i inputs
use Rattle.std.specs.Prelude.{List, ℕ, ◌+◌, ◌*◌, ◌/◌, ◌^◌, get_or, set}
use Rattle.std.specs.Int.Bits.{bit_and}
use Rattle.theory_calls.specs.File.{kind_at, first_at, second_at}
use Rattle.theory_calls.specs.Plain.{bit, byte}
use Rattle.file_parts.specs.Loop.{up_to}

-- four bits a kind from the lowest up, for operands 0 0, 1 0, 0 1 and 1 1: none for 0; XOR 0110, AND 0001, NOT 1010, OR 0111
abbrev pub truth : ℕ
truth = 0xe5860

-- of a kind from 1 to 4 and two bits; that these are the kinds' values is proofs/ValueLaws.antt
unfoldable pub kind_value : ℕ → ℕ → ℕ → ℕ
kind_value kind x y = bit_and (truth / 2 ^ bit_and (4 * kind + x + 2 * y) 31) 1

abbrev pub inputs_on : List ℕ → List ℕ → ℕ → List ℕ
inputs_on xs vs k = up_to (λ i l. set l i (byte (bit (get_or xs i 0)))) vs k

unfoldable pub gate_on : List ℕ → ℕ → ℕ → List ℕ → List ℕ
gate_on f i k vs = set vs (i + k) (kind_value (kind_at f i k) (get_or vs (first_at f i k) 0) (get_or vs (second_at f i k) 0))

abbrev pub gates_on : List ℕ → ℕ → List ℕ → ℕ → List ℕ
gates_on f i vs k = up_to (gate_on f i) vs k
