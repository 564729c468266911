-- A circuit's file, byte by byte: what a call that writes a circuit writes. What File.antt reads from it is proofs/ReadBack.antt.
--     two, four          a number in two and in four bytes: "All numbers are little-endian."
--     header_bytes       "The header is eight u32 fields"
--     gate_bytes         "Gates: G records of three u16, kind, first, second"
--     file_of            owners, gates and outputs as a file: "The parts follow each other without gaps"
--     Within             01's limits
use Rattle.std.specs.Prelude.{List, [], ◌∷◌, ◌++◌, ℕ, ◌/◌, ◌%◌, ◌≤◌, length}
use Rattle.theory_calls.specs.File.{size, gates_start, outputs_start}

unfoldable pub two : ℕ → List ℕ
two n = n % 256 ∷ n / 256 ∷ []

unfoldable pub four : ℕ → List ℕ
four n = two (n % 65536) ++ two (n / 65536)

-- 01: at 0 the "length of the file", at 4, 8, 12 "I inputs, G gates, O outputs", at 16, 20, 24 "offsets of owners, gates, outputs", at 28 "zero"
unfoldable pub header_bytes : ℕ → ℕ → ℕ → List ℕ
header_bytes i g o =
    four (size i g o) ++ (four i ++ (four g ++ (four o ++ (four 32 ++ (four (gates_start i) ++ (four (outputs_start i g) ++ four 0))))))

-- a gate: kind, first, second
abbrev pub Numbers3 : Type 0
Numbers3 = ℕ × ℕ × ℕ

unfoldable pub gate_bytes : List Numbers3 → List ℕ
gate_bytes [] = []
gate_bytes (g ∷ gs) = two g.0 ++ (two g.1 ++ (two g.2 ++ gate_bytes gs))

-- 01: "Outputs: O u16 wire numbers"
unfoldable pub output_bytes : List ℕ → List ℕ
output_bytes [] = []
output_bytes (w ∷ ws) = two w ++ output_bytes ws

-- 01: "owners at 32, gates at 32+I, outputs at 32+I+6G, length 32+I+6G+2O"
unfoldable pub file_of : List ℕ → List Numbers3 → List ℕ → List ℕ
file_of owners gates outs = header_bytes (length owners) (length gates) (length outs) ++ (owners ++ (gate_bytes gates ++ output_bytes outs))

-- 01: "I is at most 1,024, G at most 3,072, O at most 256"
pub record Within (i g o : ℕ) : Type 0 where
  pub few_inputs : i ≤ 1024
  pub few_gates : g ≤ 3072
  pub few_outputs : o ≤ 256
