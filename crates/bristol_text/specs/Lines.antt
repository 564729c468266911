-- What the words of a line say.
--     Line             nothing, no good text, gate and wire counts, widths, another gate word, or one of the four gates
--     total            a sum of widths
--     line_says K W ws the line with words ws behind K header lines (3 stands for all of them) in a text with W wires
-- T-01: "a line with gate and wire counts, a line with the number of input values and their widths, a line likewise for outputs, then one gate
-- per line".
use Rattle.std.specs.Prelude.{cond, ◌&&◌, List, [], ◌∷◌, ℕ, zero, suc, ◌+◌, length, get_or, leb, ltb, eqb}
use Rattle.bristol_text.specs.Words.{Number, is, none, number}

-- of a gate: the wires that it reads, then the one that it writes
pub data Line : Type 0 where
  blank : Line
  bad : Line
  counts : (gates wires : ℕ) → Line
  widths : List ℕ → Line
  other_word : Line
  xor_gate : (x y z : ℕ) → Line
  and_gate : (x y z : ℕ) → Line
  inv_gate : (x z : ℕ) → Line
  eqw_gate : (x z : ℕ) → Line

-- as many numbers as there are words, or none of them: a word that is no number makes all of the line bad
pub data Numbers : Type 0 where
  are : List ℕ → Numbers
  broken : Numbers

unfoldable pub with_number : Number → Numbers → Numbers
with_number none ns = broken
with_number (is x) broken = broken
with_number (is x) (are xs) = are (x ∷ xs)

unfoldable pub numbers : List (List ℕ) → Numbers
numbers [] = are []
numbers (w ∷ ws) = with_number (number w) (numbers ws)

-- "a line with gate and wire counts"; "The wire count is at most 8,192"
unfoldable pub counts_line : Numbers → Line
counts_line (are (g ∷ w ∷ [])) = cond (leb w 8192) (counts g w) bad
counts_line (are []) = bad
counts_line (are (g ∷ [])) = bad
counts_line (are (g ∷ w ∷ x ∷ xs)) = bad
counts_line broken = bad

-- "a line with the number of input values and their widths"; "neither sum of widths is above it"
unfoldable pub total : List ℕ → ℕ
total [] = 0
total (x ∷ xs) = x + total xs

unfoldable pub widths_line : ℕ → Numbers → Line
widths_line W (are (v ∷ xs)) = cond (eqb (length xs) v && leb (total xs) W) (widths xs) bad
widths_line W (are []) = bad
widths_line W broken = bad

-- "a gate line is two counts, that many wires and a word": wires below W, so many, then a word and nothing else
pub data Rest : Type 0 where
  wires_word : List ℕ → List ℕ → Rest
  no_rest : Rest

unfoldable pub with_wire : ℕ → Number → Rest → Rest
with_wire W none r = no_rest
with_wire W (is x) no_rest = no_rest
with_wire W (is x) (wires_word xs w) = cond (ltb x W) (wires_word (x ∷ xs) w) no_rest

unfoldable pub rest : ℕ → ℕ → List (List ℕ) → Rest
rest W n [] = no_rest
rest W zero (w ∷ []) = wires_word [] w
rest W zero (w ∷ v ∷ ws) = no_rest
rest W (suc n) (w ∷ ws) = with_wire W (number w) (rest W n ws)

-- the gate words, byte by byte: 1 "XOR", 2 "AND", 3 "INV", 4 "EQW", 0 any other
unfoldable pub three_letters : ℕ → ℕ → ℕ → ℕ
three_letters a b c =
    cond (eqb a 88 && eqb b 79 && eqb c 82) 1
    (cond (eqb a 65 && eqb b 78 && eqb c 68) 2
    (cond (eqb a 73 && eqb b 78 && eqb c 86) 3
    (cond (eqb a 69 && eqb b 81 && eqb c 87) 4 0)))

unfoldable pub gate_word : List ℕ → ℕ
gate_word [] = 0
gate_word (a ∷ []) = 0
gate_word (a ∷ b ∷ []) = 0
gate_word (a ∷ b ∷ c ∷ []) = three_letters a b c
gate_word (a ∷ b ∷ c ∷ d ∷ w) = 0

-- "XOR and AND with 2 1, INV and EQW with 1 1"
unfoldable pub gate_with : ℕ → ℕ → ℕ → List ℕ → Line
gate_with zero i o xs = other_word
gate_with (suc zero) i o xs = cond (eqb i 2 && eqb o 1) (xor_gate (get_or xs 0 0) (get_or xs 1 0) (get_or xs 2 0)) bad
gate_with (suc (suc zero)) i o xs = cond (eqb i 2 && eqb o 1) (and_gate (get_or xs 0 0) (get_or xs 1 0) (get_or xs 2 0)) bad
gate_with (suc (suc (suc zero))) i o xs = cond (eqb i 1 && eqb o 1) (inv_gate (get_or xs 0 0) (get_or xs 1 0)) bad
gate_with (suc (suc (suc (suc k)))) i o xs = cond (eqb i 1 && eqb o 1) (eqw_gate (get_or xs 0 0) (get_or xs 1 0)) bad

unfoldable pub with_rest : ℕ → ℕ → Rest → Line
with_rest i o no_rest = bad
with_rest i o (wires_word xs w) = gate_with (gate_word w) i o xs

unfoldable pub with_counts : ℕ → Number → Number → List (List ℕ) → Line
with_counts W none o ws = bad
with_counts W (is i) none ws = bad
with_counts W (is i) (is o) ws = with_rest i o (rest W (i + o) ws)

unfoldable pub gate_line : ℕ → List (List ℕ) → Line
gate_line W [] = bad
gate_line W (a ∷ []) = bad
gate_line W (a ∷ b ∷ ws) = with_counts W (number a) (number b) ws

-- "blank lines that only count"
unfoldable pub line_says : ℕ → ℕ → List (List ℕ) → Line
line_says K W [] = blank
line_says zero W (a ∷ ws) = counts_line (numbers (a ∷ ws))
line_says (suc zero) W (a ∷ ws) = widths_line W (numbers (a ∷ ws))
line_says (suc (suc zero)) W (a ∷ ws) = widths_line W (numbers (a ∷ ws))
line_says (suc (suc (suc K))) W (a ∷ ws) = gate_line W (a ∷ ws)
