-- What a text computes, on its own wire numbers: T-01's "definition of the text's own meaning".
--     wires_after       the value of each wire behind a gate line
--     text_wires        behind all of them, under inputs: the inputs' bits one after the other, by wire
--     text_outs         the outputs' values, as bytes
use Rattle.std.specs.Prelude.{Bool, not, cond, ◌&&◌, List, [], ◌∷◌, map, ℕ, get_or, eqb}
use Rattle.std.specs.Bool.{xor}
use Rattle.theory_calls.specs.Plain.{bit, byte}
use Rattle.bristol_text.specs.Words.{lines}
use Rattle.bristol_text.specs.Lines.{Line, blank, bad, counts, widths, other_word, xor_gate, and_gate, inv_gate, eqw_gate}
use Rattle.bristol_text.specs.Heard.{heard, out_wires}

-- the same but at z
abbrev pub put : {A : Type 0} → (ℕ → A) → ℕ → A → ℕ → A
put e z v w = cond (eqb w z) v (e w)

unfoldable pub wires_after : (ℕ → Bool) → Line → ℕ → Bool
wires_after e (xor_gate x y z) = put e z (xor (e x) (e y))
wires_after e (and_gate x y z) = put e z (e x && e y)
wires_after e (inv_gate x z) = put e z (not (e x))
wires_after e (eqw_gate x z) = put e z (e x)
wires_after e blank = e
wires_after e bad = e
wires_after e (counts g w) = e
wires_after e (widths ws) = e
wires_after e other_word = e

unfoldable pub gates_after : (ℕ → Bool) → List Line → ℕ → Bool
gates_after e [] = e
gates_after e (l ∷ ls) = gates_after (wires_after e l) ls

-- "Inputs are the lowest wires". A wire that is no input and not written yet has some value, which no line of a good text reads.
abbrev pub input_wires : List ℕ → ℕ → Bool
input_wires xs w = bit (get_or xs w 0)

abbrev pub text_wires : List ℕ → List ℕ → ℕ → Bool
text_wires text xs = gates_after (input_wires xs) (heard (lines text)).gates

unfoldable pub text_outs : List ℕ → List ℕ → List ℕ
text_outs text xs = map (λ (w : ℕ). byte (text_wires text xs w)) (out_wires (heard (lines text)))
