-- Words of T-01's theorems that are no part of its call: what a text says, in the terms of its lines (bristol_text/specs/Heard.antt).
--     text_inputs, text_outputs    "the number of input values and their widths", and "likewise for outputs": the sums of the widths, I and O
--     wire_count       its wire count
--     gate_lines       "then one gate per line": its gate lines in order
--     adds, without_eqw, text_gates    a gate of ours for XOR, AND and INV, none for EQW: how many of some lines, and of all of them, G
--     ours             our number of a wire of the text
use Rattle.std.specs.Prelude.{List, [], ◌∷◌, ℕ, ◌+◌}
use Rattle.bristol_text.specs.Words.{lines}
use Rattle.bristol_text.specs.Lines.{Line, blank, bad, counts, widths, other_word, xor_gate, and_gate, inv_gate, eqw_gate, total}
use Rattle.bristol_text.specs.Heard.{heard}
use Rattle.bristol_text.specs.Renamed.{renamed}

abbrev pub text_inputs : List ℕ → ℕ
text_inputs text = total (heard (lines text)).ins

abbrev pub text_outputs : List ℕ → ℕ
text_outputs text = total (heard (lines text)).outs

abbrev pub wire_count : List ℕ → ℕ
wire_count text = (heard (lines text)).wires

abbrev pub gate_lines : List ℕ → List Line
gate_lines text = (heard (lines text)).gates

-- "XOR, AND and INV map to ours in the text's order; EQW renames a wire." No other line is among the gate lines
unfoldable pub adds : Line → ℕ
adds (xor_gate x y z) = 1
adds (and_gate x y z) = 1
adds (inv_gate x z) = 1
adds (eqw_gate x z) = 0
adds blank = 0
adds bad = 0
adds (counts g w) = 0
adds (widths ws) = 0
adds other_word = 0

unfoldable pub without_eqw : List Line → ℕ
without_eqw [] = 0
without_eqw (l ∷ ls) = adds l + without_eqw ls

abbrev pub text_gates : List ℕ → ℕ
text_gates text = without_eqw (gate_lines text)

-- "Wires are numbered anew"
abbrev pub ours : List ℕ → ℕ → ℕ
ours text w = (renamed (heard (lines text))).wire w
