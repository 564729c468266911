-- A text's gates as ours, on wires numbered anew, and the circuit file of a text.
--     Renamed           our number of each wire of the text that is written, and our gates so far
--     rename, renamed   a gate line: "XOR, AND and INV map to ours in the text's order; EQW renames a wire."
--     spread            "an owner for each input value": once for each of its wires
--     text_file         the file
use Rattle.std.specs.Prelude.{List, [], ◌∷◌, ◌++◌, map, ℕ, ◌+◌, length, replicate}
use Rattle.theory_files.specs.Written.{Numbers3, file_of}
use Rattle.bristol_text.specs.Words.{lines}
use Rattle.bristol_text.specs.Lines.{Line, blank, bad, counts, widths, other_word, xor_gate, and_gate, inv_gate, eqw_gate, total}
use Rattle.bristol_text.specs.Heard.{Heard, heard, out_wires}
use Rattle.bristol_text.specs.Meaning.{put}

pub record Renamed : Type 0 where
  pub wire : ℕ → ℕ
  pub gates : List Numbers3

-- wire z of the text is a new wire of ours: 01's "gate g makes wire I+g"
abbrev pub makes : ℕ → Renamed → ℕ → Numbers3 → Renamed
makes I r z g = record { wire = put r.wire z (I + length r.gates); gates = r.gates ++ (g ∷ []) }

-- 01: "Kinds: 1 XOR, 2 AND, 3 NOT (second is 0 and reads nothing)"
unfoldable pub rename : ℕ → Renamed → Line → Renamed
rename I r (xor_gate x y z) = makes I r z (1, r.wire x, r.wire y)
rename I r (and_gate x y z) = makes I r z (2, r.wire x, r.wire y)
rename I r (inv_gate x z) = makes I r z (3, r.wire x, 0)
rename I r (eqw_gate x z) = record { wire = put r.wire z (r.wire x); gates = r.gates }
rename I r blank = r
rename I r bad = r
rename I r (counts g w) = r
rename I r (widths ws) = r
rename I r other_word = r

unfoldable pub rename_all : ℕ → Renamed → List Line → Renamed
rename_all I r [] = r
rename_all I r (l ∷ ls) = rename_all I (rename I r l) ls

-- inputs keep their numbers
unfoldable pub inputs_alone : Renamed
inputs_alone = record { wire = λ w. w; gates = [] }

abbrev pub renamed : Heard → Renamed
renamed h = rename_all (total h.ins) inputs_alone h.gates

unfoldable pub spread : List ℕ → List ℕ → List ℕ
spread [] ws = []
spread (o ∷ os) [] = []
spread (o ∷ os) (w ∷ ws) = replicate w o ++ spread os ws

abbrev pub heard_file : Heard → List ℕ → List ℕ
heard_file h owners = file_of (spread owners h.ins) (renamed h).gates (map (renamed h).wire (out_wires h))

abbrev pub text_file : List ℕ → List ℕ → List ℕ
text_file text owners = heard_file (heard (lines text)) owners
