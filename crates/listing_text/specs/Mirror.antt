-- What the writers of the listing's text leave in a lent room, as their contracts say it.
--     line_of                 a word and two numbers: the line of a refusal, and the line of an output
--     counts_of, head_of      the three counts; the first two lines
--     lines_of                theory_calls' good-text, by its numbers (proofs/TextLaws: good-lines)
--     shown_of, OneDigit      the bit shown for an output; that each takes one digit
use Rattle.std.specs.Prelude.{List, ◌++◌, ℕ, ◌*◌, ◌≤◌, ◌<◌, get_or}
use Rattle.theory_calls.specs.Listing.{decimal, word_inputs, word_gates, word_outputs, word_bits, word_end, space, LF, out_lines}

-- "refused 5 0", "out 0 1"
unfoldable pub line_of : List ℕ → ℕ → ℕ → List ℕ
line_of w n p = w ++ decimal n ++ space ++ decimal p ++ LF

-- "inputs 2 gates 1 outputs 1", its line not ended
unfoldable pub counts_of : ℕ → ℕ → ℕ → List ℕ
counts_of i g o = word_inputs ++ decimal i ++ word_gates ++ decimal g ++ word_outputs ++ decimal o

-- that line's end, and "bits 23"
unfoldable pub head_of : ℕ → ℕ → ℕ → ℕ → List ℕ
head_of i g o total = counts_of i g o ++ LF ++ word_bits ++ decimal total ++ LF

-- with the outputs' lines and "end"
unfoldable pub lines_of : ℕ → ℕ → ℕ → ℕ → (ℕ → ℕ) → List ℕ
lines_of i g o total shown = head_of i g o total ++ out_lines shown o ++ word_end ++ LF

-- what site 1 opened, by the outputs buffer: three bytes an output
abbrev pub shown_of : List ℕ → ℕ → ℕ
shown_of outs o = get_or outs (3 * o) 0

unfoldable pub OneDigit : List ℕ → ℕ → Type 0
OneDigit outs n = (o : ℕ) → o < n → shown_of outs o ≤ 9
