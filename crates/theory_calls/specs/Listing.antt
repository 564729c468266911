-- The listing's text, in bytes (ASCII).
--     decimal            a number in digits
--     good_text          "Line one has the three counts, line two the traffic total; then one line per output, its number and bit; then `end`."
--     refused_text       "A refusal prints only `refused N P`, number and place.": the program's line, no call's
-- Every line ends in LF.
use Rattle.std.specs.Prelude.{cond, List, [], ◌∷◌, ◌++◌, ℕ, zero, suc, ◌+◌, ◌/◌, ◌%◌, leb}
use Rattle.theory_sharing.specs.Circuit.{Circuit}
use Rattle.theory_sharing.specs.Traffic.{table_total}

-- the digits of n, at most k + 1 of them
unfoldable pub digits : ℕ → ℕ → List ℕ
digits zero n = (48 + n % 10) ∷ []
digits (suc k) n = cond (leb n 9) ((48 + n) ∷ []) (digits k (n / 10) ++ ((48 + n % 10) ∷ []))

unfoldable pub decimal : ℕ → List ℕ
decimal n = digits n n

-- "inputs "
abbrev pub word_inputs : List ℕ
word_inputs = 105 ∷ 110 ∷ 112 ∷ 117 ∷ 116 ∷ 115 ∷ 32 ∷ []

-- " gates "
abbrev pub word_gates : List ℕ
word_gates = 32 ∷ 103 ∷ 97 ∷ 116 ∷ 101 ∷ 115 ∷ 32 ∷ []

-- " outputs "
abbrev pub word_outputs : List ℕ
word_outputs = 32 ∷ 111 ∷ 117 ∷ 116 ∷ 112 ∷ 117 ∷ 116 ∷ 115 ∷ 32 ∷ []

-- "bits "
abbrev pub word_bits : List ℕ
word_bits = 98 ∷ 105 ∷ 116 ∷ 115 ∷ 32 ∷ []

-- "out "
abbrev pub word_out : List ℕ
word_out = 111 ∷ 117 ∷ 116 ∷ 32 ∷ []

-- "end"
abbrev pub word_end : List ℕ
word_end = 101 ∷ 110 ∷ 100 ∷ []

-- "refused "
abbrev pub word_refused : List ℕ
word_refused = 114 ∷ 101 ∷ 102 ∷ 117 ∷ 115 ∷ 101 ∷ 100 ∷ 32 ∷ []

abbrev pub space : List ℕ
space = 32 ∷ []

abbrev pub LF : List ℕ
LF = 10 ∷ []

-- "out 0 1": "one line per output, its number and bit"
unfoldable pub out_lines : (ℕ → ℕ) → ℕ → List ℕ
out_lines shown zero = []
out_lines shown (suc o) = out_lines shown o ++ (word_out ++ decimal o ++ space ++ decimal (shown o) ++ LF)

-- of a circuit, and the bit shown for each output
unfoldable pub good_text : Circuit → (ℕ → ℕ) → List ℕ
good_text C shown =
    word_inputs ++ decimal C.ins ++ word_gates ++ decimal C.gates ++ word_outputs ++ decimal C.outs ++ LF
    ++ word_bits ++ decimal (table_total C) ++ LF
    ++ out_lines shown C.outs
    ++ word_end ++ LF

unfoldable pub refused_text : ℕ → ℕ → List ℕ
refused_text n p = word_refused ++ decimal n ++ space ++ decimal p ++ LF
