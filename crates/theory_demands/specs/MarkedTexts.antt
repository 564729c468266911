-- T-01's worked examples as one list of rows, a call and what it answers and leaves, in any room of 20,000 bytes.
--     headed g w t     the text t behind three header lines: g gates and w wires said, two input values and one output value of one wire each
--     xor_line         its usual gate line, "2 1 0 1 2 XOR"
--     four_gates       a text with each kind of gate;  four_file: its file, by hand
--     from-text, writes    the call on a text in a room, and what a good one leaves there
--     text_rows        the examples; proofs/MarkedTexts.antt computes them
use Rattle.std.specs.Prelude.{List, [], ◌∷◌, ◌++◌, ℕ, ◌+◌}
use Rattle.theory_sharing.specs.Store.{fill}
use Rattle.theory_calls.specs.Answer.{good, refused, After}
use Rattle.bristol_text.specs.Call.{FromBristol}
use Rattle.theory_demands.specs.Marked.{Row, stopped_with}

-- one digit each; then "2 1 1" and "1 1"
abbrev pub headed : ℕ → ℕ → List ℕ → List ℕ
headed g w t = ((48 + g) ∷ 32 ∷ (48 + w) ∷ 10 ∷ 50 ∷ 32 ∷ 49 ∷ 32 ∷ 49 ∷ 10 ∷ 49 ∷ 32 ∷ 49 ∷ 10 ∷ []) ++ t

abbrev pub xor_line : List ℕ
xor_line = 50 ∷ 32 ∷ 49 ∷ 32 ∷ 48 ∷ 32 ∷ 49 ∷ 32 ∷ 50 ∷ 32 ∷ 88 ∷ 79 ∷ 82 ∷ 10 ∷ []

-- inputs 0 and 1; wire 2 is their XOR, wire 3 an EQW of it, wire 4 the AND of 0 and 3, wire 5 the INV of 4; outputs 4 and 5. Lines end in CR LF
abbrev pub four_gates : List ℕ
four_gates =
    -- 4 6
    52 ∷ 32 ∷ 54 ∷ 13 ∷ 10
    -- 2 1 1
    ∷ 50 ∷ 32 ∷ 49 ∷ 32 ∷ 49 ∷ 13 ∷ 10
    -- 1 2
    ∷ 49 ∷ 32 ∷ 50 ∷ 13 ∷ 10
    -- a blank line
    ∷ 13 ∷ 10
    -- 2 1 0 1 2 XOR
    ∷ 50 ∷ 32 ∷ 49 ∷ 32 ∷ 48 ∷ 32 ∷ 49 ∷ 32 ∷ 50 ∷ 32 ∷ 88 ∷ 79 ∷ 82 ∷ 13 ∷ 10
    -- 1 1 2 3 EQW
    ∷ 49 ∷ 32 ∷ 49 ∷ 32 ∷ 50 ∷ 32 ∷ 51 ∷ 32 ∷ 69 ∷ 81 ∷ 87 ∷ 13 ∷ 10
    -- 2 1 0 3 4 AND
    ∷ 50 ∷ 32 ∷ 49 ∷ 32 ∷ 48 ∷ 32 ∷ 51 ∷ 32 ∷ 52 ∷ 32 ∷ 65 ∷ 78 ∷ 68 ∷ 13 ∷ 10
    -- 1 1 4 5 INV
    ∷ 49 ∷ 32 ∷ 49 ∷ 32 ∷ 52 ∷ 32 ∷ 53 ∷ 32 ∷ 73 ∷ 78 ∷ 86 ∷ 13 ∷ 10 ∷ []

abbrev pub four_file : List ℕ
four_file =
    -- 56 bytes; 2 inputs, 3 gates, 2 outputs; offsets 32, 34, 52
    56 ∷ 0 ∷ 0 ∷ 0 ∷ 2 ∷ 0 ∷ 0 ∷ 0 ∷ 3 ∷ 0 ∷ 0 ∷ 0 ∷ 2 ∷ 0 ∷ 0 ∷ 0 ∷ 32 ∷ 0 ∷ 0 ∷ 0 ∷ 34 ∷ 0 ∷ 0 ∷ 0 ∷ 52 ∷ 0 ∷ 0 ∷ 0 ∷ 0 ∷ 0 ∷ 0 ∷ 0
    -- owners 1, 2
    ∷ 1 ∷ 2
    -- XOR 0 1, AND 0 2, NOT 3
    ∷ 1 ∷ 0 ∷ 0 ∷ 0 ∷ 1 ∷ 0 ∷ 2 ∷ 0 ∷ 0 ∷ 0 ∷ 2 ∷ 0 ∷ 3 ∷ 0 ∷ 3 ∷ 0 ∷ 0 ∷ 0
    -- outputs 3, 4
    ∷ 3 ∷ 0 ∷ 4 ∷ 0 ∷ []

abbrev pub writes : ℕ → List ℕ → List ℕ → After
writes n file room = stopped_with (good (n ∷ [])) (fill room file ∷ [])

abbrev pub refuses_text : ℕ → ℕ → List ℕ → After
refuses_text n p room = stopped_with (refused n p) (room ∷ [])

-- of two input values
abbrev pub two_owners : List ℕ
two_owners = 1 ∷ 2 ∷ []

abbrev pub text_rows : List ℕ → List Row
text_rows room =
    -- each kind of gate: EQW makes none, and its wire is the one that it reads
    record { call = FromBristol four_gates two_owners room; wanted = writes 56 four_file room }
    -- a blank line first, leading zeros, a value of width 0 with its owner, an input that is the output, no LF at the end: LF 00000 00001 LF 2  0 1 CR LF 1 1
    ∷ record {
      call = FromBristol (10 ∷ 48 ∷ 48 ∷ 48 ∷ 48 ∷ 48 ∷ 32 ∷ 48 ∷ 48 ∷ 48 ∷ 48 ∷ 49 ∷ 10 ∷ 50 ∷ 32 ∷ 32 ∷ 48 ∷ 32 ∷ 49 ∷ 32 ∷ 13 ∷ 10 ∷ 49 ∷ 32 ∷ 49 ∷ []) (1 ∷ 3 ∷ []) room;
      wanted = writes 35 (35 ∷ 0 ∷ 0 ∷ 0 ∷ 1 ∷ 0 ∷ 0 ∷ 0 ∷ 0 ∷ 0 ∷ 0 ∷ 0 ∷ 1 ∷ 0 ∷ 0 ∷ 0 ∷ 32 ∷ 0 ∷ 0 ∷ 0 ∷ 33 ∷ 0 ∷ 0 ∷ 0 ∷ 33 ∷ 0 ∷ 0 ∷ 0 ∷ 0 ∷ 0 ∷ 0 ∷ 0 ∷ 3 ∷ 0 ∷ 0 ∷ []) room;
    }
    -- 15: six digits, "000001 3"
    ∷ record { call = FromBristol (48 ∷ 48 ∷ 48 ∷ 48 ∷ 48 ∷ 49 ∷ 32 ∷ 51 ∷ 10 ∷ []) [] room; wanted = refuses_text 15 1 room }
    -- 15 before 16: "2 1 0 1 99999 FOO", whose last wire is not below the wire count
    ∷ record { call = FromBristol (headed 1 3 (50 ∷ 32 ∷ 49 ∷ 32 ∷ 48 ∷ 32 ∷ 49 ∷ 32 ∷ 57 ∷ 57 ∷ 57 ∷ 57 ∷ 57 ∷ 32 ∷ 70 ∷ 79 ∷ 79 ∷ 10 ∷ [])) two_owners room; wanted = refuses_text 15 4 room }
    -- 15 before 16: a second gate line, "1 1 0 2 NOP", where one gate is said
    ∷ record { call = FromBristol (headed 1 3 (xor_line ++ (49 ∷ 32 ∷ 49 ∷ 32 ∷ 48 ∷ 32 ∷ 50 ∷ 32 ∷ 78 ∷ 79 ∷ 80 ∷ []))) two_owners room; wanted = refuses_text 15 5 room }
    -- 16: another gate word, in the form of a gate line: "3 1 0 1 1 2 MAND"
    ∷ record { call = FromBristol (headed 1 3 (51 ∷ 32 ∷ 49 ∷ 32 ∷ 48 ∷ 32 ∷ 49 ∷ 32 ∷ 49 ∷ 32 ∷ 50 ∷ 32 ∷ 77 ∷ 65 ∷ 78 ∷ 68 ∷ 10 ∷ [])) two_owners room; wanted = refuses_text 16 4 room }
    -- 17: a gate reads the wire that it writes, "2 1 0 2 2 XOR"
    ∷ record { call = FromBristol (headed 1 3 (50 ∷ 32 ∷ 49 ∷ 32 ∷ 48 ∷ 32 ∷ 50 ∷ 32 ∷ 50 ∷ 32 ∷ 88 ∷ 79 ∷ 82 ∷ 10 ∷ [])) two_owners room; wanted = refuses_text 17 4 room }
    -- 17: an input counts as written, "2 1 0 1 1 XOR"
    ∷ record { call = FromBristol (headed 1 3 (50 ∷ 32 ∷ 49 ∷ 32 ∷ 48 ∷ 32 ∷ 49 ∷ 32 ∷ 49 ∷ 32 ∷ 88 ∷ 79 ∷ 82 ∷ 10 ∷ [])) two_owners room; wanted = refuses_text 17 4 room }
    -- 15 with the number of lines: no text at all; then one gate line of two and a blank line
    ∷ record { call = FromBristol [] [] room; wanted = refuses_text 15 0 room }
    ∷ record { call = FromBristol (headed 2 3 (xor_line ++ (10 ∷ []))) two_owners room; wanted = refuses_text 15 5 room }
    -- 17 with the number of lines: wire 3, the output, is never written
    ∷ record { call = FromBristol (headed 1 4 xor_line) two_owners room; wanted = refuses_text 17 4 room }
    -- 4, place the count of values: three owners for two
    ∷ record { call = FromBristol (headed 1 3 xor_line) (1 ∷ 2 ∷ 3 ∷ []) room; wanted = refuses_text 4 2 room }
    -- 4, the first bad value
    ∷ record { call = FromBristol (headed 1 3 xor_line) (1 ∷ 4 ∷ []) room; wanted = refuses_text 4 1 room }
    -- 2: 1,025 inputs, "0 1025", "1 1025", "1 1"
    ∷ record { call = FromBristol (48 ∷ 32 ∷ 49 ∷ 48 ∷ 50 ∷ 53 ∷ 10 ∷ 49 ∷ 32 ∷ 49 ∷ 48 ∷ 50 ∷ 53 ∷ 10 ∷ 49 ∷ 32 ∷ 49 ∷ 10 ∷ []) (1 ∷ []) room; wanted = refuses_text 2 0 room }
    -- 10 before everything: a room of 20,001 bytes, and the text of the first refusal
    ∷ record { call = FromBristol (48 ∷ 48 ∷ 48 ∷ 48 ∷ 48 ∷ 49 ∷ 32 ∷ 51 ∷ 10 ∷ []) [] (0 ∷ room); wanted = refuses_text 10 0 (0 ∷ room) }
    ∷ []
