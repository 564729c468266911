-- T-01's call: a Bristol Fashion text and an owner for each input value, and the circuit file that is written into a room.
--     fault_at          15, 16 or 17 at a line, counted from 1; 0 for none
--     FromBristol       the call
-- T-01: "Refusals: 10 for the room, place 0; then, first by line and in this order on one line, 15 text not good, 16 any other gate word, 17 a
-- wire read before it is written or written twice .., each with its line number; then, with the number of lines, 15 for a missing line, 17 for an
-- output wire never written; then 4, place the count of values if the owners' list has another length, else the first bad value; then 2."
use Rattle.std.specs.Prelude.{not, List, [], ◌∷◌, ◌++◌, ℕ, zero, suc, length, get_or, take, eqb}
use Rattle.theory_sharing.specs.Store.{fill}
use Rattle.theory_calls.specs.Answer.{done}
use Rattle.theory_calls.specs.Checks.{Row, Refusal, refusal, at_places, one_to_three, listed_row, buffers_check, limits_row}
use Rattle.theory_calls.specs.Call.{Call, changes_nothing}
use Rattle.bristol_text.specs.Words.{lines}
use Rattle.bristol_text.specs.Lines.{total}
use Rattle.bristol_text.specs.Heard.{Heard, heard, says, line_fault, out_wires, all_written, complete}
use Rattle.bristol_text.specs.Renamed.{renamed, text_file}

unfoldable pub fault_at : List (List ℕ) → ℕ → ℕ
fault_at ls zero = 0
fault_at ls (suc k) = line_fault (heard (take k ls)) (says (heard (take k ls)) (get_or ls k []))

-- "each with its line number"
abbrev pub lines_check : List (List ℕ) → Refusal
lines_check ls = record { number = fault_at ls; row = record { span = suc (length ls); bad = λ p. not (eqb (fault_at ls p) 0) } }

-- "then, with the number of lines, 15 for a missing line, 17 for an output wire never written"
abbrev pub end_checks : ℕ → Heard → List Refusal
end_checks n h =
    refusal 15 (at_places (suc n) ((n, not (complete h)) ∷ []))
    ∷ refusal 17 (at_places (suc n) ((n, not (all_written h (out_wires h))) ∷ [])) ∷ []

-- "then 4, place the count of values if the owners' list has another length, else the first bad value"
abbrev pub row_values : List ℕ → ℕ → Row
row_values owners v = listed_row one_to_three owners v

-- "then 2": "Wires are numbered anew, and our limits hold then."
abbrev pub text_limits : Heard → Row
text_limits h = limits_row (total h.ins) (length (renamed h).gates) (total h.outs)

unfoldable pub text_checks : List (List ℕ) → List ℕ → List Refusal
text_checks ls owners =
    lines_check ls ∷ end_checks (length ls) (heard ls)
    ++ (refusal 4 (row_values owners (length (heard ls).ins)) ∷ refusal 2 (text_limits (heard ls)) ∷ [])

-- "The room is 20,000 bytes; the answer is the file's length, and the bytes behind stay."
abbrev pub room_bytes : ℕ
room_bytes = 20000

unfoldable pub FromBristol : (text owners room : List ℕ) → Call
FromBristol text owners room = record {
  checks = buffers_check (room ∷ []) (room_bytes ∷ []) ∷ text_checks (lines text) owners;
  buffers = room ∷ [];
  good = record { answer = done (length (text_file text owners) ∷ []); returned = []; lent = fill room (text_file text owners) ∷ [] };
  at_refusal = changes_nothing;
}
