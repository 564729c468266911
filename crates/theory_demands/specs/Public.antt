-- The calls that public functions promise, as a closed list, held to the sources by the gate.
--     OnFile         the calls on a circuit file, or on a job with one: document 01's;  fixed_order: the one order of their checks
--     text_numbers   the order of T-01's call, by the line's own number
--     Public         all of them
use Rattle.std.specs.Prelude.{List, [], ◌∷◌, ℕ}
use Rattle.theory_calls.specs.Calls.{Call, Open, GateAt, OwnerAt, OutputAt, Check, Traffic, Plain, Run, View, Retape, Listing}
use Rattle.bristol_text.specs.Call.{FromBristol}

pub data OnFile : Call → Type 0 where
  is_open : (file : List ℕ) → OnFile (Open file)
  is_gate : (file : List ℕ) (n : ℕ) → OnFile (GateAt file n)
  is_owner : (file : List ℕ) (n : ℕ) → OnFile (OwnerAt file n)
  is_output : (file : List ℕ) (n : ℕ) → OnFile (OutputAt file n)
  is_check : (file : List ℕ) → OnFile (Check file)
  is_traffic : (file : List ℕ) → OnFile (Traffic file)
  is_plain : (file inputs values : List ℕ) → OnFile (Plain file inputs values)
  is_run : (file inputs tapes line outputs transcript store : List ℕ) → OnFile (Run file inputs tapes line outputs transcript store)
  is_view : (file inputs tapes : List ℕ) (site : ℕ) (view store : List ℕ) → OnFile (View file inputs tapes site view store)
  is_retape : (file inputs tapes second : List ℕ) (site : ℕ) (new room : List ℕ) → OnFile (Retape file inputs tapes second site new room)
  is_listing : (job text : List ℕ) → OnFile (Listing job text)

-- 01: "Checks go by rising number .. The exceptions are 14, which comes first, and 11, which comes just before 10": one order for all of them
abbrev pub fixed_order : List ℕ
fixed_order = 14 ∷ 1 ∷ 2 ∷ 3 ∷ 4 ∷ 5 ∷ 6 ∷ 7 ∷ 8 ∷ 9 ∷ 11 ∷ 10 ∷ 12 ∷ 13 ∷ []

-- T-01: "Refusals: 10 for the room ..; then, first by line and in this order on one line, 15 .., 16 .., 17 .., each with its line number; then, with the
-- number of lines, 15 for a missing line, 17 for an output wire never written; then 4 ..; then 2.": the line's own number stands for its check
abbrev pub text_numbers : ℕ → List ℕ
text_numbers line = 10 ∷ line ∷ 15 ∷ 17 ∷ 4 ∷ 2 ∷ []

-- a call with an order of its own stands here beside them
pub data Public : Call → Type 0 where
  on_file : {c : Call} → OnFile c → Public c
  is_from_bristol : (text owners room : List ℕ) → Public (FromBristol text owners room)
