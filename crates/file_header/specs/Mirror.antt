-- What the header's inner functions compute, test by test in the code's order. No public contract cites these: laws in proofs/ tie them to
-- the calls of theory_calls.
--     fields_of                             the eight numbers of a file
--     fields_judged, judged, header_of      the header's answer, from check 3 on, from 2 on, whole
--     Fine                                  what a good one says of the numbers it was made of
use Rattle.std.specs.Prelude.{◌≡◌, cond, List, ℕ, ◌+◌, ◌*◌, ◌≤◌, length, leb, eqb, Result, Ok, Err}
use Rattle.theory_calls.specs.File.{le32}
use Rattle.check_refusal.specs.declared.Refusal.{Refusal}
use Rattle.check_refusal.specs.declared.Refusal.TheVariants.{Short, Limit, Header}
use Rattle.file_header.specs.declared.Counts.{Counts}
use Rattle.file_header.specs.declared.Fields.{Fields}

abbrev pub fields_of : List ℕ → Fields
fields_of s = record {
  length = le32 s 0;
  inputs = le32 s 4;
  gates = le32 s 8;
  outputs = le32 s 12;
  owners_at = le32 s 16;
  gates_at = le32 s 20;
  outputs_at = le32 s 24;
  last = le32 s 28;
}

-- check 3, of a file of len bytes with these header fields
unfoldable pub fields_judged : ℕ → Fields → Result Counts Refusal
fields_judged len f =
    cond (eqb f.length (32 + f.inputs + 6 * f.gates + 2 * f.outputs))
    (cond (eqb len f.length)
    (cond (eqb f.owners_at 32)
    (cond (eqb f.gates_at (32 + f.inputs))
    (cond (eqb f.outputs_at (32 + f.inputs + 6 * f.gates))
    (cond (eqb f.last 0) (Ok (record { inputs = f.inputs; gates = f.gates; outputs = f.outputs }))
    (Err (Header 28)))
    (Err (Header 24)))
    (Err (Header 20)))
    (Err (Header 16)))
    (Err (Header 0)))
    (Err (Header 0))

-- checks 2 and 3
unfoldable pub judged : ℕ → Fields → Result Counts Refusal
judged len f =
    cond (leb f.inputs 1024)
    (cond (leb f.gates 3072)
    (cond (leb f.outputs 256) (fields_judged len f)
    (Err (Limit 2)))
    (Err (Limit 1)))
    (Err (Limit 0))

unfoldable pub header_of : List ℕ → Result Counts Refusal
header_of s = cond (leb 32 (length s)) (judged (length s) (fields_of s)) (Err Short)

-- a good header's counts are the fields, within their limits, and make the file's length
abbrev pub Fine : Result Counts Refusal → ℕ → Fields → Type 0
Fine (Ok c) len f =
    (c.inputs ≡ f.inputs) × (c.gates ≡ f.gates) × (c.outputs ≡ f.outputs)
    × (f.inputs ≤ 1024) × (f.gates ≤ 3072) × (f.outputs ≤ 256)
    × (len ≡ 32 + f.inputs + 6 * f.gates + 2 * f.outputs)
Fine (Err e) len f = Unit {0}
