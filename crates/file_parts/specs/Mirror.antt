-- What the reader's inner functions compute, test by test in the code's order. No public contract cites these: laws in proofs/ tie them to
-- the calls of theory_calls.
--     gate_stored                     a gate's three numbers
--     gate_by, owner_by, output_by    the stored numbers, or 5, 4, 6 with the count
use Rattle.std.specs.Prelude.{cond, List, ℕ, leb, Result, Ok, Err}
use Rattle.theory_calls.specs.File.{kind_at, first_at, second_at, owner_at, output_at}
use Rattle.check_refusal.specs.declared.Refusal.{Refusal}
use Rattle.check_refusal.specs.declared.Refusal.TheVariants.{Gate as GateAsked, Owner as OwnerAsked, Output as OutputAsked}
use Rattle.file_header.specs.declared.Counts.{Counts}
use Rattle.file_parts.specs.declared.Gate.{Gate}

abbrev pub gate_stored : List ℕ → Counts → ℕ → Gate
gate_stored s c k = record { kind = kind_at s c.inputs k; first = first_at s c.inputs k; second = second_at s c.inputs k }

unfoldable pub gate_by : List ℕ → Counts → ℕ → Result Gate Refusal
gate_by s c k = cond (leb c.gates k) (Err (GateAsked c.gates)) (Ok (gate_stored s c k))

unfoldable pub owner_by : List ℕ → Counts → ℕ → Result ℕ Refusal
owner_by s c k = cond (leb c.inputs k) (Err (OwnerAsked c.inputs)) (Ok (owner_at s k))

unfoldable pub output_by : List ℕ → Counts → ℕ → Result ℕ Refusal
output_by s c k = cond (leb c.outputs k) (Err (OutputAsked c.outputs)) (Ok (output_at s c.inputs c.gates k))
