-- What the inner functions of the checks compute. No public contract cites these: laws in proofs/ tie them to the calls of theory_calls.
--     checked_of            checks 4 to 6, one after the other
use Rattle.std.specs.Prelude.{cond, List, ℕ, ltb, Result, Ok, Err}
use Rattle.theory_sharing.specs.First.{first}
use Rattle.check_refusal.specs.declared.Refusal.{Refusal}
use Rattle.check_refusal.specs.declared.Refusal.TheVariants.{Owner, Gate, Output}
use Rattle.file_header.specs.declared.Counts.{Counts}
use Rattle.check_tests.specs.Mirror.{bad_owner, bad_gate, bad_output}

unfoldable pub checked_of : List ℕ → Counts → Result Counts Refusal
checked_of s c =
    cond (ltb (first (bad_owner s) c.inputs) c.inputs) (Err (Owner (first (bad_owner s) c.inputs)))
    (cond (ltb (first (bad_gate s c.inputs) c.gates) c.gates) (Err (Gate (first (bad_gate s c.inputs) c.gates)))
    (cond (ltb (first (bad_output s c.inputs c.gates) c.outputs) c.outputs) (Err (Output (first (bad_output s c.inputs c.gates) c.outputs)))
    (Ok c)))
