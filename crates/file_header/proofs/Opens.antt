-- What a good header leaves.
--     opened_of     the fields of a header that was judged good, as Opened has them
-- Assumes nothing.
use mathlib.Core.Path.{◌≡◌, ◌∙◌}
use mathlib.Core.List.{List}
use Prim.Native.Nat.{ℕ}
use native.Mathlib.Omega.{arith}
use lib.ListN.{length}
use Rattle.std.specs.Prelude.{Result, Ok, Err}
use Rattle.theory_calls.specs.File.{inputs_of, gates_of, outputs_of}
use Rattle.check_refusal.specs.declared.Refusal.{Refusal}
use Rattle.file_header.specs.declared.Counts.{Counts}
use Rattle.file_header.specs.declared.Fields.{Fields}
use Rattle.file_header.specs.Mirror.{Fine}
use Rattle.file_header.specs.Opened.{IsOpened}

pub opened_of : (h : Result Counts Refusal) (s : List ℕ) (f : Fields) → f.inputs ≡ inputs_of s → f.gates ≡ gates_of s → f.outputs ≡ outputs_of s → Fine h (length s) f → IsOpened h s
opened_of (Ok c) s f ei eg eo z =
    let a = z.0 in
    let b = z.1 in
    let d = z.2 in
    record {
      ins_are = a ∙ ei;
      gates_are = b ∙ eg;
      outs_are = d ∙ eo;
      few_inputs = let e = z.3 in omega arith;
      few_gates = let e = z.4 in omega arith;
      few_outputs = let e = z.5 in omega arith;
      as_long = let e = z.6 in omega arith;
    }
opened_of (Err x) s f ei eg eo z = tt
