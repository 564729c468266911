-- What the proofs of the calls cite about the checks.
--     counts_are                     an opened file's counts are those that stand in it
--     ands_are, tapes_are, line_is   what is counted is what the circuit has;  run_sizes: the lengths of a run's buffers
--     slices_stop, slices_go         7 and 8 in front of the other checks
-- Assumes nothing.
use mathlib.Core.Path.{◌≡◌, sym, ap, ◌∙◌}
use mathlib.Core.List.{List, [], ◌∷◌, ◌++◌}
use Prim.Native.Nat.{ℕ, ◌+◌, ◌*◌}
use Rattle.theory_sharing.specs.Circuit.{ands, all_ands}
use Rattle.theory_calls.specs.File.{circuit}
use Rattle.theory_calls.specs.Checks.{Refusal as Row, tapes_want, line_want, accepted, refuses, verdict}
use Rattle.theory_calls.specs.Calls.{run_wants}
use Rattle.theory_calls.proofs.Refusals.{accepted_passes, verdict_skips, verdict_stays}
use Rattle.check_refusal.specs.declared.Refusal.{Refusal}
use Rattle.check_refusal.specs.Number.{number_of, place_of}
use Rattle.file_header.specs.declared.Counts.{Counts}
use Rattle.file_header.specs.Opened.{Opened}
use Rattle.check_slices.proofs.ChainLaws.{Left}
use Rattle.check_given.specs.Mirror.{counts_of, slices_checks}

pub counts_are : (f : List ℕ) (c : Counts) → Opened f c → c ≡ counts_of f
counts_are f c o = λ i. record { inputs = o.ins_are i; gates = o.gates_are i; outputs = o.outs_are i }

module _ (f : List ℕ) (c : Counts) (a : ℕ) (op : Opened f c) (ea : a ≡ ands (circuit f).gate c.gates) where
  pub ands_are : a ≡ all_ands (circuit f)
  ands_are = ea ∙ ap (ands (circuit f).gate) op.gates_are

  pub tapes_are : 2 * c.inputs + 6 * a ≡ tapes_want (circuit f)
  tapes_are = λ i. 2 * op.ins_are i + 6 * ands_are i

  pub line_is : 4 * c.inputs + 12 * a + 6 * c.outputs ≡ line_want (circuit f)
  line_is = λ i. 4 * op.ins_are i + 12 * ands_are i + 6 * op.outs_are i

  -- "run 0 outputs, 1 transcript, 2 store"
  pub run_sizes : 3 * c.outputs ∷ (4 * c.inputs + 12 * a + 6 * c.outputs) ∷ 6 * (c.inputs + c.gates) ∷ [] ≡ run_wants (circuit f)
  run_sizes = λ i. 3 * op.outs_are i ∷ line_is i ∷ 6 * (op.ins_are i + op.gates_are i) ∷ []

-- 7 and 8 in front of other checks
module _ (f x t : List ℕ) (cs : List Row) where
  pub slices_stop : (e : Refusal) → refuses (number_of e) (place_of e) ≡ verdict (slices_checks f x t) → refuses (number_of e) (place_of e) ≡ verdict (slices_checks f x t ++ cs)
  slices_stop e v = sym (verdict_stays (slices_checks f x t) cs (number_of e) (place_of e) (sym v))

  pub slices_go : accepted ≡ verdict (slices_checks f x t) → Left (slices_checks f x t ++ cs) cs
  slices_go v = sym (verdict_skips (slices_checks f x t) cs (accepted_passes (slices_checks f x t) (sym v)))
