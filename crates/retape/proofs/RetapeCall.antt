-- Re-taping as a public call: what the code does is what the call does.
--     retape_sizes                       how long the two buffers are to be, by what is counted
--     front                              what the call checks;  Ready, ready: what is left by the checks in front of 13
--     differs_refused                    13: both sets of plain values stand in the work room
--     accepted_retape                    nothing is refused
-- Assumes nothing.
use mathlib.Core.Path.{◌≡◌, refl, sym, ap, ap₂, ◌∙◌, subst}
use mathlib.Core.List.{List, [], ◌∷◌, ◌++◌}
use Prim.Native.Nat.{ℕ, ◌+◌, ◌*◌}
use native.Mathlib.Omega.{arith}
use lib.ListN.{length, take}
use lib.Seq.{take_at}
use borrow.Author.Tests.{ne_eqb}
use Rattle.theory_sharing.specs.Ops.{bits}
use Rattle.theory_sharing.specs.Circuit.{ands}
use Rattle.theory_sharing.specs.Retape.{new_tapes}
use Rattle.theory_sharing.specs.Store.{fill}
use Rattle.theory_calls.specs.File.{inputs_of, site_of, circuit}
use Rattle.theory_calls.specs.Plain.{plain}
use Rattle.theory_calls.specs.Checks.{Refusal, refusal, tapes_want, fault, accepted, verdict}
use Rattle.theory_calls.specs.Calls.{Call, Retape, RetapeOf, retape_wants, at_wire, both_plain_of, does}
use Rattle.theory_calls.specs.AtBits.{row_differs, both_plain, work_room}
use Rattle.theory_calls.specs.Statements.{Bits}
use Rattle.theory_calls.proofs.Refusals.{Passes, Without, accepted_passes, row_refuses, row_passes}
use Rattle.theory_calls.proofs.RowLaws.{bits_clear, sizes_clear}
use Rattle.theory_calls.proofs.CallLaws.{does_good, does_refused}
use Rattle.theory_calls.proofs.PlainLaws.{plain_length}
use Rattle.theory_sharing.proofs.StoreLaws.{fill_length}
use lib.ListN.{length-append}
use Rattle.file_header.specs.declared.Counts.{Counts}
use Rattle.file_header.specs.Opened.{Opened}
use Rattle.file_parts.specs.Checked.{Checked}
use Rattle.std.specs.Prelude.{Option, None, Some, Ok, Err}
use Rattle.check_refusal.specs.declared.Refusal.TheVariants.{Differs}
use Rattle.check_refusal.specs.Found.{some_below}
use Rattle.check_refusal.proofs.FoundLaws.{some_found, none_found}
use Rattle.check_circuit.specs.Answers.{done_answer, done_after}
use Rattle.check_circuit.proofs.FrontLaws.{Front, given_passed}
use Rattle.check_slices.proofs.ChainLaws.{nothing}
use Rattle.check_given.proofs.GivenLaws.{tapes_are}
use Rattle.retape.specs.Mirror.{retape_checks}

-- what the checks in front of 13 leave
pub record Ready (f x t y : List ℕ) (c : Counts) (nt wr : ℕ) : Type 0 where
  pub in_x : Bits x c.inputs
  pub in_y : Bits y c.inputs
  pub t_long : length t ≡ tapes_want (circuit f)
  pub nt_long : nt ≡ tapes_want (circuit f)
  pub wr_long : wr ≡ 4 * (c.inputs + c.gates)

-- "re-taping 0 new tapes, 1 work room", by what is counted
pub retape_sizes : (f : List ℕ) (c : Counts) (a : ℕ) (op : Opened f c) (ea : a ≡ ands (circuit f).gate c.gates)
    → (2 * c.inputs + 6 * a) ∷ 4 * (c.inputs + c.gates) ∷ [] ≡ retape_wants (circuit f)
retape_sizes f c a op ea = λ i. tapes_are f c a op ea i ∷ 4 * (op.ins_are i + op.gates_are i) ∷ []

module _ (f x t y : List ℕ) (s : ℕ) (nt wr : List ℕ) where
  abbrev the_call : Call
  the_call = Retape f x t y s nt wr

  abbrev Five : List Refusal
  Five = retape_checks f x t y s (length nt) (length wr)

  abbrev at_13 : Refusal
  at_13 = refusal 13 (row_differs (circuit f) s x y)

  pub front : Front the_call f Five (at_13 ∷ []) (nt ∷ wr ∷ [])
  unfolding Without RetapeOf
  front = record { goes = refl; leaves = λ n k. rw (ne_eqb n 13 k); returns = λ n p. refl; no_13 = omega arith }

  module _ (c : Counts) (k : Checked f c) (clear : accepted ≡ verdict Five) where
    abbrev op : Opened f c
    op = k.opened

    pub ready : Ready f x t y c (length nt) (length wr)
    unfolding Passes
    ready =
        let k = accepted_passes Five (sym clear) in
        let sizes = sizes_clear (length nt ∷ length wr ∷ []) (retape_wants (circuit f)) 2 k.1.1.1.0 in
        record {
          in_x = subst (Bits x) (sym op.ins_are) (bits_clear x (inputs_of f) k.0);
          in_y = subst (Bits y) (sym op.ins_are) (bits_clear y (inputs_of f) k.1.1.1.1.0);
          t_long = (bits_clear t (tapes_want (circuit f)) k.1.0).long;
          nt_long = sizes 0 (omega arith);
          wr_long = sizes 1 (omega arith) ∙ (λ i. 4 * (sym op.ins_are i + sym op.gates_are i));
        }

    -- both sets of plain values in front of the work room
    pub values_front : (l : List ℕ) → l ≡ fill wr (both_plain (circuit f) x y) → (length l ≡ 4 * (c.inputs + c.gates)) × (take (2 * (c.inputs + c.gates)) l ≡ both_plain (circuit f) x y)
    unfolding fill both_plain_of
    values_front l d =
        let C = circuit f in
        let i = op.ins_are in let j = op.gates_are in let a = plain_length C x in let b = plain_length C y in
        let m : length (plain C x ++ plain C y) ≡ 2 * (c.inputs + c.gates) = length-append (plain C x) (plain C y) ∙ (let w : length (plain C x) + length (plain C y) ≡ 2 * (c.inputs + c.gates) = omega arith in w) in
        let n = ready.wr_long in (
          ap length d ∙ fill_length wr (plain C x ++ plain C y) (omega arith) ∙ n,
          ap (take (2 * (c.inputs + c.gates))) d ∙ take_at (plain C x ++ plain C y) _ (2 * (c.inputs + c.gates)) m,
        )

    -- only 13 is left
    passed : verdict the_call.checks ≡ verdict (at_13 ∷ [])
    passed = given_passed the_call f Five (at_13 ∷ []) _ front k.passes clear

    abbrev differs : Option ℕ
    differs = some_below (fault (row_differs (circuit f) s x y)) (c.inputs + c.outputs)

    pub differs_refused : (d : ℕ) → Some d ≡ differs → (l : List ℕ) → l ≡ fill wr (both_plain (circuit f) x y) → done_after (Err (Differs d)) (nt ∷ l ∷ []) ≡ does the_call
    unfolding done_answer RetapeOf
    differs_refused d e l b =
        let q = some_found d _ _ e in let i = op.ins_are in let o = op.outs_are in
        ap (λ (z : List ℕ). done_after (Err (Differs d)) (nt ∷ z ∷ [])) b
        ∙ sym (does_refused the_call 13 d (passed ∙ sym (row_refuses 13 [] _ d q.0 (omega arith))))

    pub accepted_retape : ◌≡◌ {A = Option ℕ} None differs → (l m : List ℕ) → l ≡ new_tapes bits (site_of s) (circuit f) (at_wire x) (at_wire y) t → m ≡ work_room (circuit f) x t y s
        → done_after (Ok tt) (l ∷ m ∷ []) ≡ does the_call
    unfolding done_answer RetapeOf
    accepted_retape e l m p b =
        let h = none_found _ _ e in let i = op.ins_are in let o = op.outs_are in
        ap₂ (λ (z w : List ℕ). done_after (Ok tt) (z ∷ w ∷ [])) p b
        ∙ sym (does_good the_call (passed ∙ sym (row_passes 13 [] _ _ refl (omega arith)) ∙ sym nothing))
