-- The chains of the checks, as the code meets them.
--     parts_owner, parts_gate, parts_output, parts_good     the four ways out of checks 4 to 6
--     Judged, check_out, check_in    the call's answer is the definition's, and what a good one leaves
--     check_one                two answers that are the definition's are equal
-- Assumes nothing.
use mathlib.Core.Path.{◌≡◌, refl, sym, ◌∙◌, subst}
use mathlib.Core.Bool.{Bool, true, false, cond}
use mathlib.Core.List.{List, [], ◌∷◌}
use Prim.Native.Nat.{ℕ, ◌<◌, ◌≤◌}
use lib.Dec.{ltb}
use borrow.Author.Tests.{lt-ltb, le-ltb, ltb-true, ltb-false, not-false}
use Rattle.std.specs.Prelude.{Option, None, Some, Result, Ok, Err}
use Rattle.theory_sharing.specs.First.{first}
use Rattle.theory_sharing.proofs.FirstLaws.{first_clear}
use Rattle.theory_calls.specs.Answer.{good}
use Rattle.theory_calls.specs.Checks.{refusal, fault, row_owner, row_gate_of, row_output, accepted, refuses, verdict}
use Rattle.theory_calls.specs.AtBits.{row_gate}
use Rattle.theory_calls.specs.Calls.{Check, CheckOf, answers, does}
use Rattle.theory_calls.proofs.CallLaws.{does_good, verdict_accepts}
use Rattle.check_refusal.specs.declared.Refusal.{Refusal}
use Rattle.check_refusal.specs.declared.Refusal.TheVariants.{Owner, Gate, Output}
use Rattle.check_refusal.specs.Number.{number_of, place_of}
use Rattle.check_refusal.specs.Found.{some_below}
use Rattle.check_refusal.proofs.FoundLaws.{some_found, none_found}
use Rattle.file_header.specs.declared.Counts.{Counts}
use Rattle.file_header.specs.Mirror.{header_of}
use Rattle.file_header.specs.Opened.{Opened, IsOpened}
use Rattle.file_header.proofs.OpenLaws.{only_answer, opened_from, header_inj, one_answer}
use Rattle.file_header.specs.Answers.{header_answer}
use Rattle.file_header.proofs.HeaderLaws.{header_refused, header_good}
use Rattle.check_tests.specs.Mirror.{bad_owner, bad_kind, bad_gate, bad_output}
use Rattle.check_circuit.specs.Mirror.{checked_of}
use Rattle.file_parts.specs.Checked.{Checked, IsChecked}

-- checks 4 to 6, as the code goes through them
module _ (s : List ℕ) (c : Counts) where
  abbrev owner : ℕ
  owner = first (bad_owner s) c.inputs

  abbrev gate : ℕ
  gate = first (bad_gate s c.inputs) c.gates

  abbrev output : ℕ
  output = first (bad_output s c.inputs c.gates) c.outputs

  abbrev No : ℕ → ℕ → Type 0
  No k n = ◌≡◌ {A = Option ℕ} None (some_below k n)

  pub parts_owner : (i : ℕ) → Some i ≡ some_below owner c.inputs → Err (Owner i) ≡ checked_of s c
  unfolding checked_of
  parts_owner i e = let f = some_found i _ _ e in rw (f.0, lt-ltb owner c.inputs f.1)

  pub parts_gate : (g : ℕ) → No owner c.inputs → Some g ≡ some_below gate c.gates → Err (Gate g) ≡ checked_of s c
  unfolding checked_of
  parts_gate g i e = let f = some_found g _ _ e in rw (le-ltb owner c.inputs (none_found _ _ i), f.0, lt-ltb gate c.gates f.1)

  pub parts_output : (o : ℕ) → No owner c.inputs → No gate c.gates → Some o ≡ some_below output c.outputs → Err (Output o) ≡ checked_of s c
  unfolding checked_of
  parts_output o i g e =
      let f = some_found o _ _ e in
      rw (le-ltb owner c.inputs (none_found _ _ i), le-ltb gate c.gates (none_found _ _ g), f.0, lt-ltb output c.outputs f.1)

  pub parts_good : No owner c.inputs → No gate c.gates → No output c.outputs → Ok c ≡ checked_of s c
  unfolding checked_of
  parts_good i g o =
      rw (le-ltb owner c.inputs (none_found _ _ i), le-ltb gate c.gates (none_found _ _ g), le-ltb output c.outputs (none_found _ _ o))

-- an answer of the check that is the definition's, with what it leaves where it is good
abbrev Judged : List ℕ → Result Counts Refusal → Type 0
Judged s h = (answers (header_answer h) ≡ does (Check s)) × IsChecked h s

-- checks 4 to 6 on a file whose header is good
module _ (s : List ℕ) (c : Counts) (o : Opened s c) where
  parts_verdict : verdict (refusal 4 (row_owner s) ∷ refusal 5 (row_gate s) ∷ refusal 6 (row_output s) ∷ [])
      ≡ cond (ltb (owner s c) c.inputs) (refuses 4 (owner s c)) (cond (ltb (gate s c) c.gates) (refuses 5 (gate s c)) (cond (ltb (output s c) c.outputs) (refuses 6 (output s c)) accepted))
  unfolding verdict fault row_owner row_gate_of row_output bad_owner bad_gate bad_kind bad_output
  parts_verdict = rw (o.ins_are, o.gates_are, o.outs_are)

  -- nothing bad is found: everything is good, and the check accepts
  all_good : c.inputs ≤ owner s c → c.gates ≤ gate s c → c.outputs ≤ output s c → verdict (Check s).checks ≡ accepted → Checked s c
  unfolding bad_owner bad_gate bad_kind bad_output
  all_good hi hg ho v = record {
    opened = o;
    passes = verdict_accepts (Check s) v;
    owners = λ k l. not-false _ (first_clear (bad_owner s) c.inputs hi k l);
    gates = λ k l. not-false _ (first_clear (bad_gate s c.inputs) c.gates hg k l);
    outputs = λ k l. ltb-true _ _ (not-false _ (first_clear (bad_output s c.inputs c.gates) c.outputs ho k l));
  }

  -- four ways out
  by_parts : (a b d : Bool) → ltb (owner s c) c.inputs ≡ a → ltb (gate s c) c.gates ≡ b → ltb (output s c) c.outputs ≡ d
      → verdict (Check s).checks ≡ cond a (refuses 4 (owner s c)) (cond b (refuses 5 (gate s c)) (cond d (refuses 6 (output s c)) accepted))
      → Judged s (cond a (Err (Owner (owner s c))) (cond b (Err (Gate (gate s c))) (cond d (Err (Output (output s c))) (Ok c))))
  unfolding header_answer CheckOf
  by_parts true b d ea eb ed v = (only_answer 4 _ (Check s) refl refl v, tt)
  by_parts false true d ea eb ed v = (only_answer 5 _ (Check s) refl refl v, tt)
  by_parts false false true ea eb ed v = (only_answer 6 _ (Check s) refl refl v, tt)
  by_parts false false false ea eb ed v = (
    (λ i. answers (good (o.ins_are i ∷ o.gates_are i ∷ o.outs_are i ∷ []))) ∙ sym (does_good (Check s) v),
    all_good (ltb-false _ _ ea) (ltb-false _ _ eb) (ltb-false _ _ ed) v,
  )

  check_law : header_of s ≡ Ok c → Judged s (checked_of s c)
  unfolding checked_of CheckOf
  check_law e = by_parts _ _ _ refl refl refl (header_good s _ c e ∙ parts_verdict)

-- the header's refusal goes out as it came
refused_out : (s : List ℕ) (e : Refusal) → header_of s ≡ Err e → answers (header_answer (Err e)) ≡ does (Check s)
unfolding header_answer CheckOf
refused_out s e q = only_answer (number_of e) (place_of e) (Check s) refl refl (header_refused s _ e q)

pub check_out : (h : Result Counts Refusal) (s : List ℕ) (e : Refusal) → h ≡ header_of s → h ≡ Err e → Judged s h
check_out h s e a q = subst (Judged s) (sym q) (refused_out s e (sym a ∙ q), tt)

pub check_in : (h r : Result Counts Refusal) (s : List ℕ) (c : Counts) → h ≡ header_of s → IsOpened h s → h ≡ Ok c → r ≡ checked_of s c → Judged s r
check_in h r s c e o q a = subst (Judged s) (sym a) (check_law s c (opened_from h s c q o) (sym e ∙ q))

pub check_one : (s : List ℕ) (q r : Result Counts Refusal) → answers (header_answer q) ≡ does (Check s) → answers (header_answer r) ≡ does (Check s) → q ≡ r
check_one s = one_answer header_answer header_inj (does (Check s))
