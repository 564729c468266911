-- The public run: what the code does is what the call does.
--     front              what the call checks;  run_circuit, run_given_no: a refusal from 1 to 6, and from 7 to 10
--     ready, accepted_run    nothing is refused: every length is right, and the call is the document's run
--     run_one            two results that meet the statement are equal
-- Assumes nothing.
use mathlib.Core.Path.{◌≡◌, refl, sym, ap, ap₂, ◌∙◌}
use mathlib.Core.List.{List, [], ◌∷◌}
use native.Mathlib.Omega.{arith}
use Prim.Native.Nat.{ℕ, ◌+◌, ◌*◌}
use lib.ListN.{length}
use Rattle.std.specs.Prelude.{Result, Ok, Err}
use Rattle.theory_sharing.specs.Tapes.{read}
use Rattle.theory_sharing.specs.Line.{errors}
use Rattle.theory_calls.specs.File.{circuit}
use Rattle.theory_calls.specs.Checks.{Refusal as Row, accepted, refuses, verdict}
use Rattle.theory_calls.specs.Calls.{Call, Check, Run, RunOf, answers, at_wire, does, Accepts}
use Rattle.theory_calls.specs.AtBits.{ran}
use Rattle.theory_calls.proofs.Refusals.{Without}
use Rattle.theory_calls.proofs.CallLaws.{verdict_accepts}
use Rattle.theory_calls.proofs.Accepted.{RunOk, run_ok}
use Rattle.theory_calls.proofs.RunCall.{run_does}
use Rattle.check_refusal.specs.declared.Refusal.{Refusal}
use Rattle.check_refusal.specs.Number.{number_of, place_of}
use Rattle.check_refusal.proofs.RefusalLaws.{answer_one}
use Rattle.file_header.specs.declared.Counts.{Counts}
use Rattle.file_header.specs.Answers.{header_answer}
use Rattle.file_header.proofs.OpenLaws.{one_result}
use Rattle.file_parts.specs.Checked.{Checked}
use Rattle.check_circuit.proofs.FrontLaws.{Front, circuit_refused, given_refused, given_passed}
use Rattle.check_slices.proofs.ChainLaws.{nothing}
use Rattle.check_given.specs.Mirror.{run_checks}
use Rattle.run.specs.declared.Ran.{Ran}
use Rattle.run.specs.declared.Ran.TheVariants.{Good, Abort}
use Rattle.run.specs.Answers.{run_answer, run_after}
use Rattle.run.specs.Mirror.{Ready}

module _ (f x t l outs tr st : List ℕ) where
  abbrev the_run : Call
  the_run = Run f x t l outs tr st

  abbrev Four : List Row
  Four = run_checks f x t l (length outs) (length tr) (length st)

  pub front : Front the_run f Four [] (outs ∷ tr ∷ st ∷ [])
  unfolding Without RunOf
  front = record { goes = refl; leaves = λ n k. refl; returns = λ n p. refl; no_13 = omega arith }

  pub run_circuit : (e : Refusal) → answers (header_answer (Err e)) ≡ does (Check f) → run_after (Err e) outs tr st ≡ does the_run
  unfolding run_answer
  run_circuit = circuit_refused the_run f Four [] _ front

  pub run_given_no : Accepts (Check f) → (e : Refusal) → refuses (number_of e) (place_of e) ≡ verdict Four → run_after (Err e) outs tr st ≡ does the_run
  unfolding run_answer
  run_given_no = given_refused the_run f Four [] _ front

  module _ (c : Counts) (k : Checked f c) (clear : accepted ≡ verdict Four) where
    accepts : Accepts the_run
    accepts = verdict_accepts the_run (given_passed the_run f Four [] _ front k.passes clear ∙ sym nothing)

    ok : RunOk f x t l outs tr st
    ok = run_ok f x t l outs tr st accepts

    pub ready : Ready f c (length x) (length t) (length l) (length tr) (length st)
    ready =
        let o = k.opened in
        record {
          checked = k;
          lx = ok.in_x.long ∙ sym o.ins_are;
          lt = ok.in_t.long;
          ll = ok.in_l.long;
          lr = ok.tr_long;
          ls = ok.st_long ∙ ap₂ (λ (i m : ℕ). 6 * (i + m)) (sym o.ins_are) (sym o.gates_are);
        }

    pub outs_ready : length outs ≡ 3 * c.outputs
    outs_ready = ok.outs_long ∙ ap (λ (m : ℕ). 3 * m) (sym k.opened.outs_are)

    pub accepted_run : (r' : Result Ran Refusal) (o' t' s' : List ℕ) → run_after r' o' t' s' ≡ ran (circuit f) (at_wire x) (read (circuit f) t) (errors (circuit f) l) outs tr
        → run_after r' o' t' s' ≡ does the_run
    accepted_run r' o' t' s' d = d ∙ sym (run_does f x t l outs tr st accepts)

-- an answer tells which case it stands for
run_inj : (q r : Result Ran Refusal) → run_answer q ≡ run_answer r → q ≡ r
unfolding run_answer
run_inj (Ok Good) (Ok Good) e = refl
run_inj (Ok Good) (Ok (Abort o m)) e = cc
run_inj (Ok (Abort o m)) (Ok Good) e = cc
run_inj (Ok (Abort o m)) (Ok (Abort p n)) e = cc
run_inj (Ok Good) (Err d) e = cc
run_inj (Ok (Abort o m)) (Err d) e = cc
run_inj (Err d) (Ok Good) e = cc
run_inj (Err d) (Ok (Abort o m)) e = cc
run_inj (Err d) (Err b) e = ap Err (answer_one d b e)

-- two results that meet the statement are equal: the answer and the three buffers
pub run_one : (f x t l outs tr st : List ℕ) (q r : Result Ran Refusal) (o o' t₁ t₁' s s' : List ℕ)
    → run_after q o t₁ s ≡ does (Run f x t l outs tr st) → run_after r o' t₁' s' ≡ does (Run f x t l outs tr st)
    → (q ≡ r) × (o ≡ o') × (t₁ ≡ t₁') × (s ≡ s')
run_one f x t l outs tr st q r o o' t₁ t₁' s s' a b =
    let e = one_result run_answer run_inj (does (Run f x t l outs tr st)) q r (o ∷ t₁ ∷ s ∷ []) (o' ∷ t₁' ∷ s' ∷ []) a b in
    let z = e.1 in
    (e.0, cc, cc, cc)
