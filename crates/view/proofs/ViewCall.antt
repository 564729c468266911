-- The public view: what the code does is what the call does.
--     front              what the call checks
--     ready, accepted_view    nothing is refused: every length is right, and the call is the document's view
-- Assumes nothing.
use mathlib.Core.Path.{◌≡◌, refl, sym, ap₂, ◌∙◌}
use mathlib.Core.List.{List, [], ◌∷◌}
use native.Mathlib.Omega.{arith}
use Prim.Native.Nat.{ℕ, ◌+◌, ◌*◌}
use lib.ListN.{length}
use Rattle.theory_sharing.specs.Ops.{bits}
use Rattle.theory_sharing.specs.Circuit.{no_errors}
use Rattle.theory_sharing.specs.Run.{after}
use Rattle.theory_sharing.specs.Tapes.{read}
use Rattle.theory_sharing.specs.Store.{store}
use Rattle.theory_sharing.specs.View.{view_from}
use Rattle.theory_calls.specs.File.{site_of, circuit}
use Rattle.theory_calls.specs.Answer.{good}
use Rattle.theory_calls.specs.Checks.{accepted, verdict}
use Rattle.theory_calls.specs.Calls.{Call, View, ViewOf, at_wire, does, Accepts}
use Rattle.theory_calls.proofs.Refusals.{Without}
use Rattle.theory_calls.proofs.CallLaws.{verdict_accepts, accepts_does}
use Rattle.theory_calls.proofs.Accepted.{ViewOk, view_ok}
use Rattle.file_header.specs.declared.Counts.{Counts}
use Rattle.file_parts.specs.Checked.{Checked}
use Rattle.check_slices.proofs.ChainLaws.{nothing}
use Rattle.std.specs.Prelude.{Ok}
use Rattle.check_circuit.specs.Answers.{done_answer, done_after}
use Rattle.check_circuit.proofs.FrontLaws.{Front, given_passed}
use Rattle.view.specs.Mirror.{view_checks, Ready}

module _ (f x t : List ℕ) (s : ℕ) (v st : List ℕ) where
  abbrev the_view : Call
  the_view = View f x t s v st

  pub front : Front the_view f (view_checks f x t s (length v) (length st)) [] (v ∷ st ∷ [])
  unfolding Without ViewOf
  front = record { goes = refl; leaves = λ n k. refl; returns = λ n p. refl; no_13 = omega arith }

  module _ (c : Counts) (k : Checked f c) (clear : accepted ≡ verdict (view_checks f x t s (length v) (length st))) where
    accepts : Accepts the_view
    accepts = verdict_accepts the_view (given_passed the_view f _ [] _ front k.passes clear ∙ sym nothing)

    ok : ViewOk f x t s v st
    ok = view_ok f x t s v st accepts

    pub ready : Ready f c (site_of s) (length x) (length t) (length v) (length st)
    ready =
        let o = k.opened in
        record {
          checked = k;
          lx = ok.in_x.long ∙ sym o.ins_are;
          lt = ok.in_t.long;
          lv = ok.v_long;
          ls = ok.st_long ∙ ap₂ (λ (i m : ℕ). 6 * (i + m)) (sym o.ins_are) (sym o.gates_are);
        }

    pub accepted_view : (v' st' : List ℕ) → v' ≡ view_from bits (site_of s) (circuit f) (at_wire x) t
        → st' ≡ store (after bits (circuit f) (at_wire x) (read (circuit f) t) no_errors (circuit f).gates) → done_after (Ok tt) (v' ∷ st' ∷ []) ≡ does the_view
    unfolding done_answer ViewOf
    accepted_view v' st' a b = (λ i. record { answer = good []; returned = []; lent = a i ∷ b i ∷ [] }) ∙ sym (accepts_does the_view accepts)
