-- The openings of a run, as the code goes through them, are the document's.
--     first_ext           tests that agree have one first
--     Judged, Handed      what the two passes over the outputs give
--     stopped, through    a run that is stopped, and one that nobody stops
-- Assumes nothing.
use mathlib.Core.Path.{◌≡◌, refl, sym, ap, ◌∙◌, subst}
use mathlib.Core.Logic.{⊎_elim}
use mathlib.Core.Bool.{Bool, not}
use mathlib.Core.List.{List, [], ◌∷◌}
use Prim.Native.Nat.{ℕ, suc, ◌+◌, ◌*◌, ◌<◌, min}
use native.Mathlib.Omega.{arith}
use native.Mathlib.Nat.{eq-or-lt_of_le, le_of_eq}
use lib.ListN.{length}
use lib.Dec.{eqb}
use Rattle.theory_sharing.specs.Ops.{bits}
use Rattle.theory_sharing.specs.Circuit.{Circuit, Draws, Errors, wires, all_ands}
use Rattle.theory_sharing.specs.First.{first}
use Rattle.theory_sharing.specs.Run.{after, gates_delivered, opens_delivered, objects, stop, made, transcript, outputs}
use Rattle.theory_sharing.specs.Tapes.{read}
use Rattle.theory_sharing.specs.Line.{errors}
use Rattle.theory_sharing.specs.Store.{store, fill}
use Rattle.theory_sharing.proofs.FirstLaws.{first_at, first_none, first_le, first_hit, first_before, first_clear}
use Rattle.theory_sharing.proofs.StoreLaws.{fill_all}
use Rattle.theory_sharing.proofs.RunLaws.{quiet_made, stop_le, outputs_length}
use Rattle.theory_calls.specs.File.{circuit}
use Rattle.theory_calls.specs.Answer.{good, abort, After}
use Rattle.theory_calls.specs.Calls.{at_wire}
use Rattle.theory_calls.specs.AtBits.{ran}
use Rattle.theory_calls.proofs.RunCall.{ran_quiet, ran_stopped}
use Rattle.file_header.specs.declared.Counts.{Counts}
use Rattle.run_passes.specs.Mirror.{objects_on, opens_on, hands_on}
use Rattle.run_laws.proofs.OpensLaw.{objects_law, opens_law, hands_law}
use Rattle.run_openings.specs.declared.Stop.{Stop}
use Rattle.run_openings.specs.Mirror.{first_objected, stop_by}
use Rattle.run_openings.proofs.OpeningLaws.{told_stop, told_none}
use Rattle.std.specs.Prelude.{Option, Some, None, Ok}
use Rattle.run.specs.declared.Ran.TheVariants.{Good, Abort}
use Rattle.run.specs.Answers.{run_answer, run_after}
use Rattle.check_given.specs.Mirror.{counts_of}
use Rattle.run.specs.Mirror.{Ready}
use Rattle.check_given.proofs.GivenLaws.{counts_are}

pub first_ext : (p q : ℕ → Bool) (n : ℕ) → ((k : ℕ) → k < n → p k ≡ q k) → first p n ≡ first q n
first_ext p q n h = ⊎_elim none some (eq-or-lt_of_le (first_le q n))
  where
    none : first q n ≡ n → first p n ≡ first q n
    none e = first_none p n (λ k l. h k l ∙ first_clear q n (le_of_eq (sym e)) k l) ∙ sym e

    some : first q n < n → first p n ≡ first q n
    some l = first_at p (first q n) n (λ k m. h k (omega arith) ∙ first_before q n k m) l (h (first q n) l ∙ first_hit q n l)

-- the first pass: where it stops and who objects there, the transcript
abbrev pub Judged : List ℕ → List ℕ → List ℕ → List ℕ → Counts → ℕ → Option Stop → List ℕ → Type 0
Judged f line s t c at v t' =
    (v ≡ stop_by (objects_on f line s (c.inputs + c.gates) at) c.outputs)
    × (t' ≡ opens_on f line s (c.inputs + c.gates) at t (min (suc (first_objected (objects_on f line s (c.inputs + c.gates) at) c.outputs)) c.outputs))

-- the second pass
abbrev pub Handed : List ℕ → List ℕ → List ℕ → Counts → ℕ → List ℕ → List ℕ → Type 0
Handed f t s c at outs o' = o' ≡ hands_on f t s (c.inputs + c.gates) at outs c.outputs

-- at the counts that stand in the file
module _ (f xs tapes line tr outs s t : List ℕ) (x p l r q : ℕ) (d : Ready f (counts_of f) x p l r q) (lr : r ≡ length tr)
    (es : s ≡ store (after bits (circuit f) (at_wire xs) (read (circuit f) tapes) (errors (circuit f) line) (circuit f).gates))
    (et : t ≡ fill tr (gates_delivered bits (circuit f) (at_wire xs) (read (circuit f) tapes) (errors (circuit f) line) (circuit f).gates)) where
  abbrev C : Circuit
  C = circuit f

  abbrev X : ℕ → ℕ
  X = at_wire xs

  abbrev T : Draws
  T = read C tapes

  abbrev E : Errors
  E = errors C line

  abbrev n : ℕ
  n = wires C

  abbrev at : ℕ
  at = 4 * C.ins + 12 * all_ands C

  abbrev k : ℕ
  k = first_objected (objects_on f line s n at) C.outs

  stop_is : k ≡ stop bits C X T E
  unfolding stop
  stop_is =
      first_ext (λ (j : ℕ). not (eqb (objects_on f line s n at j) 0)) (λ (j : ℕ). not (eqb (objects bits C X T E j) 0)) C.outs
      (λ k h. ap (λ (m : ℕ). not (eqb m 0)) (objects_law f line X T n refl s es k))

  -- the transcript through the last opening that is made
  made_is : opens_on f line s n at t (min (suc k) C.outs) ≡ fill tr (transcript bits C X T E)
  unfolding transcript made
  made_is =
      let a = d.lr in
      ap (λ (z : List ℕ). opens_on f line s n at z (min (suc k) C.outs)) et
      ∙ opens_law f line X T n refl s es tr (min (suc k) C.outs) (omega arith)
      ∙ ap (λ (z : ℕ). fill tr (opens_delivered bits C X T E (min (suc z) C.outs))) stop_is

  module _ (t' : List ℕ) where
    stopped_at : (v : Stop) → Judged f line s t (counts_of f) at (Some v) t' → run_after (Ok (Abort v.output v.sites)) outs t' s ≡ ran C X T E outs tr
    unfolding run_answer
    stopped_at v j =
        let u = told_stop (objects_on f line s n at) C.outs v j.0 in
        let K : v.output ≡ stop bits C X T E = u.0 ∙ stop_is in
        let M : v.sites ≡ objects bits C X T E (stop bits C X T E) = u.1.0 ∙ objects_law f line X T n refl s es k ∙ ap (objects bits C X T E) stop_is in
        let R : t' ≡ fill tr (transcript bits C X T E) = j.1 ∙ made_is in
        (λ i. record { answer = abort (K i) (M i); returned = []; lent = outs ∷ R i ∷ es i ∷ [] })
        ∙ sym (ran_stopped bits C X T E outs tr (subst (λ (z : ℕ). z < C.outs) stop_is u.1.1))

    through_at : (o' : List ℕ) → length outs ≡ 3 * C.outs → Judged f line s t (counts_of f) at None t' → Handed f t' s (counts_of f) at outs o'
        → run_after (Ok Good) o' t' s ≡ ran C X T E outs tr
    unfolding run_answer transcript
    through_at o' lo j e =
        let h = told_none (objects_on f line s n at) C.outs j.0 in
        let K = stop_is in
        let R : t' ≡ fill tr (transcript bits C X T E) = j.1 ∙ made_is in
        let u = stop_le bits C X T E in
        let Q : stop bits C X T E ≡ C.outs = omega arith in
        let mk = quiet_made bits C X T E Q in
        let H : o' ≡ outputs bits C X T E C.outs
        = e ∙ ap (λ (z : List ℕ). hands_on f z s n at outs C.outs) R
        ∙ hands_law f line X T n refl s es tr (made bits C X T E) outs C.outs (omega arith) (omega arith)
        ∙ fill_all outs (outputs bits C X T E C.outs) (outputs_length bits C X T E C.outs ∙ omega arith) in
        (λ i. record { answer = good []; returned = []; lent = H i ∷ R i ∷ es i ∷ [] }) ∙ sym (ran_quiet bits C X T E outs tr Q)

-- and so at the counts and the place that the code holds
module _ (f xs tapes line tr outs s t : List ℕ) (x p l r q : ℕ) (c : Counts) (d : Ready f c x p l r q) (lr : r ≡ length tr) (at : ℕ)
    (ea : at ≡ 4 * (circuit f).ins + 12 * all_ands (circuit f))
    (es : s ≡ store (after bits (circuit f) (at_wire xs) (read (circuit f) tapes) (errors (circuit f) line) (circuit f).gates))
    (et : t ≡ fill tr (gates_delivered bits (circuit f) (at_wire xs) (read (circuit f) tapes) (errors (circuit f) line) (circuit f).gates))
    (t' : List ℕ) where
  abbrev the_run : After
  the_run = ran (circuit f) (at_wire xs) (read (circuit f) tapes) (errors (circuit f) line) outs tr

  pub stopped : (v : Stop) → Judged f line s t c at (Some v) t' → run_after (Ok (Abort v.output v.sites)) outs t' s ≡ the_run
  stopped v =
      subst (λ (a : ℕ). Judged f line s t c a (Some v) t' → run_after (Ok (Abort v.output v.sites)) outs t' s ≡ the_run) (sym ea)
      (subst (λ (z : Counts). Ready f z x p l r q → Judged f line s t z (4 * (circuit f).ins + 12 * all_ands (circuit f)) (Some v) t' → run_after (Ok (Abort v.output v.sites)) outs t' s ≡ the_run)
      (sym (counts_are f c d.checked.opened)) (λ e j. stopped_at f xs tapes line tr outs s t x p l r q e lr es et t' v j) d)

  pub through : (o' : List ℕ) → length outs ≡ 3 * c.outputs → Judged f line s t c at None t' → Handed f t' s c at outs o' → run_after (Ok Good) o' t' s ≡ the_run
  through o' =
      subst (λ (a : ℕ). length outs ≡ 3 * c.outputs → Judged f line s t c a None t' → Handed f t' s c a outs o' → run_after (Ok Good) o' t' s ≡ the_run) (sym ea)
      (subst (λ (z : Counts). Ready f z x p l r q → length outs ≡ 3 * z.outputs → Judged f line s t z (4 * (circuit f).ins + 12 * all_ands (circuit f)) None t'
      → Handed f t' s z (4 * (circuit f).ins + 12 * all_ands (circuit f)) outs o' → run_after (Ok Good) o' t' s ≡ the_run)
      (sym (counts_are f c d.checked.opened)) (λ e lo j g. through_at f xs tapes line tr outs s t x p l r q e lr es et t' o' lo j g) d)
