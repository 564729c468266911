-- The run as a whole call.
--     run_does          what an accepted run does, before it is known whether it stops
--     quiet_run, stopped_run    a run that nobody stops, and one that is stopped
--     abort_is, stops_is        it aborts exactly where it stops
--     clean-run         on a clean line: the published run
--     six_delivered     the copies of an output are the delivered bits at their places
-- Assumes nothing.
use mathlib.Core.Path.{◌≡◌, refl, sym, ap, ap₂, ◌∙◌}
use mathlib.Core.Bool.{Bool, true, false, true≢false}
use mathlib.Core.Logic.{⊎_elim}
use mathlib.Core.List.{List, [], ◌∷◌, ◌++◌, map}
use Prim.Native.Nat.{ℕ, zero, suc, ◌+◌, ◌<◌}
use native.Mathlib.Omega.{arith}
use native.Mathlib.Nat.{eq-or-lt_of_le}
use lib.ListN.{length, get_or, take, drop}
use lib.Seq.{get_or-take, get_or-drop}
use borrow.Author.Tests.{lt-ltb, le-ltb}
use Rattle.theory_sharing.specs.Ops.{Ops, bits}
use Rattle.theory_sharing.specs.Sites.{Trio}
use Rattle.theory_sharing.specs.Circuit.{Circuit, Draws, Errors, no_errors}
use Rattle.theory_sharing.specs.Published.{parts, sent_bits}
use Rattle.theory_sharing.specs.Steps.{hold, copies}
use Rattle.theory_sharing.specs.Run.{after, out_delivered, copies_at, objects, stop, opens_delivered, made, transcript, opened_at, outputs}
use Rattle.theory_sharing.specs.Tapes.{read}
use Rattle.theory_sharing.specs.Line.{at_input, at_gate, at_output, errors}
use Rattle.theory_sharing.specs.Store.{store, fill}
use Rattle.theory_sharing.proofs.BitLaws.{bit_group}
use Rattle.theory_sharing.proofs.Parts.{AllDraws}
use Rattle.theory_sharing.proofs.Clean.{held, no_objection, opened_value, clean_sent, thrice}
use Rattle.theory_sharing.proofs.RunLaws.{sent_length, sent_at, objects_none, alike_none, stop_le, stop_before, stop_loud, stop_at, stop_none, quiet_made, stopped_made}
use Rattle.theory_sharing.proofs.StoreLaws.{fill_all, fill_read}
use Rattle.theory_calls.specs.File.{circuit}
use Rattle.theory_calls.specs.Plain.{plain_out}
use Rattle.theory_calls.specs.Answer.{Answer, good, abort, refused, After}
use Rattle.theory_calls.specs.Calls.{Call, Run, RunOf, unrefused, does, ran_of, Accepts, at_wire}
use Rattle.theory_calls.specs.AtBits.{ran}
use Rattle.theory_calls.specs.Statements.{circuit_with, Family, bit_family, Fitting, out_of, Clean, Alike, StopsAt, opened_plain}
use Rattle.theory_calls.proofs.FamilyLaws.{Lawful, group, numbers_ok, draws_ok, bit_lawful}
use Rattle.theory_calls.proofs.CallLaws.{accepts_does}
use Rattle.theory_calls.proofs.Accepted.{RunOkOf, run_ok_of}

-- every draw of bits is good
pub bit_draws : (T : Draws) → AllDraws bit_group.laws.Ok T
bit_draws T = record { of_in1 = λ i. tt; of_in2 = λ i. tt; of_g1 = λ g s. tt; of_g2 = λ g s. tt }

-- a clean line adds nothing
pub clean_errors : (C : Circuit) (l : List ℕ) → Clean l → errors C l ≡ no_errors
unfolding errors Clean
clean_errors C l h = λ j. record { on_input = λ i k. h (at_input i + k) j; on_gate = λ g k. h (at_gate C g + k) j; on_output = λ o k. h (at_output C o + k) j }

-- on a clean line all three sites open an output to its plain value
pub opens_plain_of : (F : Family) (L : Lawful F) (C : Circuit) (x t : List ℕ) → ((k : ℕ) → F.Small (get_or x k 0)) → AllDraws (group F L).laws.Ok (read C t)
    → (o : ℕ) → opened_at F.ops C (at_wire x) (read C t) no_errors o ≡ thrice (out_of F C x o)
opens_plain_of F L C x t h ok o =
    opened_value (group F L) C (at_wire x) (read C t) ok (numbers_ok F L x h) o
    ∙ ap (λ (vs : List ℕ). thrice (get_or vs (C.out o) 0)) (sym (L.values_are C x h))

pub opens_plain : (C : Circuit) (x t : List ℕ) → ((k : ℕ) → get_or x k 0 < 2) → (o : ℕ) → opened_at bits C (at_wire x) (read C t) no_errors o ≡ thrice (plain_out C x o)
opens_plain C x t h o = opens_plain_of bit_family bit_lawful C x t h (bit_draws (read C t)) o

abbrev is_abort : Answer → Bool
is_abort (good l) = false
is_abort (abort o m) = true
is_abort (refused n p) = false

pub good_not_abort : (l : List ℕ) (o m : ℕ) → ¬ (good l ≡ abort o m)
good_not_abort l o m e = true≢false (sym (ap is_abort e))

pub abort_inj : (a b c d : ℕ) → abort a b ≡ abort c d → (a ≡ c) × (b ≡ d)
abort_inj a b c d e = (cc, cc)

module _ (R : Ops) (C : Circuit) (x : ℕ → ℕ) (T : Draws) (E : Errors) (outs tr : List ℕ) where
  pub ran_quiet : stop R C x T E ≡ C.outs
      → unrefused (ran_of R C x T E outs tr) ≡ record { answer = good []; returned = []; lent = outputs R C x T E C.outs ∷ fill tr (transcript R C x T E) ∷ store (after R C x T E C.gates) ∷ [] }
  unfolding ran_of
  ran_quiet e = rw (le-ltb (stop R C x T E) C.outs (omega arith))

  pub ran_stopped : stop R C x T E < C.outs
      → unrefused (ran_of R C x T E outs tr) ≡ record {
        answer = abort (stop R C x T E) (objects R C x T E (stop R C x T E));
        returned = [];
        lent = outs ∷ fill tr (transcript R C x T E) ∷ store (after R C x T E C.gates) ∷ [];
      }
  unfolding ran_of
  ran_stopped h = rw (lt-ltb (stop R C x T E) C.outs h)

module _ (F : Family) (f x t l outs tr st : List ℕ) (a : Accepts (RunOf F f x t l outs tr st)) where
  abbrev R : Ops
  R = F.ops

  abbrev C : Circuit
  C = circuit_with F f

  abbrev X : ℕ → ℕ
  X = at_wire x

  abbrev D : Draws
  D = read C t

  abbrev E : Errors
  E = errors C l

  abbrev the_run : Call
  the_run = RunOf F f x t l outs tr st

  pub run_does_of : does the_run ≡ unrefused (ran_of R C X D E outs tr)
  unfolding RunOf
  run_does_of = accepts_does the_run a

  -- a run that nobody stops, and one that is stopped
  pub quiet_run : stop R C X D E ≡ C.outs
      → does the_run ≡ record { answer = good []; returned = []; lent = outputs R C X D E C.outs ∷ fill tr (transcript R C X D E) ∷ store (after R C X D E C.gates) ∷ [] }
  quiet_run e = run_does_of ∙ ran_quiet R C X D E outs tr e

  pub stopped_run : stop R C X D E < C.outs
      → does the_run ≡ record {
        answer = abort (stop R C X D E) (objects R C X D E (stop R C X D E));
        returned = [];
        lent = outs ∷ fill tr (transcript R C X D E) ∷ store (after R C X D E C.gates) ∷ [];
      }
  stopped_run h = run_does_of ∙ ran_stopped R C X D E outs tr h

  pub quiet_or_stopped : {P : Type 0} → (stop R C X D E ≡ C.outs → P) → (stop R C X D E < C.outs → P) → P
  quiet_or_stopped q s = ⊎_elim q s (eq-or-lt_of_le (stop_le R C X D E))

  -- the buffers that do not hang on whether it stops
  pub run_transcript : get_or (does the_run).lent 1 [] ≡ fill tr (transcript R C X D E)
  run_transcript = quiet_or_stopped (λ e. ap (λ (z : After). get_or z.lent 1 []) (quiet_run e)) (λ h. ap (λ (z : After). get_or z.lent 1 []) (stopped_run h))

  pub run_store : get_or (does the_run).lent 2 [] ≡ store (after R C X D E C.gates)
  run_store = quiet_or_stopped (λ e. ap (λ (z : After). get_or z.lent 2 []) (quiet_run e)) (λ h. ap (λ (z : After). get_or z.lent 2 []) (stopped_run h))

  abort_stop : (o m : ℕ) → (does the_run).answer ≡ abort o m → (stop R C X D E ≡ o) × (objects R C X D E o ≡ m) × (o < C.outs)
  abort_stop o m e = quiet_or_stopped
      (λ q. absurd (good_not_abort [] o m (sym (ap (λ (z : After). z.answer) (quiet_run q)) ∙ e)))
      (λ h. let i = abort_inj (stop R C X D E) (objects R C X D E (stop R C X D E)) o m (sym (ap (λ (z : After). z.answer) (stopped_run h)) ∙ e) in
      (i.0, ap (objects R C X D E) (sym i.0) ∙ i.1, let k : stop R C X D E ≡ o = i.0 in omega arith))

  stop_abort : (o : ℕ) → stop R C X D E ≡ o → o < C.outs → (does the_run).answer ≡ abort o (objects R C X D E o)
  stop_abort o e h =
      ap (λ (z : After). z.answer) (stopped_run (omega arith)) ∙ ap₂ abort e (ap (objects R C X D E) e)

  -- an answer that is no abort is good
  good_stop : (does the_run).answer ≡ good [] → stop R C X D E ≡ C.outs
  good_stop e = quiet_or_stopped (λ q. q) (λ h. absurd (good_not_abort [] _ _ (sym e ∙ ap (λ (z : After). z.answer) (stopped_run h))))

  pub abort_outputs : (o m : ℕ) → (does the_run).answer ≡ abort o m → get_or (does the_run).lent 0 [] ≡ outs
  abort_outputs o m e =
      let s = abort_stop o m e in
      let q : stop R C X D E ≡ o = s.0 in
      let h : o < C.outs = s.2 in
      ap (λ (z : After). get_or z.lent 0 []) (stopped_run (omega arith))

  pub good_outputs : (does the_run).answer ≡ good [] → get_or (does the_run).lent 0 [] ≡ outputs R C X D E C.outs
  good_outputs e = ap (λ (z : After). get_or z.lent 0 []) (quiet_run (good_stop e))

  quiet_alike : (p : ℕ) → objects R C X D E p ≡ 0 → Alike F f x t l p
  unfolding objects Alike
  quiet_alike p e = objects_none (copies_at R C X D E p) e

  alike_quiet : (p : ℕ) → Alike F f x t l p → objects R C X D E p ≡ 0
  unfolding objects Alike
  alike_quiet p h = alike_none (copies_at R C X D E p) h

  pub abort_is : (o m : ℕ) → (does the_run).answer ≡ abort o m → StopsAt F f x t l o × (m ≡ objects R C X D E o)
  abort_is o m e =
      let s = abort_stop o m e in
      let q : stop R C X D E ≡ o = s.0 in
      let h : o < C.outs = s.2 in (
        record {
          below = h;
          unlike = λ k. stop_loud R C X D E (omega arith) (ap (objects R C X D E) q ∙ alike_quiet o k);
          before = λ p k. quiet_alike p (stop_before R C X D E p (omega arith));
        },
        sym s.1,
      )

  stops_stop : (o : ℕ) → StopsAt F f x t l o → stop R C X D E ≡ o
  stops_stop o s =
      stop_at R C X D E o s.below (λ p k. alike_quiet p (s.before p k)) (λ e. s.unlike (quiet_alike o e))

  pub stops_is : (o : ℕ) → StopsAt F f x t l o → (does the_run).answer ≡ abort o (objects R C X D E o)
  stops_is o s = stop_abort o (stops_stop o s) s.below

  pub all_alike : ((p : ℕ) → p < C.outs → Alike F f x t l p) → (does the_run).answer ≡ good []
  all_alike h = ap (λ (z : After). z.answer) (quiet_run (stop_none R C X D E (λ p k. alike_quiet p (h p k))))

  pub good_alike : (does the_run).answer ≡ good [] → (p : ℕ) → p < C.outs → Alike F f x t l p
  good_alike e p k = let q : stop R C X D E ≡ C.outs = good_stop e in quiet_alike p (stop_before R C X D E p (omega arith))

  pub good_made : (does the_run).answer ≡ good [] → made R C X D E ≡ C.outs
  good_made e = quiet_made R C X D E (good_stop e)

  pub abort_made : (o m : ℕ) → (does the_run).answer ≡ abort o m → made R C X D E ≡ suc o
  abort_made o m e =
      let s = abort_stop o m e in
      let q : stop R C X D E ≡ o = s.0 in
      let h : o < C.outs = s.2 in
      stopped_made R C X D E (omega arith) ∙ ap suc q

  -- how long the transcript is that the run has written
  pub written_transcript : length (transcript R C X D E) ≡ at_output C (made R C X D E)
  unfolding transcript
  written_transcript = sent_length R C X D E (made R C X D E)

  at_six : (o : ℕ) → o < made R C X D E → (k : ℕ) → k < 6 → get_or (take 6 (drop (at_output C o) (get_or (does the_run).lent 1 []))) k 0 ≡ get_or (out_delivered R C X D E o) k 0
  unfolding transcript at_output
  at_six o h k q =
      let tr' = get_or (does the_run).lent 1 [] in
      let w = written_transcript in
      get_or-take 6 (drop (at_output C o) tr') k 0 q ∙ get_or-drop (at_output C o) tr' k 0
      ∙ ap (λ (z : List ℕ). get_or z (at_output C o + k) 0) run_transcript
      ∙ fill_read tr (transcript R C X D E) (at_output C o + k) (omega arith)
      ∙ sent_at R C X D E o (made R C X D E) h k q

  -- the copies of an output that was reached, read from the transcript
  pub six_delivered : (o : ℕ) → o < made R C X D E → copies (take 6 (drop (at_output C o) (get_or (does the_run).lent 1 []))) ≡ copies_at R C X D E o
  unfolding copies
  six_delivered o h =
      let e = at_six o h in
      λ j. record {
        at1 = (e 3 (omega arith) j, e 4 (omega arith) j);
        at2 = (e 0 (omega arith) j, e 5 (omega arith) j);
        at3 = (e 1 (omega arith) j, e 2 (omega arith) j);
      }

module _ (F : Family) (L : Lawful F) (f x t l outs tr st : List ℕ) (fx : Fitting F x) (ft : Fitting F t) (fl : Fitting F l)
    (a : Accepts (RunOf F f x t l outs tr st)) (clean : Clean l) where
  abbrev R' : Ops
  R' = F.ops

  abbrev C' : Circuit
  C' = circuit_with F f

  abbrev X' : ℕ → ℕ
  X' = at_wire x

  abbrev D' : Draws
  D' = read C' t

  abbrev E' : Errors
  E' = errors C' l

  abbrev run' : Call
  run' = RunOf F f x t l outs tr st

  run_good : RunOkOf F f x t l outs tr st
  run_good = run_ok_of F L f x t l outs tr st fx ft fl a

  pub run_draws : AllDraws (group F L).laws.Ok D'
  run_draws = draws_ok F L C' t run_good.in_t.small

  pub clean_quiet : (does run').answer ≡ good []
  clean_quiet =
      ap (λ (z : After). z.answer)
      (quiet_run F f x t l outs tr st a (stop_none R' C' X' D' E'
      (λ p h. ap (λ (e : Errors). objects R' C' X' D' e p) (clean_errors C' l clean) ∙ no_objection (group F L) C' X' D' run_draws p)))

  outs_thrice : (n : ℕ) → outputs R' C' X' D' no_errors n ≡ opened_plain F C' x n
  unfolding outputs opened_plain
  outs_thrice zero = refl
  outs_thrice (suc o) =
      let v : opened_at R' C' X' D' no_errors o ≡ thrice (out_of F C' x o) = opens_plain_of F L C' x t run_good.in_x.small run_draws o in
      ap₂ ◌++◌ (outs_thrice o) (ap (λ (u : Trio ℕ). u.at1 ∷ u.at2 ∷ u.at3 ∷ []) v)

  pub clean_outputs : get_or (does run').lent 0 [] ≡ opened_plain F C' x C'.outs
  clean_outputs =
      ap (λ (z : After). get_or z.lent 0 []) (quiet_run F f x t l outs tr st a (good_stop F f x t l outs tr st a clean_quiet))
      ∙ ap (λ (e : Errors). outputs R' C' X' D' e C'.outs) (clean_errors C' l clean) ∙ outs_thrice C'.outs

  pub clean_store : get_or (does run').lent 2 [] ≡ store (map hold (parts R' C' X' D' C'.gates))
  clean_store =
      run_store F f x t l outs tr st a ∙ ap (λ (e : Errors). store (after R' C' X' D' e C'.gates)) (clean_errors C' l clean)
      ∙ ap store (held (group F L) C' X' D' run_draws C'.gates)

  all_sent : transcript R' C' X' D' E' ≡ sent_bits R' C' X' D' C'.outs
  unfolding transcript
  all_sent =
      ap (opens_delivered R' C' X' D' E') (good_made F f x t l outs tr st a clean_quiet)
      ∙ ap (λ (e : Errors). opens_delivered R' C' X' D' e C'.outs) (clean_errors C' l clean)
      ∙ clean_sent (group F L) C' X' D' run_draws C'.outs

  pub clean_transcript : get_or (does run').lent 1 [] ≡ sent_bits R' C' X' D' C'.outs
  unfolding at_output
  clean_transcript =
      let k = run_good.tr_long in
      let w : length (transcript R' C' X' D' E') ≡ at_output C' C'.outs = written_transcript F f x t l outs tr st a ∙ ap (at_output C') (good_made F f x t l outs tr st a clean_quiet) in
      run_transcript F f x t l outs tr st a ∙ fill_all tr (transcript R' C' X' D' E') (w ∙ sym k) ∙ all_sent

-- at bits
pub run_does : (f x t l outs tr st : List ℕ) → Accepts (Run f x t l outs tr st)
    → does (Run f x t l outs tr st) ≡ ran (circuit f) (at_wire x) (read (circuit f) t) (errors (circuit f) l) outs tr
run_does = run_does_of bit_family
