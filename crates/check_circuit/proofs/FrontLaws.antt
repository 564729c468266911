-- The whole circuit's check, in front of a call that goes on checking.
--     circuit_refuses    a circuit's refusal is the call's
--     circuit_passes     a circuit that the check accepts leaves the call's verdict to the checks from 7 on
--     Front              a call that checks the circuit, then cs, then ds;  circuit_refused, given_refused, given_passed: what it does, by these
--     done_circuit, done_given    so of a call that only fills its buffers;  done_one: two results of such a call that meet its statement are equal
-- Assumes nothing.
use mathlib.Core.Path.{◌≡◌, refl, sym, ap, ◌∙◌, subst}
use mathlib.Core.List.{List, [], ◌++◌}
use Prim.Native.Nat.{ℕ}
use native.Mathlib.Omega.{arith}
use Rattle.std.specs.Prelude.{Result, Ok, Err}
use Rattle.theory_calls.specs.Answer.{refused, After}
use Rattle.theory_calls.specs.Checks.{Refusal as Row, accepted, refuses, verdict}
use Rattle.theory_calls.specs.AtBits.{circuit_checks}
use Rattle.theory_calls.specs.Calls.{Call, Check, CheckOf, answers, does, Accepts}
use Rattle.theory_calls.proofs.Refusals.{Passes, Without, never_refuses, accepted_passes, verdict_skips, verdict_stays}
use Rattle.theory_calls.proofs.CallLaws.{does_refused, refused_verdict, accepts_passes}
use Rattle.check_refusal.specs.declared.Refusal.{Refusal}
use Rattle.check_refusal.specs.Number.{number_of, place_of, refused_by}
use Rattle.file_header.specs.Answers.{header_answer}
use Rattle.file_header.proofs.OpenLaws.{told, told_one, one_result}
use Rattle.check_circuit.specs.Answers.{done_answer, done_after}

module _ (f : List ℕ) where
  as_checked : circuit_checks f ≡ (Check f).checks
  unfolding CheckOf
  as_checked = refl

  pub circuit_refuses : (e : Refusal) → answers (header_answer (Err e)) ≡ does (Check f) → (cs : List Row)
      → verdict (circuit_checks f ++ cs) ≡ refuses (number_of e) (place_of e)
  unfolding header_answer
  circuit_refuses e q cs =
      verdict_stays (circuit_checks f) cs (number_of e) (place_of e)
      (ap verdict as_checked ∙ refused_verdict (Check f) (number_of e) (place_of e) (sym (ap (λ (a : After). a.answer) q)))

  pub circuit_passes : Accepts (Check f) → (cs : List Row) → verdict (circuit_checks f ++ cs) ≡ verdict cs
  circuit_passes a cs = verdict_skips (circuit_checks f) cs (subst Passes (sym as_checked) (accepts_passes (Check f) a))

-- a refusal by checks among which 13 is not
not_13 : (cs : List Row) (n p : ℕ) → Without 13 cs → verdict cs ≡ refuses n p → n ≡ 13 → ⊥
not_13 cs n p h v e = never_refuses 13 p cs h (v ∙ ap (λ (m : ℕ). refuses m p) e)

circuit_no_13 : (f : List ℕ) → Without 13 (circuit_checks f)
unfolding Without
circuit_no_13 f = omega arith

as_whole : (f : List ℕ) (e : Refusal) → answers (header_answer (Err e)) ≡ does (Check f) → verdict (circuit_checks f) ≡ refuses (number_of e) (place_of e)
as_whole f e q = circuit_refuses f e q []

-- A call that is lent bufs, and checks the circuit f, then cs, then ds. 13 may stand in ds alone, so that what is refused before changes no
-- buffer.
pub record Front (c : Call) (f : List ℕ) (cs ds : List Row) (bufs : List (List ℕ)) : Type 0 where
  pub goes : c.checks ≡ circuit_checks f ++ (cs ++ ds)
  pub leaves : (n : ℕ) → ¬ (n ≡ 13) → c.at_refusal.lent n c.buffers ≡ bufs
  pub returns : (n p : ℕ) → c.at_refusal.returned n p ≡ []
  pub no_13 : Without 13 cs

module _ (c : Call) (f : List ℕ) (cs ds : List Row) (bufs : List (List ℕ)) (F : Front c f cs ds bufs) where
  abbrev Refuses : Refusal → Type 0
  Refuses e = record { answer = refused_by e; returned = []; lent = bufs } ≡ does c

  -- "A refusal changes no buffer"
  unchanged : (e : Refusal) → (number_of e ≡ 13 → ⊥) → verdict (circuit_checks f ++ (cs ++ ds)) ≡ refuses (number_of e) (place_of e) → Refuses e
  unchanged e k v =
      let n = number_of e in
      let p = place_of e in
      sym (does_refused c n p (ap verdict F.goes ∙ v) ∙ (λ i. record { answer = refused n p; returned = F.returns n p i; lent = F.leaves n k i }))

  -- the check of the circuit refuses
  module _ (e : Refusal) (q : answers (header_answer (Err e)) ≡ does (Check f)) where
    pub circuit_refused : Refuses e
    circuit_refused =
        unchanged e (not_13 (circuit_checks f) (number_of e) (place_of e) (circuit_no_13 f) (as_whole f e q)) (circuit_refuses f e q (cs ++ ds))

    pub done_circuit : done_after (Err e) bufs ≡ does c
    unfolding done_answer
    done_circuit = circuit_refused

  -- it accepts: cs decides, and what it leaves is for ds
  module _ (a : Accepts (Check f)) where
    pub given_refused : (e : Refusal) → refuses (number_of e) (place_of e) ≡ verdict cs → Refuses e
    given_refused e v =
        unchanged e (not_13 cs (number_of e) (place_of e) F.no_13 (sym v)) (circuit_passes f a (cs ++ ds) ∙ verdict_stays cs ds (number_of e) (place_of e) (sym v))

    pub done_given : (e : Refusal) → refuses (number_of e) (place_of e) ≡ verdict cs → done_after (Err e) bufs ≡ does c
    unfolding done_answer
    done_given = given_refused

    pub given_passed : accepted ≡ verdict cs → verdict c.checks ≡ verdict ds
    given_passed v = ap verdict F.goes ∙ circuit_passes f a (cs ++ ds) ∙ verdict_skips cs ds (accepted_passes cs (sym v))

as_done : (r : Result (Unit {0}) Refusal) → done_answer r ≡ told (λ u. []) (λ a b e. refl) r
unfolding done_answer
as_done (Ok u) = refl
as_done (Err e) = refl

done_inj : (q r : Result (Unit {0}) Refusal) → done_answer q ≡ done_answer r → q ≡ r
done_inj q r e = told_one _ (λ a b e. refl) q r (sym (as_done q) ∙ e ∙ as_done r)

-- two results of a call that meet its statement are equal: the answer and every buffer
pub done_one : (c : Call) (q r : Result (Unit {0}) Refusal) (l m : List (List ℕ)) → done_after q l ≡ does c → done_after r m ≡ does c → (q ≡ r) × (l ≡ m)
done_one c = one_result done_answer done_inj (does c)
