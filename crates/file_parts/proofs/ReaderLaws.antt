-- The reader's calls: what the code computes is what the call does.
--     gate_refused, owner_refused, output_refused    a question to a file whose header is refused
--     gate_law, owner_law, output_law         a question to an opened file
-- Assumes nothing.
use mathlib.Core.Path.{◌≡◌, refl, sym, ap, ap₂, ◌∙◌}
use mathlib.Core.Bool.{Bool, true, false, not, cond}
use mathlib.Core.List.{List, [], ◌∷◌, ◌++◌}
use Prim.Native.Nat.{ℕ, suc}
use native.Mathlib.Omega.{arith}
use lib.Dec.{leb, ltb}
use borrow.Author.Tests.{leb-true, leb-false, lt-ltb, le-ltb}
use Rattle.std.specs.Prelude.{Result, Ok, Err}
use Rattle.theory_calls.specs.File.{inputs_of, gates_of, outputs_of, kind_at, first_at, second_at, output_at}
use Rattle.theory_calls.specs.Answer.{Answer, good}
use Rattle.theory_calls.specs.Checks.{refusal, header_checks, row_asked, accepted, refuses, verdict}
use Rattle.theory_calls.specs.Calls.{Call, GateAt, OwnerAt, OutputAt, unrefused, answers, does}
use Rattle.theory_calls.proofs.CallLaws.{does_good}
use Rattle.theory_calls.proofs.Places.{Rising, refuse_at, place_verdict}
use Rattle.check_refusal.specs.declared.Refusal.{Refusal}
use Rattle.check_refusal.specs.declared.Refusal.TheVariants.{Gate as GateAsked, Owner as OwnerAsked, Output as OutputAsked}
use Rattle.check_refusal.specs.Number.{number_of, place_of, refused_by}
use Rattle.file_header.specs.declared.Counts.{Counts}
use Rattle.file_header.specs.Mirror.{header_of}
use Rattle.file_header.specs.Opened.{Opened}
use Rattle.file_header.proofs.HeaderLaws.{header_refused, header_good}
use Rattle.file_header.proofs.OpenLaws.{only_answer}
use Rattle.file_parts.specs.Answers.{gate_answer, owner_answer, output_answer}
use Rattle.file_parts.specs.Mirror.{gate_by, owner_by, output_by}

-- a question by number: the count refuses it, or it is answered
asked_verdict : (N n count : ℕ) → verdict (refusal N (row_asked n count) ∷ []) ≡ cond (not (ltb n count)) (refuses N count) accepted
unfolding refuse_at Rising verdict
asked_verdict N n count = place_verdict N (suc count) ((count, not (ltb n count)) ∷ []) [] (omega arith, omega arith, tt)

-- Question k to file s: a call whose one check behind the header's is asked's, by the file's count. The code's answers stand for the call's.
record Question {A : Type 0} (stands-for : Result A Refusal → Answer) (asked : ℕ → Refusal) (call : Call) (s : List ℕ) (k count : ℕ) : Type 0 where
  says : (e : Refusal) → stands-for (Err e) ≡ refused_by e
  places : (m : ℕ) → place_of (asked m) ≡ m
  goes : call.checks ≡ header_checks s ++ (refusal (number_of (asked count)) (row_asked k count) ∷ [])
  one : (m : ℕ) → number_of (asked m) ≡ number_of (asked count)
  leaves : (n : ℕ) → call.at_refusal.lent n call.buffers ≡ []
  returns : (n p : ℕ) → call.at_refusal.returned n p ≡ []

module _ {A : Type 0} (stands-for : Result A Refusal → Answer) (asked : ℕ → Refusal) (call : Call) (s : List ℕ) (k count : ℕ) (Q : Question stands-for asked call s k count) where
  refuses_it : (e : Refusal) → verdict call.checks ≡ refuses (number_of e) (place_of e) → answers (stands-for (Err e)) ≡ does call
  refuses_it e v = ap answers (Q.says e) ∙ only_answer (number_of e) (place_of e) call (Q.leaves _) (Q.returns _ _) v

  -- a header's refusal goes out as it came
  header_out : (e : Refusal) → header_of s ≡ Err e → answers (stands-for (Err e)) ≡ does call
  header_out e q = refuses_it e (ap verdict Q.goes ∙ header_refused s _ e q)

  answered : (c : Counts) → header_of s ≡ Ok c → (m : ℕ) → m ≡ count → (is : A) → answers (stands-for (Ok is)) ≡ unrefused call.good
      → answers (stands-for (cond (leb m k) (Err (asked m)) (Ok is))) ≡ does call
  answered c e m em is w = go (leb m k) refl
    where
      judged : verdict call.checks ≡ cond (not (ltb k m)) (refuses (number_of (asked m)) (place_of (asked m))) accepted
      judged =
          ap verdict Q.goes ∙ header_good s _ c e
          ∙ asked_verdict (number_of (asked count)) k count
          ∙ ap (λ (z : ℕ). cond (not (ltb k z)) (refuses (number_of (asked count)) z) accepted) (sym em)
          ∙ ap₂ (λ (x y : ℕ). cond (not (ltb k m)) (refuses x y) accepted) (sym (Q.one m)) (sym (Q.places m))

      go : (b : Bool) → leb m k ≡ b → answers (stands-for (cond b (Err (asked m)) (Ok is))) ≡ does call
      go true q = refuses_it (asked m) (judged ∙ rw (le-ltb k m (leb-true _ _ q)))
      go false q = w ∙ sym (does_good call (judged ∙ rw (lt-ltb k m (leb-false _ _ q))))

module _ (s : List ℕ) (k : ℕ) where
  gate_question : Question gate_answer GateAsked (GateAt s k) s k (gates_of s)
  unfolding gate_answer GateAt OwnerAt OutputAt
  gate_question = record { says = λ e. refl; places = λ m. refl; goes = refl; one = λ m. refl; leaves = λ n. refl; returns = λ n p. refl }

  owner_question : Question owner_answer OwnerAsked (OwnerAt s k) s k (inputs_of s)
  unfolding owner_answer GateAt OwnerAt OutputAt
  owner_question = record { says = λ e. refl; places = λ m. refl; goes = refl; one = λ m. refl; leaves = λ n. refl; returns = λ n p. refl }

  output_question : Question output_answer OutputAsked (OutputAt s k) s k (outputs_of s)
  unfolding output_answer GateAt OwnerAt OutputAt
  output_question = record { says = λ e. refl; places = λ m. refl; goes = refl; one = λ m. refl; leaves = λ n. refl; returns = λ n p. refl }

  pub gate_refused : (e : Refusal) → header_of s ≡ Err e → answers (gate_answer (Err e)) ≡ does (GateAt s k)
  gate_refused = header_out _ _ _ _ _ _ gate_question

  pub owner_refused : (e : Refusal) → header_of s ≡ Err e → answers (owner_answer (Err e)) ≡ does (OwnerAt s k)
  owner_refused = header_out _ _ _ _ _ _ owner_question

  pub output_refused : (e : Refusal) → header_of s ≡ Err e → answers (output_answer (Err e)) ≡ does (OutputAt s k)
  output_refused = header_out _ _ _ _ _ _ output_question

module _ (s : List ℕ) (c : Counts) (k : ℕ) (o : Opened s c) (e : header_of s ≡ Ok c) where
  pub gate_law : answers (gate_answer (gate_by s c k)) ≡ does (GateAt s k)
  unfolding gate_by gate_answer GateAt OwnerAt OutputAt
  gate_law = answered _ _ _ _ _ _ (gate_question s k) c e c.gates o.gates_are _ (ap (λ (i : ℕ). answers (good (kind_at s i k ∷ first_at s i k ∷ second_at s i k ∷ []))) o.ins_are)

  pub owner_law : answers (owner_answer (owner_by s c k)) ≡ does (OwnerAt s k)
  unfolding owner_by owner_answer GateAt OwnerAt OutputAt
  owner_law = answered _ _ _ _ _ _ (owner_question s k) c e c.inputs o.ins_are _ refl

  pub output_law : answers (output_answer (output_by s c k)) ≡ does (OutputAt s k)
  unfolding output_by output_answer GateAt OwnerAt OutputAt
  output_law = answered _ _ _ _ _ _ (output_question s k) c e c.outputs o.outs_are _ (ap₂ (λ (i g : ℕ). answers (good (output_at s i g k ∷ []))) o.ins_are o.gates_are)
