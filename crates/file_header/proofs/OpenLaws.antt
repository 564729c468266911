-- Opening as a call, and what every call over the header needs.
--     only_answer      a refused call that is lent nothing answers its refusal and nothing else
--     open_law         opening does what its call does
--     opened_from      what a good header leaves
--     good_is_not_refused, told_one    no good answer is a refusal;  two results with one answer are one, where two good ones are
--     one_result       two results of one type that meet a statement are equal: the answer, and what is lent;  one_answer: of a call that only answers
--     open_one         so of opening
-- Assumes nothing.
use mathlib.Core.Path.{◌≡◌, refl, sym, ap, ◌∙◌, subst}
use mathlib.Core.List.{List, [], ◌∷◌}
use Prim.Native.Nat.{ℕ}
use Rattle.std.specs.Prelude.{Result, Ok, Err}
use Rattle.theory_calls.specs.Answer.{Answer, good, refused, done, After}
use Rattle.theory_calls.specs.Checks.{refuses, verdict}
use Rattle.theory_calls.specs.Calls.{Call, Open, answers, does}
use Rattle.theory_calls.proofs.CallLaws.{said_not_refused, does_good, does_refused}
use Rattle.check_refusal.specs.declared.Refusal.{Refusal}
use Rattle.check_refusal.specs.Number.{number_of, place_of, refused_by}
use Rattle.check_refusal.proofs.RefusalLaws.{answer_one}
use Rattle.file_header.specs.declared.Counts.{Counts}
use Rattle.file_header.specs.Answers.{header_answer}
use Rattle.file_header.specs.Mirror.{header_of}
use Rattle.file_header.specs.Opened.{Opened, IsOpened}
use Rattle.file_header.proofs.HeaderLaws.{header_refused, header_good}

pub good_is_not_refused : (l : List ℕ) (n p : ℕ) → ¬ (good l ≡ refused n p)
good_is_not_refused l = said_not_refused (done l)

-- An answer by Result: values for what is good, number and place for a refusal. Where the values tell the good ones apart, it tells all.
module _ {A : Type 0} (values : A → List ℕ) (inj : (a b : A) → good (values a) ≡ good (values b) → a ≡ b) where
  abbrev pub told : Result A Refusal → Answer
  told (Ok a) = good (values a)
  told (Err e) = refused_by e

  pub told_one : (q r : Result A Refusal) → told q ≡ told r → q ≡ r
  told_one (Ok a) (Ok b) e = ap Ok (inj a b e)
  told_one (Ok a) (Err d) e = absurd (good_is_not_refused _ _ _ e)
  told_one (Err d) (Ok a) e = absurd (good_is_not_refused _ _ _ (sym e))
  told_one (Err d) (Err f) e = ap Err (answer_one d f e)

-- a refused call that is lent nothing answers its refusal and nothing else
module _ (n p : ℕ) where
  pub only_answer : (c : Call) → c.at_refusal.lent n c.buffers ≡ [] → c.at_refusal.returned n p ≡ [] → verdict c.checks ≡ refuses n p → answers (refused n p) ≡ does c
  only_answer c l r v = sym (does_refused c n p v ∙ (λ i. record { answer = refused n p; returned = r i; lent = l i }))

open_refuses : (e : Refusal) (s : List ℕ) → verdict (Open s).checks ≡ refuses (number_of e) (place_of e) → answers (header_answer (Err e)) ≡ does (Open s)
unfolding header_answer Open
open_refuses e s = only_answer (number_of e) (place_of e) (Open s) refl refl

open_verdict : (s : List ℕ) (e : Refusal) → header_of s ≡ Err e → verdict (Open s).checks ≡ refuses (number_of e) (place_of e)
unfolding Open
open_verdict s e q = header_refused s [] e q

open_good : (s : List ℕ) (c : Counts) → Opened s c → header_of s ≡ Ok c → answers (header_answer (Ok c)) ≡ does (Open s)
unfolding header_answer verdict Open
open_good s c o e =
    (λ i. answers (good (o.ins_are i ∷ o.gates_are i ∷ o.outs_are i ∷ [])))
    ∙ sym (does_good (Open s) (header_good s [] c e))

pub open_law : (s : List ℕ) (h : Result Counts Refusal) → h ≡ header_of s → IsOpened h s → answers (header_answer h) ≡ does (Open s)
open_law s (Ok c) e o = open_good s c o (sym e)
open_law s (Err x) e o = open_refuses x s (open_verdict s x (sym e))

pub opened_from : (h : Result Counts Refusal) (s : List ℕ) (c : Counts) → h ≡ Ok c → IsOpened h s → Opened s c
opened_from h s c e o = subst (λ (z : Result Counts Refusal). IsOpened z s) e o

counts_one : (c c' : Counts) → good (c.inputs ∷ c.gates ∷ c.outputs ∷ []) ≡ good (c'.inputs ∷ c'.gates ∷ c'.outputs ∷ []) → c ≡ c'
counts_one c c' e =
    let i : c.inputs ≡ c'.inputs = cc in
    let g : c.gates ≡ c'.gates = cc in
    let o : c.outputs ≡ c'.outputs = cc in
    λ j. record { inputs = i j; gates = g j; outputs = o j }

as_told : (h : Result Counts Refusal) → header_answer h ≡ told (λ c. c.inputs ∷ c.gates ∷ c.outputs ∷ []) counts_one h
unfolding header_answer
as_told (Ok c) = refl
as_told (Err e) = refl

pub header_inj : (q r : Result Counts Refusal) → header_answer q ≡ header_answer r → q ≡ r
header_inj q r e = told_one _ counts_one q r (sym (as_told q) ∙ e ∙ as_told r)

-- Two results that meet a statement are equal, of whatever type the answer is: what each stands for is the same.
module _ {A : Type 0} (stands-for : A → Answer) (inj : (q r : A) → stands-for q ≡ stands-for r → q ≡ r) (x : After) (q r : A) where
  pub one_result : (l m : List (List ℕ)) → record { answer = stands-for q; returned = []; lent = l } ≡ x → record { answer = stands-for r; returned = []; lent = m } ≡ x
      → (q ≡ r) × (l ≡ m)
  one_result l m a b = let e = a ∙ sym b in (inj q r (ap (λ (z : After). z.answer) e), ap (λ (z : After). z.lent) e)

  pub one_answer : answers (stands-for q) ≡ x → answers (stands-for r) ≡ x → q ≡ r
  one_answer a b = (one_result [] [] a b).0

pub open_one : (s : List ℕ) (q r : Result Counts Refusal) → answers (header_answer q) ≡ does (Open s) → answers (header_answer r) ≡ does (Open s) → q ≡ r
open_one s = one_answer header_answer header_inj (does (Open s))
