-- The first refusal in an order: for every order, every number and place. A number may stand in an order more than once.
--     verdict_first     the verdict is a refusal exactly when it is the first
--     Clears, Passes    the condition of a line holds nowhere; of none of an order's lines
--     accepted_passes, passes_accepted    the verdict is accepted exactly when none holds
--     verdict_skips, verdict_stays    what passes may be left out in front; a refusal stays, whatever is checked after it
--     Without, verdict_after    a refusal whose number no check of the front gives: the front passes, and the rest refuses so
--     row_refuses, row_passes   a verdict from its first row, by a number that is the row's fault
-- Assumes nothing.
use mathlib.Core.Path.{◌≡◌, refl, sym, ap, ◌∙◌, subst}
use mathlib.Core.Bool.{Bool, true, false, true≢false}
use mathlib.Core.Logic.{◌↔◌}
use mathlib.Core.List.{List, [], ◌∷◌, ◌++◌}
use Prim.Native.Nat.{ℕ, zero, suc, ◌<◌, ◌≤◌}
use native.Mathlib.Omega.{arith}
use lib.Dec.{ltb}
use borrow.Author.Tests.{ltb-true, ltb-false, lt-ltb, le-ltb}
use Rattle.theory_sharing.proofs.FirstLaws.{Clear, first_at, first_none, first_hit, first_before, first_clear}
use Rattle.theory_calls.specs.Checks.{Row, Refusal, refusal, no_check, Holds, Verdict, accepted, refuses, fault, verdict}
use Rattle.theory_calls.specs.Refusal.{check, FirstRefusal}

-- the condition of a line holds nowhere
abbrev pub Clears : Row → Type 0
Clears r = Clear r.bad r.span

pub clears_none : (r : Row) (p : ℕ) → Clears r → ¬ Holds r p
unfolding Holds
clears_none r p c h = true≢false (sym h.1 ∙ c p h.0)

pub none_clears : (r : Row) → ((p : ℕ) → ¬ Holds r p) → Clears r
unfolding Holds
none_clears r h p l = go (r.bad p) refl
  where
    go : (b : Bool) → r.bad p ≡ b → b ≡ false
    go true e = absurd (h p (l, e))
    go false e = refl

unfoldable pub Passes : List Refusal → Type 0
Passes [] = Unit {0}
Passes (c ∷ cs) = Clears c.row × Passes cs

-- one line
module _ (r : Row) where
  -- a fault below the span is a place at which the condition holds, and none before it does
  fault_holds : fault r < r.span → Holds r (fault r)
  unfolding fault Holds
  fault_holds h = (h, first_hit r.bad r.span h)

  fault_before : (q : ℕ) → q < fault r → ¬ Holds r q
  unfolding fault Holds
  fault_before q l h = true≢false (sym h.1 ∙ first_before r.bad r.span q l)

  fault_clears : r.span ≤ fault r → Clears r
  unfolding fault
  fault_clears h = first_clear r.bad r.span h

  clears_fault : Clears r → r.span ≤ fault r
  unfolding fault
  clears_fault c = let e = first_none r.bad r.span c in omega arith

  holds_fault : (p : ℕ) → Holds r p → ((q : ℕ) → q < p → ¬ Holds r q) → fault r ≡ p
  unfolding fault Holds
  holds_fault p h k = first_at r.bad p r.span (λ q l. go q l (r.bad q) refl) h.0 h.1
    where
      go : (q : ℕ) → q < p → (b : Bool) → r.bad q ≡ b → b ≡ false
      go q l true e = absurd (k q l (let a = h.0 in omega arith, e))
      go q l false e = refl

  holds_span : (p : ℕ) → Holds r p → p < r.span
  unfolding Holds
  holds_span p h = h.0

-- the verdict at one check
module _ (c : Refusal) (cs : List Refusal) where
  verdict_here : fault c.row < c.row.span → verdict (c ∷ cs) ≡ refuses (c.number (fault c.row)) (fault c.row)
  unfolding verdict
  verdict_here h = rw (lt-ltb _ _ h)

  verdict_next : c.row.span ≤ fault c.row → verdict (c ∷ cs) ≡ verdict cs
  unfolding verdict
  verdict_next h = rw (le-ltb _ _ h)

  first_now : fault c.row < c.row.span → FirstRefusal (c ∷ cs) (c.number (fault c.row)) (fault c.row)
  first_now h = record {
    which = 0;
    concerns = omega arith;
    number = refl;
    holds = fault_holds c.row h;
    before = λ k q l. absurd (omega arith);
    inside = fault_before c.row;
  }

  -- a check that holds nowhere may stand in front
  first_later : (m p : ℕ) → Clears c.row → FirstRefusal cs m p → FirstRefusal (c ∷ cs) m p
  first_later m p e f = record {
    which = suc f.which;
    concerns = let a = f.concerns in omega arith;
    number = f.number;
    holds = f.holds;
    before = go;
    inside = f.inside;
  }
    where
      go : (k q : ℕ) → k < suc f.which → ¬ Holds (check (c ∷ cs) k).row q
      go zero q l = clears_none c.row q e
      go (suc k) q l = f.before k q (omega arith)

pub refuses_inj : (a b c d : ℕ) → refuses a b ≡ refuses c d → (a ≡ c) × (b ≡ d)
refuses_inj a b c d e = (cc, cc)

abbrev tag : Verdict → Bool
tag accepted = true
tag (refuses n p) = false

pub accepted_not : (n p : ℕ) → ¬ (accepted ≡ refuses n p)
accepted_not n p e = true≢false (ap tag e)

verdict_nil : verdict [] ≡ accepted
unfolding verdict
verdict_nil = refl

verdict_is_first : (cs : List Refusal) (n p : ℕ) → verdict cs ≡ refuses n p → FirstRefusal cs n p
verdict_is_first [] n p e = absurd (accepted_not n p (sym verdict_nil ∙ e))
verdict_is_first (c ∷ cs) n p e = go (ltb (fault c.row) c.row.span) refl (verdict_is_first cs n p)
  where
    go : (b : Bool) → ltb (fault c.row) c.row.span ≡ b → (verdict cs ≡ refuses n p → FirstRefusal cs n p) → FirstRefusal (c ∷ cs) n p
    go true t ih =
        let h = ltb-true _ _ t in
        let q = refuses_inj (c.number (fault c.row)) (fault c.row) n p (sym (verdict_here c cs h) ∙ e) in
        subst (λ (z : ℕ). FirstRefusal (c ∷ cs) z p) q.0 (subst (λ (z : ℕ). FirstRefusal (c ∷ cs) (c.number (fault c.row)) z) q.1 (first_now c cs h))
    go false t ih =
        let h = ltb-false _ _ t in
        first_later c cs n p (fault_clears c.row h) (ih (sym (verdict_next c cs h) ∙ e))

first_is_verdict : (cs : List Refusal) (n p : ℕ) → FirstRefusal cs n p → verdict cs ≡ refuses n p
first_is_verdict [] n p f = absurd (let a = f.concerns in omega arith)
first_is_verdict (c ∷ cs) n p f = go f.which refl (first_is_verdict cs n p)
  where
    go : (k : ℕ) → f.which ≡ k → (FirstRefusal cs n p → verdict cs ≡ refuses n p) → verdict (c ∷ cs) ≡ refuses n p
    go zero e ih =
        let holds : Holds c.row p = subst (λ (k : ℕ). Holds (check (c ∷ cs) k).row p) e f.holds in
        let at : fault c.row ≡ p = holds_fault c.row p holds (λ q l. subst (λ (k : ℕ). ¬ Holds (check (c ∷ cs) k).row q) e (f.inside q l)) in
        let number : c.number p ≡ n = ap (λ (k : ℕ). (check (c ∷ cs) k).number p) (sym e) ∙ f.number in
        let l = holds_span c.row p holds in
        verdict_here c cs (omega (arith, at, l)) ∙ (λ i. refuses (c.number (at i)) (at i)) ∙ ap (λ (m : ℕ). refuses m p) number
    go (suc k) e ih =
        let clear : Clears c.row = none_clears c.row (λ q. f.before 0 q (omega (arith, e))) in
        verdict_next c cs (clears_fault c.row clear)
        ∙ ih (record {
          which = k;
          concerns = let a = f.concerns in omega (arith, e, a);
          number = ap (λ (z : ℕ). (check (c ∷ cs) z).number p) (sym e) ∙ f.number;
          holds = subst (λ (z : ℕ). Holds (check (c ∷ cs) z).row p) e f.holds;
          before = λ j q l. f.before (suc j) q (omega (arith, e, l));
          inside = λ q l. subst (λ (z : ℕ). ¬ Holds (check (c ∷ cs) z).row q) e (f.inside q l);
        })

-- the verdict is a refusal exactly when it is the first in the order
pub verdict_first : (cs : List Refusal) (n p : ℕ) → (verdict cs ≡ refuses n p) ↔ FirstRefusal cs n p
verdict_first cs n p = (verdict_is_first cs n p, first_is_verdict cs n p)

pub accepted_passes : (cs : List Refusal) → verdict cs ≡ accepted → Passes cs
unfolding Passes
accepted_passes [] e = tt
accepted_passes (c ∷ cs) e = go (ltb (fault c.row) c.row.span) refl (accepted_passes cs)
  where
    go : (b : Bool) → ltb (fault c.row) c.row.span ≡ b → (verdict cs ≡ accepted → Passes cs) → Clears c.row × Passes cs
    go true t ih = absurd (accepted_not (c.number (fault c.row)) (fault c.row) (sym e ∙ verdict_here c cs (ltb-true _ _ t)))
    go false t ih = let h = ltb-false _ _ t in (fault_clears c.row h, ih (sym (verdict_next c cs h) ∙ e))

pub passes_accepted : (cs : List Refusal) → Passes cs → verdict cs ≡ accepted
unfolding Passes
passes_accepted [] h = verdict_nil
passes_accepted (c ∷ cs) h = verdict_next c cs (clears_fault c.row h.0) ∙ passes_accepted cs h.1

-- what passes holds nowhere, for each check of the order
pub passes_none : (cs : List Refusal) → Passes cs → (k p : ℕ) → ¬ Holds (check cs k).row p
unfolding Passes
passes_none [] h k p l = absurd (let a = holds_span no_check.row p l in omega arith)
passes_none (c ∷ cs) h zero p l = clears_none c.row p h.0 l
passes_none (c ∷ cs) h (suc k) p l = passes_none cs h.1 k p l

pub none_passes : (cs : List Refusal) → ((k p : ℕ) → ¬ Holds (check cs k).row p) → Passes cs
unfolding Passes
none_passes [] h = tt
none_passes (c ∷ cs) h = (none_clears c.row (h 0), none_passes cs (λ k. h (suc k)))

-- what passes may be left out in front
pub verdict_skips : (cs ds : List Refusal) → Passes cs → verdict (cs ++ ds) ≡ verdict ds
unfolding Passes
verdict_skips [] ds h = refl
verdict_skips (c ∷ cs) ds h = verdict_next c (cs ++ ds) (clears_fault c.row h.0) ∙ verdict_skips cs ds h.1

-- a refusal stays what it is, whatever is checked after it
pub verdict_stays : (cs ds : List Refusal) (n p : ℕ) → verdict cs ≡ refuses n p → verdict (cs ++ ds) ≡ refuses n p
verdict_stays [] ds n p e = absurd (accepted_not n p (sym verdict_nil ∙ e))
verdict_stays (c ∷ cs) ds n p e = go (ltb (fault c.row) c.row.span) refl (verdict_stays cs ds n p)
  where
    go : (b : Bool) → ltb (fault c.row) c.row.span ≡ b → (verdict cs ≡ refuses n p → verdict (cs ++ ds) ≡ refuses n p) → verdict (c ∷ cs ++ ds) ≡ refuses n p
    go true t ih = let h = ltb-true _ _ t in verdict_here c (cs ++ ds) h ∙ sym (verdict_here c cs h) ∙ e
    go false t ih = let h = ltb-false _ _ t in verdict_next c (cs ++ ds) h ∙ ih (sym (verdict_next c cs h) ∙ e)

-- no check of an order gives number n
unfoldable pub Without : ℕ → List Refusal → Type 0
Without n [] = Unit {0}
Without n (c ∷ cs) = ((p : ℕ) → ¬ (c.number p ≡ n)) × Without n cs

-- such an order does not refuse with it
pub never_refuses : (n p : ℕ) (cs : List Refusal) → Without n cs → ¬ (verdict cs ≡ refuses n p)
unfolding Without
never_refuses n p [] w e = accepted_not n p (sym verdict_nil ∙ e)
never_refuses n p (c ∷ cs) w e = go (ltb (fault c.row) c.row.span) refl (never_refuses n p cs w.1)
  where
    go : (b : Bool) → ltb (fault c.row) c.row.span ≡ b → ¬ (verdict cs ≡ refuses n p) → ⊥
    go true t ih = w.0 (fault c.row) (refuses_inj (c.number (fault c.row)) (fault c.row) n p (sym (verdict_here c cs (ltb-true _ _ t)) ∙ e)).0
    go false t ih = ih (sym (verdict_next c cs (ltb-false _ _ t)) ∙ e)

-- a refusal whose number no check of the front gives: the front passes, and the rest refuses so
pub verdict_after : (n p : ℕ) (cs ds : List Refusal) → Without n cs → verdict (cs ++ ds) ≡ refuses n p → Passes cs × (verdict ds ≡ refuses n p)
unfolding Without Passes
verdict_after n p [] ds w e = (tt, e)
verdict_after n p (c ∷ cs) ds w e = go (ltb (fault c.row) c.row.span) refl (verdict_after n p cs ds w.1)
  where
    go : (b : Bool) → ltb (fault c.row) c.row.span ≡ b → (verdict (cs ++ ds) ≡ refuses n p → Passes cs × (verdict ds ≡ refuses n p))
        → (Clears c.row × Passes cs) × (verdict ds ≡ refuses n p)
    go true t ih =
        absurd (w.0 (fault c.row) (refuses_inj (c.number (fault c.row)) (fault c.row) n p (sym (verdict_here c (cs ++ ds) (ltb-true _ _ t)) ∙ e)).0)
    go false t ih =
        let h = ltb-false _ _ t in
        let r = ih (sym (verdict_next c (cs ++ ds) h) ∙ e) in
        ((fault_clears c.row h, r.0), r.1)

-- a verdict from its first row, by a number that is the row's fault
module _ (N : ℕ) (cs : List Refusal) (r : Row) (i : ℕ) (q : i ≡ fault r) where
  pub row_refuses : i < r.span → refuses N i ≡ verdict (refusal N r ∷ cs)
  unfolding verdict
  row_refuses h = sym (rw (← q, lt-ltb i r.span h))

  pub row_passes : r.span ≤ i → verdict cs ≡ verdict (refusal N r ∷ cs)
  unfolding verdict
  row_passes h = sym (rw (← q, le-ltb i r.span h))

-- the last check of an order, where its condition holds somewhere
pub verdict_last : (n : ℕ) (r : Row) → ¬ Clears r → verdict (refusal n r ∷ []) ≡ refuses n (fault r)
verdict_last n r h = go (ltb (fault r) r.span) refl
  where
    go : (b : Bool) → ltb (fault r) r.span ≡ b → verdict (refusal n r ∷ []) ≡ refuses n (fault r)
    go true t = verdict_here (refusal n r) [] (ltb-true _ _ t)
    go false t = absurd (h (fault_clears r (ltb-false _ _ t)))

-- and one that refuses so has it
pub last_refuses : (n p : ℕ) (r : Row) → verdict (refusal n r ∷ []) ≡ refuses n p → ¬ Clears r
unfolding Passes
last_refuses n p r e c = accepted_not n p (sym (passes_accepted (refusal n r ∷ []) (c, tt)) ∙ e)
