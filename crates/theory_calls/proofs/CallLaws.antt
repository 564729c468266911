-- Whole calls: what their verdict makes of them.
--     does_good          what an accepted call does;  does_refused: what a refused one does
--     accepts_passes, passes_accepts    a call is accepted exactly when no condition that concerns it holds
-- Assumes nothing.
use mathlib.Core.Path.{◌≡◌, refl, sym, ap, ◌∙◌}
use mathlib.Core.List.{List}
use Prim.Native.Nat.{ℕ}
use native.Mathlib.Omega.{arith}
use Rattle.theory_calls.specs.Answer.{good, refused, Outcome, done, stopped, said, After}
use Rattle.theory_calls.specs.Checks.{Verdict, accepted, refuses, verdict}
use Rattle.theory_calls.specs.Calls.{Call, unrefused, settle, does, Accepts}
use Rattle.theory_calls.proofs.Refusals.{Passes, accepted_not, accepted_passes, passes_accepted}

-- an outcome is no refusal
pub said_not_refused : (o : Outcome) (n p : ℕ) → ¬ (said o ≡ refused n p)
said_not_refused (done vs) n p e = let z : ◌≡◌ {A = ℕ} 0 1 = cc in omega arith
said_not_refused (stopped o m) n p e = let z : ◌≡◌ {A = ℕ} 0 1 = cc in omega arith

module _ (c : Call) where
  abbrev judged : Verdict
  judged = verdict c.checks

  pub does_good : judged ≡ accepted → does c ≡ unrefused c.good
  unfolding does settle
  does_good e = rw e

  pub does_refused : (n p : ℕ) → judged ≡ refuses n p → does c ≡ record { answer = refused n p; returned = c.at_refusal.returned n p; lent = c.at_refusal.lent n c.buffers }
  unfolding does settle
  does_refused n p e = rw e

  pub verdict_refused : (n p : ℕ) → judged ≡ refuses n p → (does c).answer ≡ refused n p
  verdict_refused n p e = ap (λ (a : After). a.answer) (does_refused n p e)

  refused_inj : (a b d e : ℕ) → refused a b ≡ refused d e → (a ≡ d) × (b ≡ e)
  refused_inj a b d e h = (cc, cc)

  pub refused_verdict : (n p : ℕ) → (does c).answer ≡ refused n p → judged ≡ refuses n p
  refused_verdict n p e = go judged refl
    where
      go : (v : Verdict) → judged ≡ v → v ≡ refuses n p
      go accepted q = absurd (said_not_refused c.good.answer n p (sym (ap (λ (a : After). a.answer) (does_good q)) ∙ e))
      go (refuses m r) q =
          let h = refused_inj m r n p (sym (verdict_refused m r q) ∙ e) in
          let a : m ≡ n = h.0 in
          let b : r ≡ p = h.1 in
          λ i. refuses (a i) (b i)

  accepts_verdict : Accepts c → judged ≡ accepted
  unfolding Accepts
  accepts_verdict a = go judged refl
    where
      go : (v : Verdict) → judged ≡ v → v ≡ accepted
      go accepted q = refl
      go (refuses m r) q = absurd (a m r (verdict_refused m r q))

  pub verdict_accepts : judged ≡ accepted → Accepts c
  unfolding Accepts
  verdict_accepts e n p h = accepted_not n p (sym e ∙ refused_verdict n p h)

  pub accepts_passes : Accepts c → Passes c.checks
  accepts_passes a = accepted_passes c.checks (accepts_verdict a)

  pub passes_accepts : Passes c.checks → Accepts c
  passes_accepts h = verdict_accepts (passes_accepted c.checks h)

  pub accepts_does : Accepts c → does c ≡ unrefused c.good
  accepts_does a = does_good (accepts_verdict a)

  -- a call that answers good is accepted
  pub good_accepts : (l : List ℕ) → (does c).answer ≡ good l → Accepts c
  unfolding Accepts
  good_accepts l e n p h = said_not_refused (done l) n p (sym e ∙ h)
