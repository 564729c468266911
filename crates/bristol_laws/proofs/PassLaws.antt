-- The pass over the lines of a text: where it stops, and what it has where it ends.
--     Goes           from what was heard: it stops at line k, the first with a fault, or ends behind all of them
--     goes           it does the one or the other
--     pass_stops     then the first check of the call refuses so, whatever is checked after it
--     pass_ends      then it passes, and what code knows matches what was heard
-- Assumes nothing.
use mathlib.Core.Path.{◌≡◌, refl, sym, ap, ◌∙◌, subst}
use mathlib.Core.Bool.{Bool, true, false, not, cond}
use mathlib.Core.List.{List, [], ◌∷◌}
use Prim.Native.Nat.{ℕ, zero, suc, ◌+◌, ◌<◌}
use native.Mathlib.Omega.{arith}
use lib.ListN.{length, replicate}
use lib.Dec.{eqb}
use borrow.Author.Tests.{eqb-true, eqb-false, ne_eqb}
use Rattle.theory_calls.specs.Checks.{Refusal, Holds, refuses, verdict}
use Rattle.theory_calls.proofs.Refusals.{Passes, verdict_first, verdict_skips}
use Rattle.std.proofs.Common.{Option}
use Rattle.bristol_text.specs.Words.{words}
use Rattle.bristol_text.specs.Heard.{Heard, nothing_heard, hear, says, heard_from, heard, line_fault}
use Rattle.bristol_text.specs.Told.{told}
use Rattle.bristol_text.specs.Call.{fault_at, lines_check}
use Rattle.bristol_text.specs.declared.Says.{Says}
use Rattle.bristol_text.proofs.LineLaws.{line_told}
use Rattle.bristol_text.proofs.Sane.{Sane, none_sane, sane_hears, fault_from}
use Rattle.bristol_wires.specs.declared.Text.{Text}
use Rattle.bristol_wires.specs.Mirror.{fault_of, map_after, gates_after, text_after, nothing_read}
use Rattle.bristol_wires.specs.Pass.{Passed, pass_from}
use Rattle.bristol_laws.specs.Matches.{Matches}
use Rattle.bristol_laws.proofs.FaultLaws.{same_words, same_fault}
use Rattle.bristol_laws.proofs.HeaderLaws.{matches_start}
use Rattle.bristol_laws.proofs.Hears.{matches_hears}

pub data Goes (h : Heard) (n : ℕ) (ls : List (List ℕ)) (P : Passed) : Type 0 where
  stops : (k : ℕ) → k < length ls → ¬ (P.fault ≡ 0) → P.line ≡ n + suc k → fault_from h ls k ≡ P.fault
      → ((j : ℕ) → j < k → fault_from h ls j ≡ 0) → Goes h n ls P
  ends : P.fault ≡ 0 → P.line ≡ n + length ls → Matches (heard_from h ls) P.text P.words P.map P.gates → Sane (heard_from h ls)
      → ((j : ℕ) → j < length ls → fault_from h ls j ≡ 0) → Goes h n ls P

-- a good line in front
goes_on : (h : Heard) (n : ℕ) (l : List ℕ) (ls : List (List ℕ)) (P : Passed) → line_fault h (says h l) ≡ 0 → Goes (hear h (says h l)) (n + 1) ls P → Goes h n (l ∷ ls) P
unfolding heard_from
goes_on h n l ls P f (stops k a b c d e) = stops (suc k) (omega arith) b (omega arith) d before
  where
    before : (j : ℕ) → j < suc k → fault_from h (l ∷ ls) j ≡ 0
    before zero i = f
    before (suc j) i = e j (omega arith)
goes_on h n l ls P f (ends a b c d e) = ends a (omega arith) c d before
  where
    before : (j : ℕ) → j < suc (length ls) → fault_from h (l ∷ ls) j ≡ 0
    before zero i = f
    before (suc j) i = e j (omega arith)

goes : (ls : List (List ℕ)) (h : Heard) (t : Text) (ws : List (List ℕ)) (m g : List ℕ) (n : ℕ) → Matches h t ws m g → Sane h → Goes h n ls (pass_from n t ws m g ls)
unfolding pass_from heard_from
goes [] h t ws m g n q s = ends refl (omega arith) q s (λ j i. absurd (omega arith))
goes (l ∷ ls) h t ws m g n q s =
    subst (λ (a : Option Says). Goes h n (l ∷ ls) (turn a)) (sym (same_words h t ws m g q l))
    (go (eqb (fault_of t m a') 0) refl (λ p r. goes ls (hear h (says h l)) (text_after t a') _ (map_after t m a') (gates_after t m a' g) (n + 1) p r))
  where
    a' : Option Says
    a' = told (says h l)

    on : Option Says → Passed
    on a = pass_from (n + 1) (text_after t a) (cond (eqb t.stage 1) (words l) ws) (map_after t m a) (gates_after t m a g) ls

    off : Option Says → Passed
    off a = record { fault = fault_of t m a; line = n + 1; text = t; words = ws; map = m; gates = g }

    turn : Option Says → Passed
    turn a = cond (eqb (fault_of t m a) 0) (on a) (off a)

    go : (b : Bool) → eqb (fault_of t m a') 0 ≡ b
        → (Matches (hear h (says h l)) (text_after t a') (cond (eqb t.stage 1) (words l) ws) (map_after t m a') (gates_after t m a' g) → Sane (hear h (says h l))
        → Goes (hear h (says h l)) (n + 1) ls (on a'))
        → Goes h n (l ∷ ls) (cond b (on a') (off a'))
    go true e ih =
        let f : line_fault h (says h l) ≡ 0 = sym (same_fault h t ws m g q (says h l)) ∙ eqb-true _ _ e in
        goes_on h n l ls (on a') f
        (ih (matches_hears h t ws m g q s l f) (sane_hears h s (says h l) (line_told h.stage h.wires (words l)) f))
    go false e ih = stops 0 (omega arith) (eqb-false _ _ e) refl (sym (same_fault h t ws m g q (says h l))) (λ j i. absurd (omega arith))

module _ (ls : List (List ℕ)) (ws : List (List ℕ)) (g : List ℕ) (long : length g ≡ 18432) where
  abbrev P : Passed
  P = pass_from 0 nothing_read ws (replicate 8192 0) g ls

  gone : Goes nothing_heard 0 ls P
  gone = goes ls nothing_heard nothing_read ws (replicate 8192 0) g 0 (matches_start ws g long) none_sane

  -- no line up to k has a fault
  no_fault_to : (k : ℕ) → ((j : ℕ) → j < k → fault_from nothing_heard ls j ≡ 0) → (p : ℕ) → p < suc k → not (eqb (fault_at ls p) 0) ≡ false
  unfolding fault_at
  no_fault_to k f zero l = refl
  no_fault_to k f (suc j) l = rw (f j (omega arith))

  pub pass_stops : ¬ (P.fault ≡ 0) → (cs : List Refusal) → verdict (lines_check ls ∷ cs) ≡ refuses P.fault P.line
  unfolding fault_at Holds
  pass_stops bad cs = go gone
    where
      go : Goes nothing_heard 0 ls P → verdict (lines_check ls ∷ cs) ≡ refuses P.fault P.line
      go (ends a b c d e) = absurd (bad a)
      go (stops k a b c d e) = (verdict_first (lines_check ls ∷ cs) P.fault P.line).1 (record {
        which = 0;
        concerns = omega arith;
        number = there;
        holds = held;
        before = λ j p l. absurd (omega arith);
        inside = clean;
      })
        where
          there : fault_at ls P.line ≡ P.fault
          there = ap (fault_at ls) c ∙ ap (fault_at ls) {x = 0 + suc k} {y = suc k} (omega arith) ∙ d

          held : Holds (lines_check ls).row P.line
          held = (omega (arith, c), rw there (ap not (ne_eqb P.fault 0 b)))

          clean : (p : ℕ) → p < P.line → ¬ Holds (lines_check ls).row p
          clean p l i = let z : true ≡ false = sym i.1 ∙ no_fault_to k e p (omega (arith, c)) in let y : ◌≡◌ {A = ℕ} 0 1 = cc in omega arith

  pub pass_ends : P.fault ≡ 0 → (P.line ≡ length ls) × Matches (heard ls) P.text P.words P.map P.gates × Sane (heard ls)
      × ((cs : List Refusal) → verdict (lines_check ls ∷ cs) ≡ verdict cs)
  unfolding Passes
  pass_ends good = go gone
    where
      go : Goes nothing_heard 0 ls P → (P.line ≡ length ls) × Matches (heard ls) P.text P.words P.map P.gates × Sane (heard ls)
          × ((cs : List Refusal) → verdict (lines_check ls ∷ cs) ≡ verdict cs)
      go (stops k a b c d e) = absurd (b good)
      go (ends a b c d e) = (b ∙ omega arith, c, d, λ cs. verdict_skips (lines_check ls ∷ []) cs (no_fault_to (length ls) e, tt))
