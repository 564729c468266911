-- The pass as its loop meets it.
--     turn_on       a line without a fault, and on behind it;  turn_blank: a blank one
--     stop_bad, stop_checked    a faulty line: all that the pass left, and that the refusal is its fault's
--     turn_end      behind the last
--     seat_inside   the inputs' line begins inside the text;  behind_the_counts, seat_kept: where it is
-- Assumes nothing.
use mathlib.Core.Path.{◌≡◌, refl, sym, ap, ◌∙◌}
use mathlib.Core.Bool.{Bool, true, false, cond}
use mathlib.Core.List.{List, ◌∷◌}
use Prim.Native.Nat.{ℕ, ◌+◌, ◌<◌, ◌≤◌}
use native.Mathlib.Omega.{arith}
use lib.ListN.{length, drop, drop_of_length-le}
use lib.Dec.{eqb}
use borrow.Author.Tests.{eq-eqb, ne_eqb, eqb-false}
use Rattle.std.proofs.Common.{◌≢◌, Option, None, Some}
use Rattle.theory_calls.specs.Checks.{accepted, refuses}
use Rattle.check_refusal.specs.declared.Refusal.{Refusal}
use Rattle.check_refusal.specs.declared.Refusal.TheVariants.{TextLine}
use Rattle.check_refusal.specs.Number.{number_of, place_of}
use Rattle.bristol_text.specs.Words.{lines, split, but_empty_last}
use Rattle.bristol_text.specs.declared.Says.{Says}
use Rattle.bristol_text.specs.declared.Says.TheVariants.{Blank}
use Rattle.bristol_lines.specs.declared.Line.{Line}
use Rattle.bristol_lines.specs.Mirror.{says_of, LineFrom}
use Rattle.bristol_words.specs.Mirror.{rest_line, words_at, line_end}
use Rattle.bristol_wires.specs.declared.Text.{Text}
use Rattle.bristol_wires.specs.Mirror.{fault_of, line_verdict, map_after, gates_after, text_after}
use Rattle.bristol_wires.specs.Pass.{Passed, says_by, pass_from}
use Rattle.bristol_pass.specs.Mirror.{behind_of, Stopped}
use Rattle.bristol_pass.proofs.LineLaws.{line_front}

-- the place of the inputs' line, and its words
seat_words : (t : List ℕ) (p : Bool) (at seat : ℕ) → words_at t (cond p at seat) ≡ cond p (words_at t at) (words_at t seat)
seat_words t true at seat = refl
seat_words t false at seat = refl

module _ (tx : List ℕ) (n at seat : ℕ) (t : Text) (m g : List ℕ) (h : at < length tx) (v : Passed)
    (inv : pass_from n t (words_at tx seat) m g (lines (drop at tx)) ≡ v) where
  abbrev later : List (List ℕ)
  later = lines (drop (behind_of tx (line_end tx at)) tx)

  here : pass_from n t (words_at tx seat) m g (rest_line tx at ∷ later) ≡ v
  here = ap (pass_from n t (words_at tx seat) m g) (sym (line_front tx at h)) ∙ inv

  -- stopped here
  abbrev stopped : ℕ → Passed
  stopped f = record { fault = f; line = n + 1; text = t; words = words_at tx seat; map = m; gates = g }

  -- a line with a fault
  turn_stop : (s : Option Says) → s ≡ says_by t (words_at tx at) → eqb (fault_of t m s) 0 ≡ false → stopped (fault_of t m s) ≡ v
  unfolding pass_from
  turn_stop s e z =
      let bad : eqb (fault_of t m (says_by t (words_at tx at))) 0 ≡ false = rw (← e) z in
      let y = rw bad at here in
      rw e y

  -- the same by the refusal that names it
  stop_named : (d : Refusal) (f : ℕ) → eqb f 0 ≡ false → number_of d ≡ f → place_of d ≡ n + 1 → stopped f ≡ v → (stopped (number_of d) ≡ v) × Stopped d v
  stop_named d f z a b y = (
    rw a y,
    record { faulty = λ k. eqb-false f 0 z (ap (λ (p : Passed). p.fault) y ∙ k); number = a ∙ ap (λ (p : Passed). p.fault) y; place = b ∙ ap (λ (p : Passed). p.line) y },
  )

  -- a line that is no good text, and one that is checked
  pub stop_bad : (r : Option Line) → r ≡ None → LineFrom tx at (says_by t (words_at tx at)) r → (stopped 15 ≡ v) × Stopped (TextLine (n + 1)) v
  unfolding fault_of
  stop_bad r e l = stop_named (TextLine (n + 1)) 15 refl refl refl (turn_stop None (sym (ap says_of e) ∙ l.says) refl)

  module _ (r : Line) (l : LineFrom tx at (says_by t (words_at tx at)) (Some r)) where
    pub stop_checked : (d : Refusal) → refuses (number_of d) (place_of d) ≡ line_verdict (fault_of t m (Some r.says)) (n + 1) → (stopped (number_of d) ≡ v) × Stopped d v
    stop_checked d q = go (eqb (fault_of t m (Some r.says)) 0) refl q
      where
        go : (b : Bool) → eqb (fault_of t m (Some r.says)) 0 ≡ b → refuses (number_of d) (place_of d) ≡ cond b accepted (refuses (fault_of t m (Some r.says)) (n + 1))
            → (stopped (number_of d) ≡ v) × Stopped d v
        go true f c = absurd (cc)
        go false f c = stop_named d (fault_of t m (Some r.says)) f (cc) (cc) (turn_stop (Some r.says) l.says f)

    pub turn_on : accepted ≡ line_verdict (fault_of t m (Some r.says)) (n + 1) → (seat2 : ℕ) → seat2 ≡ cond (eqb t.stage 1) at seat
        → (m2 g2 : List ℕ) (t2 : Text) → m2 ≡ map_after t m (Some r.says) → g2 ≡ gates_after t m (Some r.says) g → t2 ≡ text_after t (Some r.says)
        → (at2 : ℕ) → at2 ≡ behind_of tx r.end
        → pass_from (n + 1) t2 (words_at tx seat2) m2 g2 (lines (drop at2 tx)) ≡ v
    unfolding pass_from
    turn_on q seat2 a m2 g2 t2 bm bg bt at2 j =
        let e : Some r.says ≡ says_by t (words_at tx at) = l.says in
        let good : eqb (fault_of t m (says_by t (words_at tx at))) 0 ≡ true = rw (← e) (fine q) in
        let y = rw good at here in
        rw (a, bm, bg, bt, j, l.ends, e, seat_words tx (eqb t.stage 1) at seat) y
      where
        go : (b : Bool) → accepted ≡ cond b accepted (refuses (fault_of t m (Some r.says)) (n + 1)) → b ≡ true
        go true c = refl
        go false c = absurd (cc)

        fine : accepted ≡ line_verdict (fault_of t m (Some r.says)) (n + 1) → eqb (fault_of t m (Some r.says)) 0 ≡ true
        fine c = go (eqb (fault_of t m (Some r.says)) 0) c

    -- a blank line says nothing, so that nothing of what is known moves
    pub turn_blank : r.says ≡ Blank → (seat2 : ℕ) → seat2 ≡ cond (eqb t.stage 1) at seat → (at2 : ℕ) → at2 ≡ behind_of tx r.end
        → pass_from (n + 1) t (words_at tx seat2) m g (lines (drop at2 tx)) ≡ v
    unfolding fault_of map_after gates_after text_after
    turn_blank b seat2 a at2 j = turn_on (rw b refl) seat2 a m g t (rw b refl) (rw b refl) (rw b refl) at2 j

pub turn_end : (tx : List ℕ) (n at seat : ℕ) (t : Text) (m g : List ℕ) (v : Passed) → length tx ≤ at → pass_from n t (words_at tx seat) m g (lines (drop at tx)) ≡ v
    → record { fault = 0; line = n; text = t; words = words_at tx seat; map = m; gates = g } ≡ v
unfolding pass_from lines split but_empty_last
turn_end tx n at seat t m g v h inv = rw (drop_of_length-le tx h) at inv

-- where the inputs' line begins
pub seat_inside : (k K at seat r : ℕ) → r ≡ cond (eqb K 1) at seat → at ≤ k → seat ≤ k → r ≤ k
seat_inside k K at seat r e a b = go (eqb K 1) e
  where
    go : (p : Bool) → r ≡ cond p at seat → r ≤ k
    go true q = omega (arith, q, a)
    go false q = omega (arith, q, b)

-- where the inputs' line is, over plain numbers
pub behind_the_counts : (s at seat : ℕ) → s ≡ 1 → at ≡ cond (eqb s 1) at seat
behind_the_counts s at seat h = simp (eq-eqb _ _ h)

pub seat_kept : (s at seat : ℕ) → s ≢ 1 → seat ≡ cond (eqb s 1) at seat
seat_kept s at seat h = simp (ne_eqb _ _ h)
