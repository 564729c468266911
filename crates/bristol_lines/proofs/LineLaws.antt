-- Lines read from a place on.
--     from_behind                                        a line read from behind a word of it
--     counts_good, counts_bad, counts_first, counts_second    the line of counts, by the two words behind its first
--     widths_stop, widths_more, widths_good              the line of widths, by the sums and the word behind them
--     gate_first, gate_second, gate_stop, gate_line      the gate line, by its counts and wires
--     word_bad, word_good, word_line                     behind these
--     line_blank, line_counts, line_inputs, line_outputs, line_gate    a line by its stage
--     gates_behind                                       a line behind three header lines or more
-- Assumes nothing.
use mathlib.Core.Path.{◌≡◌, refl, sym, ap, ◌∙◌}
use mathlib.Core.Bool.{Bool, true, false, not, cond, ◌||◌}
use mathlib.Core.List.{List, [], ◌∷◌}
use Prim.Native.Nat.{ℕ, zero, suc, ◌+◌}
use native.Mathlib.Omega.{arith}
use lib.Dec.{ltb, eqb}
use borrow.Author.Tests.{eqb-true}
use Rattle.std.proofs.Common.{Option, None, Some, IfSome}
use Rattle.bristol_text.specs.Words.{number}
use Rattle.bristol_text.specs.Lines as text
use Rattle.bristol_words.specs.declared.Word.{Word}
use Rattle.bristol_words.specs.declared.GateWord.{GateWord}
use Rattle.bristol_words.specs.Mirror.{words_at, line_end, word_in, told_number, word_of, Next}
use Rattle.bristol_text.specs.declared.Says.{Says}
use Rattle.bristol_text.specs.declared.Says.TheVariants.{Blank, Counts, Widths}
use Rattle.bristol_lines.specs.declared.Line.{Line}
use Rattle.bristol_lines.specs.declared.Sum.{Sum}
use Rattle.bristol_lines.specs.declared.Wires.{Wires}
use Rattle.bristol_text.specs.Told.{told}
use Rattle.bristol_lines.specs.Mirror.{LineFrom, LineAt, counts_from, widths_from, gate_from, gate_after, gate_says, left, sum_left, Summed, wires_kept, WiresRead, wires_from}
use Rattle.bristol_lines.proofs.SeenLaws.{seen_next}
use Rattle.bristol_lines.proofs.CountsLaws.{counted, counts_said}
use Rattle.bristol_lines.proofs.WidthsLaws.{sum_says, widths_said}
use Rattle.bristol_lines.proofs.WiresLaws.{kept_says}
use Rattle.bristol_lines.proofs.GateLaws.{word_next, gate_by, gate_next}

nothing : (e l : Bool) → (not e || l) ≡ false → e ≡ true
nothing true l h = refl
nothing false l h = cc

nothing_behind : (p q : Bool) → (p || not q) ≡ false → q ≡ true
nothing_behind true q h = cc
nothing_behind false true h = refl
nothing_behind false false h = cc

pub from_behind : (t : List ℕ) (at e : ℕ) (s u : Option Says) (r : Option Line) → LineFrom t e s r → u ≡ s → line_end t e ≡ line_end t at → LineFrom t at u r
from_behind t at e s u r h q l = record { says = h.says ∙ sym q; ends = go r h.ends }
  where
    go : (r : Option Line) → IfSome r (λ (m : Line). m.end ≡ line_end t e) → IfSome r (λ (m : Line). m.end ≡ line_end t at)
    go (Some m) i = i ∙ l
    go None i = tt

-- counts
module _ (t : List ℕ) (f a b : Word) (na : Next t f.end a) (nb : Next t a.end b) where
  pub counts_is : counts_from f (words_at t f.end) ≡ counted f.number a.number (eqb b.start b.end)
  counts_is = counts_said _ _ _ _ _ f a b (seen_next t f.end a na) (seen_next t a.end b nb)

  pub counts_good : (g w : ℕ) → f.number ≡ Some g → a.number ≡ Some w → (e : Bool) → e ≡ eqb b.start b.end → (not e || ltb 8192 w) ≡ false
      → LineFrom t f.end (counts_from f (words_at t f.end)) (Some (record { says = Counts g w; end = b.end }))
  counts_good g w p q e i h =
      let z : b.start ≡ b.end = eqb-true _ _ (sym i ∙ nothing e (ltb 8192 w) h) in
      record { says = sym (counts_is ∙ rw (p, q, ← i, h)); ends = (nb.last z).1 ∙ na.line }

  pub counts_bad : (g w : ℕ) → f.number ≡ Some g → a.number ≡ Some w → (e : Bool) → e ≡ eqb b.start b.end → (not e || ltb 8192 w) ≡ true
      → counts_from f (words_at t f.end) ≡ None
  counts_bad g w p q e i h = counts_is ∙ rw (p, q, ← i, h)

  pub counts_first : f.number ≡ None → counts_from f (words_at t f.end) ≡ None
  counts_first p = counts_is ∙ rw p

  pub counts_second : (g : ℕ) → f.number ≡ Some g → a.number ≡ None → counts_from f (words_at t f.end) ≡ None
  counts_second g p q = counts_is ∙ rw (p, q)

-- widths
module _ (t : List ℕ) (W : ℕ) (f : Word) (v : ℕ) (e : f.number ≡ Some v) where
  summed : (s : Option Sum) → Summed t f.end v W s → widths_from W f (words_at t f.end) ≡ sum_says v (sum_left t s)
  summed s h = widths_said W v f (words_at t f.end) e ∙ ap (sum_says v) (sym h.same)

  pub widths_stop : (s : Option Sum) → Summed t f.end v W s → s ≡ None → widths_from W f (words_at t f.end) ≡ None
  unfolding sum_says
  widths_stop s h q = summed s h ∙ rw q

  module _ (s : Sum) (h : Summed t f.end v W (Some s)) (b : Word) (n : Next t s.end b) where
    pub widths_more : (b.start ≡ b.end → ⊥) → widths_from W f (words_at t f.end) ≡ None
    unfolding sum_says
    widths_more q = summed (Some s) h ∙ ap (λ ws. sum_says v (left s.sum ws)) (n.more (omega (arith, n.order)))

    pub widths_good : b.start ≡ b.end → LineFrom t f.end (widths_from W f (words_at t f.end)) (Some (record { says = Widths v s.sum; end = b.end }))
    unfolding sum_says
    widths_good q = record {
      says = sym (summed (Some s) h ∙ ap (λ ws. sum_says v (left s.sum ws)) (n.last q).0);
      ends = (n.last q).1 ∙ h.place.line;
    }

-- gates
module _ (t : List ℕ) (W : ℕ) (f a : Word) (na : Next t f.end a) where
  gate_is : gate_from W f (words_at t f.end) ≡ gate_by W f.number a.number (words_at t a.end)
  gate_is = gate_next W f a _ _ _ (seen_next t f.end a na)

  pub gate_first : f.number ≡ None → gate_from W f (words_at t f.end) ≡ None
  unfolding gate_by
  gate_first p = gate_is ∙ rw p

  pub gate_second : (i : ℕ) → f.number ≡ Some i → a.number ≡ None → gate_from W f (words_at t f.end) ≡ None
  unfolding gate_by
  gate_second i p q = gate_is ∙ rw (p, q)

  module _ (i o : ℕ) (p : f.number ≡ Some i) (q : a.number ≡ Some o) where
    read : (w : Option Wires) → WiresRead t a.end (i + o) W w → gate_from W f (words_at t f.end) ≡ kept_says i o (wires_kept t w)
    unfolding gate_by
    read w h = gate_is ∙ rw (p, q) (ap (kept_says i o) (sym h.same))

    pub gate_stop : (w : Option Wires) → WiresRead t a.end (i + o) W w → w ≡ None → gate_from W f (words_at t f.end) ≡ None
    unfolding kept_says
    gate_stop w h e = read w h ∙ rw e

    pub gate_line : (w : Wires) → WiresRead t a.end (i + o) W (Some w) → (r : Option Line) → LineFrom t w.end (wires_from i o w (words_at t w.end)) r
        → LineFrom t f.end (gate_from W f (words_at t f.end)) r
    unfolding kept_says
    gate_line w h r n = from_behind t f.end w.end _ _ r n (read (Some w) h) (h.place.line ∙ na.line)

-- a word, and nothing else
module _ (t : List ℕ) (i o : ℕ) (w : Wires) (a b : Word) (na : Next t w.end a) (nb : Next t a.end b) where
  word_is : wires_from i o w (words_at t w.end) ≡ cond (eqb a.start a.end || not (eqb b.start b.end)) None (gate_says (word_of (text.gate_word (word_in t a))) i o w.x w.y w.z)
  word_is = word_next i o w.x w.y w.z _ _ _ _ _ a b (seen_next t w.end a na) (seen_next t a.end b nb)

  module _ (p q : Bool) (m : p ≡ eqb a.start a.end) (n : q ≡ eqb b.start b.end) where
    pub word_bad : (p || not q) ≡ true → wires_from i o w (words_at t w.end) ≡ None
    word_bad h = word_is ∙ rw (← m, ← n, h)

    module _ (h : (p || not q) ≡ false) (k : Option GateWord) (e : k ≡ word_of (text.gate_word (word_in t a))) where
      pub word_good : (s : Option Says) → s ≡ gate_says k i o w.x w.y w.z → wires_from i o w (words_at t w.end) ≡ s
      word_good s d = word_is ∙ rw (← m, ← n, h, d, e)

      pub word_line : (s : Says) → Some s ≡ gate_says k i o w.x w.y w.z → LineFrom t w.end (wires_from i o w (words_at t w.end)) (Some (record { says = s; end = b.end }))
      word_line s d =
          let z : b.start ≡ b.end = eqb-true _ _ (sym n ∙ nothing_behind p q h) in
          record { says = sym (word_good (Some s) d); ends = (nb.last z).1 ∙ na.line }

-- a line by its stage
pub line_blank : (t : List ℕ) (at K W : ℕ) (f : Word) → Next t at f → f.start ≡ f.end → LineAt t at K W (Some (record { says = Blank; end = f.end }))
unfolding told text.line_says
line_blank t at K W f n e = record { says = sym (ap (λ ws. told (text.line_says K W ws)) (n.last e).0); ends = (n.last e).1 }

module _ (t : List ℕ) (at W : ℕ) (f : Word) (n : Next t at f) (q : f.start ≡ f.end → ⊥) where
  first : words_at t at ≡ word_in t f ∷ words_at t f.end
  first = n.more (omega (arith, n.order))

  pub line_counts : (r : Option Line) → LineFrom t f.end (counts_from f (words_at t f.end)) r → LineAt t at 0 W r
  unfolding text.line_says text.numbers
  line_counts r h = from_behind t at f.end _ _ r h (rw (first, n.number)) n.line

  pub line_inputs : (r : Option Line) → LineFrom t f.end (widths_from W f (words_at t f.end)) r → LineAt t at 1 W r
  unfolding text.line_says text.numbers
  line_inputs r h = from_behind t at f.end _ _ r h (rw (first, n.number)) n.line

  pub line_outputs : (r : Option Line) → LineFrom t f.end (widths_from W f (words_at t f.end)) r → LineAt t at 2 W r
  unfolding text.line_says text.numbers
  line_outputs r h = from_behind t at f.end _ _ r h (rw (first, n.number)) n.line

  same_gate : (w : List ℕ) (vs : List (List ℕ)) → told_number f ≡ number w → told (text.gate_line W (w ∷ vs)) ≡ gate_from W f vs
  unfolding text.gate_line gate_after told
  same_gate w [] e = refl
  same_gate w (v ∷ vs) e = rw e

  pub line_gate : (r : Option Line) → LineFrom t f.end (gate_from W f (words_at t f.end)) r → LineAt t at 3 W r
  unfolding text.line_says
  line_gate r h = from_behind t at f.end _ _ r h (rw first (same_gate (word_in t f) (words_at t f.end) n.number)) n.line

-- behind three header lines or more
pub gates_behind : (K W : ℕ) (ws : List (List ℕ)) → (K ≡ 0 → ⊥) → (K ≡ 1 → ⊥) → (K ≡ 2 → ⊥) → text.line_says 3 W ws ≡ text.line_says K W ws
unfolding text.line_says
gates_behind K W [] a b c = refl
gates_behind zero W (w ∷ ws) a b c = absurd (a refl)
gates_behind (suc zero) W (w ∷ ws) a b c = absurd (b refl)
gates_behind (suc (suc zero)) W (w ∷ ws) a b c = absurd (c refl)
gates_behind (suc (suc (suc K))) W (w ∷ ws) a b c = refl
