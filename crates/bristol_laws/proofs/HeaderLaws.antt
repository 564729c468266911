-- Before the first gate line.
--     bare             what is known without gate lines matches by its numbers alone
--     matches_start    before the first line
--     counts_match, widths_match    behind a header line
--     rewords          the words of the inputs' line are kept behind it
--     widths_words     the words of a line of widths
-- Assumes nothing.
use mathlib.Core.Path.{◌≡◌, refl, sym, ◌∙◌}
use mathlib.Core.Bool.{Bool, true, false, not, cond, ◌&&◌, ◌||◌}
use mathlib.Core.List.{List, [], ◌∷◌}
use Prim.Native.Nat.{ℕ, zero, suc, ◌+◌, ◌<◌, ◌≤◌}
use native.Mathlib.Omega.{arith}
use lib.ListN.{length, get_or, replicate, length-replicate, get_or-replicate, get_or-eq_default}
use lib.Dec.{leb, ltb, eqb}
use borrow.Author.Tests.{lt-ltb, ltb-true, ltb-false, eqb-true, ne_eqb}
use Rattle.theory_calls.proofs.Limits.{and_first}
use Rattle.bristol_text.specs.Lines.{Line, bad, widths, Numbers, are, broken, numbers, total, widths_line, line_says}
use Rattle.bristol_text.specs.Heard.{Heard, nothing_heard, hear_widths, any_writes}
use Rattle.bristol_text.specs.Renamed.{rename_all, inputs_alone}
use Rattle.bristol_text.proofs.Behind.{or_false}
use Rattle.bristol_text.proofs.LineLaws.{Said, line_told}
use Rattle.bristol_text.proofs.Sane.{Sane}
use Rattle.bristol_wires.specs.declared.Text.{Text}
use Rattle.bristol_wires.specs.Mirror.{entry_of, after_counts, after_widths, nothing_read}
use Rattle.theory_files.specs.Written.{gate_bytes}
use Rattle.bristol_laws.specs.Matches.{capped, Matches}

-- a map without an entry: inputs alone
module _ (m : List ℕ) (clean : (w : ℕ) → get_or m w 0 ≡ 0) (I w : ℕ) where
  bare_marks : eqb (entry_of m I w) 0 ≡ not (ltb w I || false)
  unfolding entry_of
  bare_marks = rw (clean w) (go (ltb w I) (ltb w 1024))
    where
      go : (a b : Bool) → eqb (cond a (cond b (w + 1) 1) 0) 0 ≡ not (a || false)
      go true true = ne_eqb (w + 1) 0 (λ e. omega arith)
      go true false = refl
      go false b = refl

  bare_numbered : I ≤ 1024 → (ltb w I || false) ≡ true → entry_of m I w ≡ suc w
  unfolding entry_of
  bare_numbered l k =
      let i : ltb w I ≡ true = sym (or_false (ltb w I)) ∙ k in
      let j : w < I = ltb-true w I i in
      rw (i, lt-ltb w 1024 (omega arith)) (omega arith)

pub bare : (h : Heard) (t : Text) (ws : List (List ℕ)) (m g : List ℕ)
    → h.gates ≡ [] → t.stage ≡ h.stage → t.wires ≡ h.wires → t.values ≡ length h.ins → t.ins ≡ total h.ins → t.outs ≡ total h.outs
    → t.left ≡ h.said → t.made ≡ 0 → length m ≡ 8192 → length g ≡ 18432 → ((w : ℕ) → get_or m w 0 ≡ 0)
    → (2 ≤ h.stage → numbers ws ≡ are (length h.ins ∷ h.ins))
    → Matches h t ws m g
unfolding any_writes rename_all inputs_alone capped gate_bytes
bare h t ws m g none stage wires values ins outs left made map_long gates_long clean line = record {
  stage = stage;
  wires = wires;
  values = values;
  ins = ins;
  outs = outs;
  left = rw none (omega arith);
  few = rw none (omega arith);
  made = rw none made;
  map_long = map_long;
  gates_long = gates_long;
  marks = λ w. rw (none, ins) (bare_marks m clean (total h.ins) w);
  numbered = λ f w k. rw (none, ins) (bare_numbered m clean (total h.ins) w f.0 (rw none at k));
  kept = λ f. rw none;
  clean = λ l. clean;
  inputs_line = line;
}

pub empty_map : (n w : ℕ) → ◌≡◌ {A = ℕ} (get_or (replicate n 0) w 0) 0
empty_map n w = go (ltb w n) refl
  where
    go : (b : Bool) → ltb w n ≡ b → ◌≡◌ {A = ℕ} (get_or (replicate n 0) w 0) 0
    go true e = get_or-replicate n w 0 0 (ltb-true w n e)
    go false e =
        let l : n ≤ w = ltb-false w n e in
        let k = length-replicate {A = ℕ} n 0 in
        get_or-eq_default (replicate n 0) 0 (omega arith)

pub matches_start : (ws : List (List ℕ)) (g : List ℕ) → length g ≡ 18432 → Matches nothing_heard nothing_read ws (replicate 8192 0) g
unfolding nothing_heard nothing_read total
matches_start ws g e =
    bare nothing_heard nothing_read ws (replicate 8192 0) g refl refl refl refl refl refl refl refl (length-replicate {A = ℕ} 8192 0) e (empty_map 8192) (λ l. absurd (omega arith))

-- the words of a line of widths
module _ (xs : List ℕ) where
  widths_numbers : (W : ℕ) (ns : Numbers) → widths_line W ns ≡ widths xs → ns ≡ are (length xs ∷ xs)
  unfolding widths_line
  widths_numbers W (are (v ∷ ys)) e = go (eqb (length ys) v && leb (total ys) W) refl e
    where
      go : (b : Bool) → (eqb (length ys) v && leb (total ys) W) ≡ b → cond b (widths ys) bad ≡ widths xs → are (v ∷ ys) ≡ are (length xs ∷ xs)
      go true t f = let a = eqb-true (length ys) v (and_first _ _ t) in let s : ys ≡ xs = cc in rw (← a, s)
      go false t f = let z : ◌≡◌ {A = ℕ} 0 1 = cc in absurd (omega arith)
  widths_numbers W (are []) e = let z : ◌≡◌ {A = ℕ} 0 1 = cc in absurd (omega arith)
  widths_numbers W broken e = let z : ◌≡◌ {A = ℕ} 0 1 = cc in absurd (omega arith)

  -- behind none or all of the header lines there are none
  not_widths : (K W : ℕ) (l : Line) → Said K W l → l ≡ widths xs → (0 < K) × (K < 3)
  unfolding Said
  not_widths K W l s e = let q = rw e at s in (q.0, q.1)

  pub widths_words : (K W : ℕ) (ws : List (List ℕ)) → line_says K W ws ≡ widths xs → numbers ws ≡ are (length xs ∷ xs)
  unfolding line_says
  widths_words K W [] e = let z : ◌≡◌ {A = ℕ} 0 1 = cc in absurd (omega arith)
  widths_words zero W (a ∷ ws) e = let q = not_widths 0 W _ (line_told 0 W (a ∷ ws)) e in absurd (omega arith)
  widths_words (suc zero) W (a ∷ ws) e = widths_numbers W (numbers (a ∷ ws)) e
  widths_words (suc (suc zero)) W (a ∷ ws) e = widths_numbers W (numbers (a ∷ ws)) e
  widths_words (suc (suc (suc K))) W (a ∷ ws) e = let q = not_widths (suc (suc (suc K))) W _ (line_told (suc (suc (suc K))) W (a ∷ ws)) e in absurd (omega arith)

module _ (h : Heard) (t : Text) (ws : List (List ℕ)) (m g : List ℕ) (q : Matches h t ws m g) where
  -- behind a line that is not the inputs'
  pub rewords : (v : List (List ℕ)) → Matches h t (cond (eqb t.stage 1) v ws) m g
  rewords v = record {
    stage = q.stage;
    wires = q.wires;
    values = q.values;
    ins = q.ins;
    outs = q.outs;
    left = q.left;
    few = q.few;
    made = q.made;
    map_long = q.map_long;
    gates_long = q.gates_long;
    marks = q.marks;
    numbered = q.numbered;
    kept = q.kept;
    clean = q.clean;
    inputs_line = λ l. rw (ne_eqb t.stage 1 (λ e. omega (arith, q.stage))) (q.inputs_line l);
  }

  module _ (s : Sane h) (early : h.stage < 3) where
    none : h.gates ≡ []
    none = s.before_gates early

    none_made : t.made ≡ 0
    unfolding rename_all inputs_alone capped
    none_made = rw none at q.made

    all_left : t.left ≡ h.said
    all_left = let l = rw none at q.left in omega arith

    pub counts_match : (c w : ℕ) (v : List (List ℕ))
        → Matches (record { stage = 1; said = c; wires = w; ins = h.ins; outs = h.outs; gates = h.gates }) (after_counts t c w) v m g
    unfolding after_counts
    counts_match c w v =
        bare _ _ v m g none refl refl q.values q.ins q.outs refl none_made q.map_long q.gates_long (q.clean early) (λ l. absurd (omega arith))

    pub widths_match : (xs : List ℕ) (v : List (List ℕ)) (K : ℕ) → h.stage ≡ K → 0 < K → numbers v ≡ are (length xs ∷ xs)
        → Matches (hear_widths K h xs) (after_widths t (length xs) (total xs)) (cond (eqb t.stage 1) v ws) m g
    unfolding hear_widths after_widths
    widths_match xs v zero e l n = absurd (omega arith)
    widths_match xs v (suc zero) e l n =
        rw (q.stage, e)
        (bare _ _ v m g none refl q.wires refl refl q.outs all_left none_made q.map_long q.gates_long (q.clean early) (λ k. n))
    widths_match xs v (suc (suc K)) e l n =
        rw (ne_eqb t.stage 1 (λ k. omega (arith, q.stage)))
        (bare _ _ ws m g none refl q.wires q.values q.ins refl all_left none_made q.map_long q.gates_long (q.clean early) (λ k. q.inputs_line (omega arith)))
