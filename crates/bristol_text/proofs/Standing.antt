-- Each wire of the text that is written stands for a wire of ours with its value, and our gates are good.
--     Stood, Stands     our number of a wire lies below I + G, and our value there is the text's
--     stands            behind lines that run in order, for every list of inputs
--     good_gates        each gate of ours passes check 5
-- Assumes nothing.
use mathlib.Core.Path.{◌≡◌, refl, ap, ap₂, ◌∙◌}
use mathlib.Core.Bool.{Bool, true, false, not, ◌&&◌, ◌||◌, xor}
use mathlib.Core.List.{List, [], ◌∷◌, ◌++◌}
use Prim.Native.Nat.{ℕ, zero, suc, ◌+◌, ◌<◌, ◌≤◌}
use native.Mathlib.Omega.{arith}
use lib.ListN.{length, get_or, length-append, get_or-append}
use lib.Seq.{get_or_at}
use lib.Dec.{ltb, eqb}
use borrow.Author.Tests.{lt-ltb, ltb-true, ltb-false}
use Rattle.theory_calls.specs.File.{gate_of}
use Rattle.theory_calls.specs.Family.{good_gate}
use Rattle.theory_calls.specs.Plain.{bit, plain_gate, plain_inputs, plain_values}
use Rattle.theory_calls.proofs.PlainLaws.{inputs_length}
use Rattle.theory_files.specs.Written.{Numbers3}
use Rattle.theory_files.proofs.Whole.{gate_number, meant, listed, vals, vals_length, vals_more}
use Rattle.bristol_text.specs.Lines.{Line, blank, bad, counts, widths, other_word, xor_gate, and_gate, inv_gate, eqw_gate}
use Rattle.bristol_text.specs.Heard.{known, writes, any_writes}
use Rattle.bristol_text.specs.Meaning.{put, wires_after, gates_after, input_wires}
use Rattle.bristol_text.specs.Renamed.{Renamed, makes, rename, rename_all, inputs_alone}
use Rattle.bristol_text.specs.Order.{Joins, Runs, none, more}
use Rattle.bristol_text.proofs.Behind.{known_before, rename_more, after_more}
use Rattle.bristol_text.proofs.Numbering.{named}

-- the value of an input
input_at : (xs : List ℕ) (i w : ℕ) → w < i → get_or (plain_inputs xs i) w false ≡ bit (get_or xs w 0)
unfolding plain_inputs
input_at xs zero w h = absurd (omega arith)
input_at xs (suc i) w h = go (ltb w i) refl (λ l. input_at xs i w l)
  where
    long : length (plain_inputs xs i) ≡ i
    long = inputs_length (listed i []) xs i

    go : (b : Bool) → ltb w i ≡ b → (w < i → get_or (plain_inputs xs i) w false ≡ bit (get_or xs w 0))
        → get_or (plain_inputs xs i ++ (bit (get_or xs i 0) ∷ [])) w false ≡ bit (get_or xs w 0)
    go true e ih =
        let l : w < i = ltb-true w i e in
        get_or-append (plain_inputs xs i) (bit (get_or xs i 0) ∷ []) false w (omega (arith, long)) ∙ ih l
    go false e ih =
        let l : i ≤ w = ltb-false w i e in
        let q : i ≡ w = omega arith in
        get_or_at (plain_inputs xs i) (bit (get_or xs i 0)) [] false w (long ∙ q) ∙ ap (λ (k : ℕ). bit (get_or xs k 0)) q

module _ (I : ℕ) (xs : List ℕ) where
  pub record Stood (r : Renamed) (e : ℕ → Bool) (w : ℕ) : Type 0 where
    pub below : r.wire w < I + length r.gates
    pub same : get_or (vals I xs r.gates) (r.wire w) false ≡ e w

  abbrev pub Stands : List Line → Renamed → (ℕ → Bool) → Type 0
  Stands ls r e = (w : ℕ) → known I ls w ≡ true → Stood r e w

  -- a line whose wire is z
  module _ (ls : List Line) (l : Line) (z : ℕ) (own : (w : ℕ) → writes l w ≡ eqb w z) (r : Renamed) (e : ℕ → Bool) (h : Stands ls r e) where
    makes_stands : (g : Numbers3) (v : Bool) → plain_gate (meant g) (vals I xs r.gates) ≡ v → Stands (ls ++ (l ∷ [])) (makes I r z g) (put e z v)
    makes_stands g v q w k = go (eqb w z) refl
      where
        longer : length (r.gates ++ (g ∷ [])) ≡ length r.gates + 1
        longer = length-append r.gates (g ∷ [])

        go : (b : Bool) → eqb w z ≡ b → Stood (makes I r z g) (put e z v) w
        go true t = record {
          below = rw t (omega (arith, longer));
          same =
              rw (t, vals_more I xs r.gates g)
              (get_or_at (vals I xs r.gates) (plain_gate (meant g) (vals I xs r.gates)) [] false (I + length r.gates) (vals_length I xs r.gates) ∙ q);
        }
        go false t =
            let old = h w (known_before I ls l w k (own w ∙ t)) in
            let b = old.below in
            record {
              below = rw t (omega (arith, longer, b));
              same =
                  rw (t, vals_more I xs r.gates g)
                  (get_or-append (vals I xs r.gates) _ false (r.wire w) (omega (arith, vals_length I xs r.gates, b)) ∙ old.same);
            }

    same_stands : (x : ℕ) → known I ls x ≡ true → Stands (ls ++ (l ∷ [])) (record { wire = put r.wire z (r.wire x); gates = r.gates }) (put e z (e x))
    same_stands x o w k = go (eqb w z) refl
      where
        go : (b : Bool) → eqb w z ≡ b → Stood (record { wire = put r.wire z (r.wire x); gates = r.gates }) (put e z (e x)) w
        go true t = let old = h x o in record { below = rw t old.below; same = rw t old.same }
        go false t = let old = h w (known_before I ls l w k (own w ∙ t)) in record { below = rw t old.below; same = rw t old.same }

  step_stands : (W : ℕ) (ls : List Line) (l : Line) (r : Renamed) (e : ℕ → Bool) → Joins I W ls l → Stands ls r e → Stands (ls ++ (l ∷ [])) (rename I r l) (wires_after e l)
  unfolding Joins rename wires_after writes plain_gate gate_of
  step_stands W ls (xor_gate x y z) r e j h =
      makes_stands ls (xor_gate x y z) z (λ w. refl) r e h (1, r.wire x, r.wire y) (xor (e x) (e y)) (ap₂ xor (h x j.0.1).same (h y j.1.1).same)
  step_stands W ls (and_gate x y z) r e j h =
      makes_stands ls (and_gate x y z) z (λ w. refl) r e h (2, r.wire x, r.wire y) (e x && e y) (ap₂ ◌&&◌ (h x j.0.1).same (h y j.1.1).same)
  step_stands W ls (inv_gate x z) r e j h =
      makes_stands ls (inv_gate x z) z (λ w. refl) r e h (3, r.wire x, 0) (not (e x)) (ap not (h x j.0.1).same)
  step_stands W ls (eqw_gate x z) r e j h = same_stands ls (eqw_gate x z) z (λ w. refl) r e h x j.0.1
  step_stands W ls blank r e j h = absurd j
  step_stands W ls bad r e j h = absurd j
  step_stands W ls (counts g w) r e j h = absurd j
  step_stands W ls (widths ws) r e j h = absurd j
  step_stands W ls other_word r e j h = absurd j

  or_none : (a : Bool) → (a || false) ≡ true → a ≡ true
  or_none true t = refl
  or_none false t = t

  pub stands : (W : ℕ) {ls : List Line} → Runs I W ls → Stands ls (named I ls) (gates_after (input_wires xs) ls)
  unfolding rename_all inputs_alone gates_after any_writes plain_values
  stands W none =
      λ w k.
      let l : w < I = ltb-true w I (or_none _ k) in
      record { below = omega arith; same = input_at xs I w l }
  stands W (more {ls = ls} r l j) =
      rw (rename_more I inputs_alone ls l, after_more (input_wires xs) ls l) (step_stands W ls l (named I ls) (gates_after (input_wires xs) ls) j (stands W r))

-- check 5
abbrev pub GoodGates : ℕ → List Numbers3 → Type 0
GoodGates I gs = (k : ℕ) → k < length gs → good_gate (gate_number gs k).0 (gate_number gs k).1 (gate_number gs k).2 (I + k) ≡ true

good_more : (I : ℕ) (gs : List Numbers3) (g : Numbers3) → GoodGates I gs → good_gate g.0 g.1 g.2 (I + length gs) ≡ true → GoodGates I (gs ++ (g ∷ []))
good_more I gs g h t k l = go (ltb k (length gs)) refl
  where
    go : (b : Bool) → ltb k (length gs) ≡ b → good_gate (gate_number (gs ++ (g ∷ [])) k).0 (gate_number (gs ++ (g ∷ [])) k).1 (gate_number (gs ++ (g ∷ [])) k).2 (I + k) ≡ true
    go true e =
        let q : k < length gs = ltb-true k (length gs) e in
        rw (get_or-append gs (g ∷ []) (0, 0, 0) k q) (h k q)
    go false e =
        let a : length gs ≤ k = ltb-false k (length gs) e in
        let b = length-append gs (g ∷ []) in
        let q : length gs ≡ k = omega arith in
        rw (get_or_at gs g [] (0, 0, 0) k q, ← q) t

-- that a number lies below says Stands, of any inputs
module _ (I W : ℕ) where
  step_good : (ls : List Line) (l : Line) (r : Renamed) (e : ℕ → Bool) → Joins I W ls l → Stands I [] ls r e → GoodGates I r.gates → GoodGates I (rename I r l).gates
  unfolding Joins rename good_gate
  step_good ls (xor_gate x y z) r e j h q =
      good_more I r.gates (1, r.wire x, r.wire y) q (rw (lt-ltb _ _ (h x j.0.1).below, lt-ltb _ _ (h y j.1.1).below))
  step_good ls (and_gate x y z) r e j h q =
      good_more I r.gates (2, r.wire x, r.wire y) q (rw (lt-ltb _ _ (h x j.0.1).below, lt-ltb _ _ (h y j.1.1).below))
  step_good ls (inv_gate x z) r e j h q = good_more I r.gates (3, r.wire x, 0) q (rw (lt-ltb _ _ (h x j.0.1).below))
  step_good ls (eqw_gate x z) r e j h q = q
  step_good ls blank r e j h q = q
  step_good ls bad r e j h q = q
  step_good ls (counts g w) r e j h q = q
  step_good ls (widths ws) r e j h q = q
  step_good ls other_word r e j h q = q

  pub good_gates : {ls : List Line} → Runs I W ls → GoodGates I (named I ls).gates
  unfolding rename_all inputs_alone
  good_gates none = λ k l. absurd (omega arith)
  good_gates (more {ls = ls} r l j) =
      rw (rename_more I inputs_alone ls l) (step_good ls l (named I ls) (gates_after (input_wires []) ls) j (stands I [] W r) (λ k q. good_gates r k q))
