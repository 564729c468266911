-- What a line of words can say, by the header lines before it and the wire count.
--     Said K W l       counts at first, with at most 8,192 wires; then widths, with a sum of at most W; then gates, on wires below W
--     line_told        each line says so
-- Assumes nothing.
use mathlib.Core.Path.{◌≡◌, refl}
use mathlib.Core.Bool.{Bool, true, false, cond, ◌&&◌}
use mathlib.Core.List.{List, [], ◌∷◌}
use Prim.Native.Nat.{ℕ, zero, suc, ◌+◌, ◌<◌, ◌≤◌}
use native.Mathlib.Omega.{arith}
use lib.ListN.{length, get_or}
use lib.Dec.{leb, ltb, eqb}
use borrow.Author.Tests.{leb-true, ltb-true, eqb-true}
use Rattle.theory_calls.proofs.Limits.{and_first, and_second}
use Rattle.bristol_text.specs.Words.{Number, is, none, number}
use Rattle.bristol_text.specs.Lines.{Line, blank, bad, counts, widths, other_word, xor_gate, and_gate, inv_gate, eqw_gate}
use Rattle.bristol_text.specs.Lines.{Numbers, are, broken, numbers, counts_line, total, widths_line, Rest, wires_word, no_rest, with_wire, rest, gate_word, gate_with, with_rest, with_counts, gate_line, line_says}

unfoldable pub Said : ℕ → ℕ → Line → Type 0
Said K W (counts g w) = (K ≡ 0) × (w ≤ 8192)
Said K W (widths ws) = (0 < K) × (K < 3) × (total ws ≤ W)
Said K W (xor_gate x y z) = (2 < K) × (x < W) × (y < W) × (z < W)
Said K W (and_gate x y z) = (2 < K) × (x < W) × (y < W) × (z < W)
Said K W (inv_gate x z) = (2 < K) × (x < W) × (z < W)
Said K W (eqw_gate x z) = (2 < K) × (x < W) × (z < W)
Said K W blank = Unit {0}
Said K W bad = Unit {0}
Said K W other_word = Unit {0}

counts_told : (W : ℕ) (ns : Numbers) → Said 0 W (counts_line ns)
unfolding Said counts_line
counts_told W (are (g ∷ w ∷ [])) = go (leb w 8192) refl
  where
    go : (b : Bool) → leb w 8192 ≡ b → Said 0 W (cond b (counts g w) bad)
    go true e = (refl, leb-true _ _ e)
    go false e = tt
counts_told W (are []) = tt
counts_told W (are (g ∷ [])) = tt
counts_told W (are (g ∷ w ∷ x ∷ xs)) = tt
counts_told W broken = tt

widths_told : (K W : ℕ) → 0 < K → K < 3 → (ns : Numbers) → Said K W (widths_line W ns)
unfolding Said widths_line
widths_told K W a b (are (v ∷ xs)) = go (eqb (length xs) v && leb (total xs) W) refl
  where
    go : (t : Bool) → (eqb (length xs) v && leb (total xs) W) ≡ t → Said K W (cond t (widths xs) bad)
    go true e = (a, b, leb-true _ _ (and_second (eqb (length xs) v) _ e))
    go false e = tt
widths_told K W a b (are []) = tt
widths_told K W a b broken = tt

-- so many wires, all below W
unfoldable Rested : ℕ → ℕ → Rest → Type 0
Rested W n (wires_word xs w) = (k : ℕ) → k < n → get_or xs k 0 < W
Rested W n no_rest = Unit {0}

wire_told : (W n : ℕ) (x : Number) (r : Rest) → Rested W n r → Rested W (suc n) (with_wire W x r)
unfolding Rested with_wire
wire_told W n none r h = tt
wire_told W n (is x) no_rest h = tt
wire_told W n (is x) (wires_word xs w) h = go (ltb x W) refl
  where
    all : x < W → (k : ℕ) → k < suc n → get_or (x ∷ xs) k 0 < W
    all l zero p = l
    all l (suc k) p = h k (omega arith)

    go : (b : Bool) → ltb x W ≡ b → Rested W (suc n) (cond b (wires_word (x ∷ xs) w) no_rest)
    go true e = all (ltb-true _ _ e)
    go false e = tt

rest_told : (W n : ℕ) (ws : List (List ℕ)) → Rested W n (rest W n ws)
unfolding Rested rest
rest_told W n [] = tt
rest_told W zero (w ∷ []) = λ k h. absurd (omega arith)
rest_told W zero (w ∷ v ∷ ws) = tt
rest_told W (suc n) (w ∷ ws) = wire_told W n (number w) (rest W n ws) (rest_told W n ws)

sum : (i o m : ℕ) → (eqb i m && eqb o 1) ≡ true → i + o ≡ m + 1
sum i o m e = let a = eqb-true i m (and_first _ _ e) in let b = eqb-true o 1 (and_second (eqb i m) _ e) in omega arith

-- "XOR and AND with 2 1, INV and EQW with 1 1"
module _ (K W : ℕ) (i o : ℕ) (xs : List ℕ) (low : (k : ℕ) → k < i + o → get_or xs k 0 < W) where
  three_told : (A : ℕ → ℕ → ℕ → Line) → ((x y z : ℕ) → x < W → y < W → z < W → Said K W (A x y z))
      → Said K W (cond (eqb i 2 && eqb o 1) (A (get_or xs 0 0) (get_or xs 1 0) (get_or xs 2 0)) bad)
  unfolding Said
  three_told A f = go (eqb i 2 && eqb o 1) refl
    where
      go : (b : Bool) → (eqb i 2 && eqb o 1) ≡ b → Said K W (cond b (A (get_or xs 0 0) (get_or xs 1 0) (get_or xs 2 0)) bad)
      go true e = let s = sum i o 2 e in f _ _ _ (low 0 (omega arith)) (low 1 (omega arith)) (low 2 (omega arith))
      go false e = tt

  two_told : (A : ℕ → ℕ → Line) → ((x z : ℕ) → x < W → z < W → Said K W (A x z)) → Said K W (cond (eqb i 1 && eqb o 1) (A (get_or xs 0 0) (get_or xs 1 0)) bad)
  unfolding Said
  two_told A f = go (eqb i 1 && eqb o 1) refl
    where
      go : (b : Bool) → (eqb i 1 && eqb o 1) ≡ b → Said K W (cond b (A (get_or xs 0 0) (get_or xs 1 0)) bad)
      go true e = let s = sum i o 1 e in f _ _ (low 0 (omega arith)) (low 1 (omega arith))
      go false e = tt

  gate_told : 2 < K → (c : ℕ) → Said K W (gate_with c i o xs)
  unfolding Said gate_with
  gate_told late zero = tt
  gate_told late (suc zero) = three_told xor_gate (λ x y z a b c. (late, a, b, c))
  gate_told late (suc (suc zero)) = three_told and_gate (λ x y z a b c. (late, a, b, c))
  gate_told late (suc (suc (suc zero))) = two_told inv_gate (λ x z a b. (late, a, b))
  gate_told late (suc (suc (suc (suc c)))) = two_told eqw_gate (λ x z a b. (late, a, b))

module _ (K W : ℕ) (late : 2 < K) where
  rest_line : (i o : ℕ) (r : Rest) → Rested W (i + o) r → Said K W (with_rest i o r)
  unfolding Said with_rest Rested
  rest_line i o no_rest h = tt
  rest_line i o (wires_word xs w) h = gate_told K W i o xs h late (gate_word w)

  counted_line : (i o : Number) (ws : List (List ℕ)) → Said K W (with_counts W i o ws)
  unfolding Said with_counts
  counted_line none o ws = tt
  counted_line (is i) none ws = tt
  counted_line (is i) (is o) ws = rest_line i o (rest W (i + o) ws) (rest_told W (i + o) ws)

  gate_line_told : (ws : List (List ℕ)) → Said K W (gate_line W ws)
  unfolding Said gate_line
  gate_line_told [] = tt
  gate_line_told (a ∷ []) = tt
  gate_line_told (a ∷ b ∷ ws) = counted_line (number a) (number b) ws

pub line_told : (K W : ℕ) (ws : List (List ℕ)) → Said K W (line_says K W ws)
unfolding Said line_says
line_told K W [] = tt
line_told zero W (a ∷ ws) = counts_told W (numbers (a ∷ ws))
line_told (suc zero) W (a ∷ ws) = widths_told 1 W (omega arith) (omega arith) (numbers (a ∷ ws))
line_told (suc (suc zero)) W (a ∷ ws) = widths_told 2 W (omega arith) (omega arith) (numbers (a ∷ ws))
line_told (suc (suc (suc K))) W (a ∷ ws) = gate_line_told (suc (suc (suc K))) W (omega arith) (a ∷ ws)
