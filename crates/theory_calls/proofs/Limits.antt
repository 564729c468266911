-- What the checks of a file give: its limits.
--     Limits, limits    I, G, O are within 01's limits, and the file has the length that they ask for: what passes 2 and 3
--     small_file        "so a file has at most 20,000 bytes"
--     small_line        line and transcript have "at most 42,496"
-- Assumes nothing.
use mathlib.Core.Path.{◌≡◌, refl, ◌∙◌}
use mathlib.Core.Bool.{Bool, true, false, ◌&&◌, ◌||◌}
use mathlib.Core.List.{List}
use Prim.Native.Nat.{ℕ, zero, suc, ◌≤◌}
use native.Mathlib.Omega.{arith}
use lib.ListN.{length}
use lib.Dec.{eqb}
use borrow.Author.Tests.{leb-true, eqb-true, not-false}
use Rattle.theory_sharing.specs.Circuit.{Gate, XOR, AND, OR, NOT, dealing, ands}
use Rattle.theory_calls.specs.File.{le32, inputs_of, gates_of, outputs_of, size}
use Rattle.theory_calls.specs.Family.{Family, circuit_with}
use Rattle.theory_calls.specs.Checks.{tested, row_large, row_field, line_want}
use Rattle.theory_calls.proofs.Refusals.{Clears}

pub or_first : (a b : Bool) → (a || b) ≡ false → a ≡ false
or_first true b e = e
or_first false b e = refl

pub and_first : (a b : Bool) → (a && b) ≡ true → a ≡ true
and_first true b e = refl
and_first false b e = e

pub and_second : (a b : Bool) → (a && b) ≡ true → b ≡ true
and_second true b e = e
and_second false b e = absurd_false e
  where
    absurd_false : false ≡ true → b ≡ true
    absurd_false q = cc

pub record Limits (f : List ℕ) : Type 0 where
  pub few_inputs : inputs_of f ≤ 1024
  pub few_gates : gates_of f ≤ 3072
  pub few_outputs : outputs_of f ≤ 256
  pub as_long : length f ≡ size (inputs_of f) (gates_of f) (outputs_of f)

pub limits : (f : List ℕ) → Clears (row_large f) → Clears (row_field f) → Limits f
unfolding tested
limits f c2 c3 = record {
  few_inputs = leb-true _ _ (not-false _ (or_first _ _ (c2 0 (omega arith))));
  few_gates = leb-true _ _ (not-false _ (or_first _ _ (c2 1 (omega arith))));
  few_outputs = leb-true _ _ (not-false _ (or_first _ _ (c2 2 (omega arith))));
  as_long =
      let e = not-false (eqb (le32 f 0) (size (inputs_of f) (gates_of f) (outputs_of f)) && eqb (length f) (le32 f 0)) (or_first _ _ (c3 0 (omega arith))) in
      eqb-true _ _ (and_second (eqb (le32 f 0) (size (inputs_of f) (gates_of f) (outputs_of f))) _ e)
      ∙ eqb-true _ _ (and_first _ (eqb (length f) (le32 f 0)) e);
}

deals_at_most : (k : Gate) → dealing k ≤ 1
unfolding dealing
deals_at_most (XOR i j) = omega arith
deals_at_most (AND i j) = omega arith
deals_at_most (OR i j) = omega arith
deals_at_most (NOT i) = omega arith

pub ands_most : (f : ℕ → Gate) (n : ℕ) → ands f n ≤ n
unfolding ands
ands_most f zero = omega arith
ands_most f (suc n) = let h = ands_most f n in let k = deals_at_most (f n) in omega arith

module _ (f : List ℕ) (l : Limits f) where
  pub small_file : length f ≤ 20000
  unfolding size
  small_file = let a = l.few_inputs in let b = l.few_gates in let c = l.few_outputs in let d = l.as_long in omega arith

  pub small_line : (F : Family) → line_want (circuit_with F f) ≤ 42496
  small_line F =
      let a = l.few_inputs in let b = l.few_gates in let c = l.few_outputs in
      let d = ands_most (circuit_with F f).gate (gates_of f) in omega arith
