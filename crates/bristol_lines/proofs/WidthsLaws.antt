-- The line of widths, by the sums.
--     sums_none, sums_large, sums_go    a width more: it is no number or the sum is too large; else it is added
--     widths_said           the line by the sums, behind a first word that is a number
--     widths_none           behind one that is none
-- Assumes nothing.
use mathlib.Core.Path.{◌≡◌, refl, sym, ap, ◌∙◌}
use mathlib.Core.Bool.{Bool, true, false, cond, ◌&&◌}
use mathlib.Core.List.{List, [], ◌∷◌}
use Prim.Native.Nat.{ℕ, zero, suc, ◌+◌, ◌≤◌, ◌<◌}
use native.Mathlib.Omega.{arith}
use lib.ListN.{length}
use lib.Dec.{leb, eqb, eqb-suc-suc}
use borrow.Author.Tests.{le-leb, lt-leb, leb-true, leb-false, eqb-true, ne_eqb}
use Rattle.std.proofs.Common.{Option, None, Some}
use Rattle.bristol_text.specs.Words.{Number, is, none, number}
use Rattle.bristol_text.specs.Lines.{bad, widths, Numbers, are, broken, with_number, numbers, widths_line, total}
use Rattle.bristol_words.specs.declared.Word.{Word}
use Rattle.bristol_words.specs.Mirror.{told_number}
use Rattle.bristol_text.specs.declared.Says.{Says}
use Rattle.bristol_text.specs.declared.Says.TheVariants.{Widths}
use Rattle.bristol_text.specs.Told.{told}
use Rattle.bristol_lines.specs.Mirror.{widths_from, Left, left, none_left, sum_number, sums}
use Rattle.bristol_lines.proofs.SeenLaws.{Seen, gone, seen}

module _ (W n s : ℕ) (ws vs : List (List ℕ)) (w : List ℕ) (r : Word) (h : Seen ws w vs r) where
  sums_next : sums W (suc n) s ws ≡ sum_number W s (told_number r) (λ t. sums W n t vs)
  unfolding sums sum_number
  sums_next = go h
    where
      go : Seen ws w vs r → sums W (suc n) s ws ≡ sum_number W s (told_number r) (λ t. sums W n t vs)
      go (gone e _ g) = rw (e, g)
      go (seen e _ g) = rw (e, g)

  pub sums_none : r.number ≡ None → sums W (suc n) s ws ≡ none_left
  unfolding sum_number
  sums_none e = sums_next ∙ rw e

  pub sums_large : (x : ℕ) → r.number ≡ Some x → W < s + x → sums W (suc n) s ws ≡ none_left
  unfolding sum_number
  sums_large x e l = sums_next ∙ rw (e, lt-leb (s + x) W l)

  pub sums_go : (x : ℕ) → r.number ≡ Some x → s + x ≤ W → sums W (suc n) s ws ≡ sums W n (s + x) vs
  unfolding sum_number
  sums_go x e l = sums_next ∙ rw (e, le-leb (s + x) W l)

-- what is said where v widths were announced
unfoldable pub sum_says : ℕ → Left → Option Says
sum_says v none_left = None
sum_says v (left s []) = Some (Widths v s)
sum_says v (left s (w ∷ ws)) = None

-- n widths more, with the sum s so far
unfoldable more_says : ℕ → ℕ → ℕ → ℕ → Numbers → Option Says
more_says W v n s broken = None
more_says W v n s (are xs) = cond (eqb (length xs) n && leb (s + total xs) W) (Some (Widths v (s + total xs))) None

module _ (W v : ℕ) where
  -- none are to come
  none_more : (s : ℕ) (w : Number) (ns : Numbers) → None ≡ more_says W v 0 s (with_number w ns)
  unfolding more_says with_number
  none_more s none ns = refl
  none_more s (is x) broken = refl
  none_more s (is x) (are xs) = rw (ne_eqb (suc (length xs)) 0 (λ q. omega arith))

  -- one more
  one_more : (n s : ℕ) (w : Number) (ns : Numbers) (go : ℕ → Left) → ((x : ℕ) → s + x ≤ W → sum_says v (go (s + x)) ≡ more_says W v n (s + x) ns)
      → sum_says v (sum_number W s w go) ≡ more_says W v (suc n) s (with_number w ns)
  unfolding more_says with_number sum_number sum_says total
  one_more n s none ns go ih = refl
  one_more n s (is x) ns go ih = at (leb (s + x) W) refl ns (ih x)
    where
      at : (p : Bool) → leb (s + x) W ≡ p → (ns : Numbers) → (s + x ≤ W → sum_says v (go (s + x)) ≡ more_says W v n (s + x) ns)
          → sum_says v (cond p (go (s + x)) none_left) ≡ more_says W v (suc n) s (with_number (is x) ns)
      at true e broken ih = ih (leb-true _ _ e)
      at true e (are xs) ih =
          let a : s + (x + total xs) ≡ (s + x) + total xs = omega arith in
          rw (eqb-suc-suc (length xs) n, a) (ih (leb-true _ _ e))
      at false e broken ih = refl
      at false e (are xs) ih =
          let a : leb (s + (x + total xs)) W ≡ false = lt-leb (s + (x + total xs)) W (omega (arith, leb-false (s + x) W e)) in
          rw a (no (eqb (suc (length xs)) (suc n)) (Some (Widths v (s + (x + total xs)))))
        where
          no : (p : Bool) (m : Option Says) → None ≡ cond (p && false) m None
          no true m = refl
          no false m = refl

  sums_say : (n s : ℕ) (ws : List (List ℕ)) → s ≤ W → sum_says v (sums W n s ws) ≡ more_says W v n s (numbers ws)
  unfolding sums numbers sum_says more_says total
  sums_say zero s [] h = let z : s + 0 ≡ s = omega arith in rw (z, le-leb s W h)
  sums_say zero s (w ∷ ws) h = none_more s (number w) (numbers ws)
  sums_say (suc n) s [] h = rw (ne_eqb 0 (suc n) (λ q. omega arith))
  sums_say (suc n) s (w ∷ ws) h = one_more n s (number w) (numbers ws) (λ t. sums W n t ws) (λ x l. sums_say n (s + x) ws l)

  widths_all : (ns : Numbers) → told (widths_line W (with_number (is v) ns)) ≡ more_says W v v 0 ns
  unfolding told widths_line with_number more_says
  widths_all broken = refl
  widths_all (are xs) =
      let z : 0 + total xs ≡ total xs = omega arith in
      rw z (go (eqb (length xs) v) (leb (total xs) W) refl)
    where
      go : (p q : Bool) → eqb (length xs) v ≡ p → told (cond (p && q) (widths xs) bad) ≡ cond (p && q) (Some (Widths v (total xs))) None
      go true true e = ap (λ n. Some (Widths n (total xs))) (eqb-true _ _ e)
      go true false e = refl
      go false q e = refl

  pub widths_said : (f : Word) (ws : List (List ℕ)) → f.number ≡ Some v → widths_from W f ws ≡ sum_says v (sums W v 0 ws)
  widths_said f ws e = rw e (widths_all (numbers ws) ∙ sym (sums_say v 0 ws (omega arith)))

pub widths_none : (W : ℕ) (f : Word) (ws : List (List ℕ)) → f.number ≡ None → widths_from W f ws ≡ None
unfolding told widths_line with_number
widths_none W f ws g = rw g
