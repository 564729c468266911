-- Behind the first word of a gate line: counts, wires, a word.
--     word_next             behind the wires: no word or more than one; else the gate
--     gate_by, gate_next    behind the first word: a count that is no number; else what is kept tells the line
-- Assumes nothing.
use mathlib.Core.Path.{◌≡◌, refl, sym, ◌∙◌}
use mathlib.Core.Bool.{Bool, true, false, not, cond, ◌&&◌, ◌||◌}
use mathlib.Core.List.{List, [], ◌∷◌}
use Prim.Native.Nat.{ℕ, zero, suc, ◌+◌}
use native.Mathlib.Omega.{arith}
use lib.ListN.{length, get_or}
use lib.Dec.{eqb}
use borrow.Author.Tests.{eqb-true}
use Rattle.std.proofs.Common.{Option, None, Some}
use Rattle.bristol_words.specs.Mirror.{told as num, word_of}
use Rattle.bristol_text.specs.Lines as text
use Rattle.bristol_words.specs.declared.Word.{Word}
use Rattle.bristol_text.specs.declared.Says.{Says}
use Rattle.bristol_text.specs.declared.Says.TheVariants.{Other}
use Rattle.bristol_text.specs.Told.{told}
use Rattle.bristol_lines.specs.Mirror.{gate_says, gate_after, gate_from, keeps, word_says}
use Rattle.bristol_lines.proofs.SeenLaws.{Seen, gone, seen}
use Rattle.bristol_lines.proofs.WiresLaws.{lasts_say, kept_says, rest_says, kept_said, Sized, sized}

-- of the two next words, whether there is one, and whether there is one more
pub word_next : (i o x y z : ℕ) (ws vs us : List (List ℕ)) (w v : List ℕ) (a b : Word) → Seen ws w vs a → Seen vs v us b
    → word_says i o x y z ws ≡ cond (eqb a.start a.end || not (eqb b.start b.end)) None (gate_says (word_of (text.gate_word w)) i o x y z)
unfolding word_says
word_next i o x y z ws vs us w v a b (gone e q _) n = rw (e, q)
word_next i o x y z ws vs us w v a b (seen e q _) (gone d p _) = rw (e, d, q, p)
word_next i o x y z ws vs us w v a b (seen e q _) (seen d p _) = rw (e, d, q, p)

-- three wires, and two, are the last ones
lasts_same : (f : ℕ → ℕ → ℕ → Option Says) (s : Option Says) → ((x y z : ℕ) → f x y z ≡ s) → (x y z : ℕ) (xs : List ℕ) → lasts_say f x y z xs ≡ s
unfolding lasts_say
lasts_same f s h x y z [] = h x y z
lasts_same f s h x y z (v ∷ vs) = lasts_same f s h y z v vs

lasts_three : (f : ℕ → ℕ → ℕ → Option Says) (xs : List ℕ) → length xs ≡ 3 → lasts_say f 0 0 0 xs ≡ f (get_or xs 0 0) (get_or xs 1 0) (get_or xs 2 0)
unfolding lasts_say
lasts_three f [] e = absurd (omega arith)
lasts_three f (a ∷ []) e = absurd (omega arith)
lasts_three f (a ∷ b ∷ []) e = absurd (omega arith)
lasts_three f (a ∷ b ∷ d ∷ []) e = refl
lasts_three f (a ∷ b ∷ d ∷ g ∷ xs) e = absurd (omega arith)

lasts_two : (f : ℕ → ℕ → ℕ → Option Says) (xs : List ℕ) → length xs ≡ 2 → lasts_say f 0 0 0 xs ≡ f 0 (get_or xs 0 0) (get_or xs 1 0)
unfolding lasts_say
lasts_two f [] e = absurd (omega arith)
lasts_two f (a ∷ []) e = absurd (omega arith)
lasts_two f (a ∷ b ∷ []) e = refl
lasts_two f (a ∷ b ∷ d ∷ xs) e = absurd (omega arith)

module _ (i o : ℕ) (xs : List ℕ) (h : length xs ≡ i + o) where
  -- a gate with two wires to read, and with one
  two : (g : ℕ → ℕ → ℕ → text.Line)
      → lasts_say (λ x y z. cond (eqb i 2 && eqb o 1) (told (g x y z)) None) 0 0 0 xs ≡ told (cond (eqb i 2 && eqb o 1) (g (get_or xs 0 0) (get_or xs 1 0) (get_or xs 2 0)) text.bad)
  unfolding told
  two g = go (eqb i 2) (eqb o 1) refl refl
    where
      go : (p q : Bool) → eqb i 2 ≡ p → eqb o 1 ≡ q
          → lasts_say (λ x y z. cond (p && q) (told (g x y z)) None) 0 0 0 xs ≡ told (cond (p && q) (g (get_or xs 0 0) (get_or xs 1 0) (get_or xs 2 0)) text.bad)
      go true true e f = let m : i ≡ 2 = eqb-true _ _ e in let n : o ≡ 1 = eqb-true _ _ f in lasts_three (λ x y z. told (g x y z)) xs (omega arith)
      go true false e f = lasts_same (λ x y z. None) None (λ x y z. refl) 0 0 0 xs
      go false q e f = lasts_same (λ x y z. None) None (λ x y z. refl) 0 0 0 xs

  one : (g : ℕ → ℕ → text.Line) → lasts_say (λ x y z. cond (eqb i 1 && eqb o 1) (told (g y z)) None) 0 0 0 xs ≡ told (cond (eqb i 1 && eqb o 1) (g (get_or xs 0 0) (get_or xs 1 0)) text.bad)
  unfolding told
  one g = go (eqb i 1) (eqb o 1) refl refl
    where
      go : (p q : Bool) → eqb i 1 ≡ p → eqb o 1 ≡ q → lasts_say (λ x y z. cond (p && q) (told (g y z)) None) 0 0 0 xs ≡ told (cond (p && q) (g (get_or xs 0 0) (get_or xs 1 0)) text.bad)
      go true true e f = let m : i ≡ 1 = eqb-true _ _ e in let n : o ≡ 1 = eqb-true _ _ f in lasts_two (λ x y z. told (g y z)) xs (omega arith)
      go true false e f = lasts_same (λ x y z. None) None (λ x y z. refl) 0 0 0 xs
      go false q e f = lasts_same (λ x y z. None) None (λ x y z. refl) 0 0 0 xs

  gate_same : (k : ℕ) → lasts_say (gate_says (word_of k) i o) 0 0 0 xs ≡ told (text.gate_with k i o xs)
  unfolding told text.gate_with gate_says word_of
  gate_same zero = lasts_same (gate_says None i o) (Some Other) (λ x y z. refl) 0 0 0 xs
  gate_same (suc zero) = two text.xor_gate
  gate_same (suc (suc zero)) = two text.and_gate
  gate_same (suc (suc (suc zero))) = one text.inv_gate
  gate_same (suc (suc (suc (suc k)))) = one text.eqw_gate

-- behind both counts
rest_said : (i o : ℕ) (r : text.Rest) → Sized (i + o) r → rest_says i o 0 0 0 r ≡ told (text.with_rest i o r)
unfolding rest_says told text.with_rest
rest_said i o text.no_rest h = refl
rest_said i o (text.wires_word xs w) h = gate_same i o xs h (text.gate_word w)

-- of two counts
unfoldable pub gate_by : ℕ → Option ℕ → Option ℕ → List (List ℕ) → Option Says
gate_by W None o ws = None
gate_by W (Some i) None ws = None
gate_by W (Some i) (Some o) ws = kept_says i o (keeps W (i + o) 0 0 0 ws)

counts_said : (W : ℕ) (i o : Option ℕ) (ws : List (List ℕ)) → told (text.with_counts W (num i) (num o) ws) ≡ gate_by W i o ws
unfolding text.with_counts told gate_by
counts_said W (Some i) (Some o) ws = sym (kept_said W _ _ _ 0 0 0 ws ∙ rest_said _ _ (text.rest W (i + o) ws) (sized W _ ws))
counts_said W (Some i) None ws = refl
counts_said W None o ws = refl

no_second : (W : ℕ) (i : Option ℕ) (ws : List (List ℕ)) → None ≡ gate_by W i None ws
unfolding gate_by
no_second W (Some i) ws = refl
no_second W None ws = refl

pub gate_next : (W : ℕ) (f a : Word) (ws vs : List (List ℕ)) (w : List ℕ) → Seen ws w vs a → gate_from W f ws ≡ gate_by W f.number a.number vs
unfolding gate_after
gate_next W f a ws vs w (gone e _ g) = rw (e, g) (no_second W f.number vs)
gate_next W f a ws vs w (seen e _ n) = rw (e, n) (counts_said W f.number a.number vs)
