-- The wires of a gate line: the last three are kept.
--     keeps_none, keeps_large, keeps_go    a wire more: it is no number or is too large; else it is kept
--     kept_said               the line by what is kept: lasts_say, kept_says, rest_says
--     Sized, sized            as many wires as were asked for
-- Assumes nothing.
use mathlib.Core.Path.{◌≡◌, refl, ap, ◌∙◌}
use mathlib.Core.Bool.{Bool, true, false, cond}
use mathlib.Core.List.{List, [], ◌∷◌}
use Prim.Native.Nat.{ℕ, zero, suc, ◌≤◌, ◌<◌}
use lib.ListN.{length}
use lib.Dec.{ltb}
use borrow.Author.Tests.{le-ltb, lt-ltb}
use Rattle.std.proofs.Common.{Option, None, Some}
use Rattle.bristol_text.specs.Words.{Number, is, none, number}
use Rattle.bristol_text.specs.Lines.{Rest, wires_word, no_rest, with_wire, rest, gate_word}
use Rattle.bristol_words.specs.declared.Word.{Word}
use Rattle.bristol_words.specs.Mirror.{told_number, word_of}
use Rattle.bristol_text.specs.declared.Says.{Says}
use Rattle.bristol_lines.specs.Mirror.{gate_says, Kept, kept, none_kept, keep_number, keeps, word_says}
use Rattle.bristol_lines.proofs.SeenLaws.{Seen, gone, seen}

module _ (W n x y z : ℕ) (ws vs : List (List ℕ)) (w : List ℕ) (r : Word) (h : Seen ws w vs r) where
  keeps_next : keeps W (suc n) x y z ws ≡ keep_number W (told_number r) (λ t. keeps W n y z t vs)
  unfolding keeps keep_number
  keeps_next = go h
    where
      go : Seen ws w vs r → keeps W (suc n) x y z ws ≡ keep_number W (told_number r) (λ t. keeps W n y z t vs)
      go (gone e _ g) = rw (e, g)
      go (seen e _ g) = rw (e, g)

  pub keeps_none : r.number ≡ None → keeps W (suc n) x y z ws ≡ none_kept
  unfolding keep_number
  keeps_none e = keeps_next ∙ rw e

  pub keeps_large : (v : ℕ) → r.number ≡ Some v → W ≤ v → keeps W (suc n) x y z ws ≡ none_kept
  unfolding keep_number
  keeps_large v e l = keeps_next ∙ rw (e, le-ltb v W l)

  pub keeps_go : (v : ℕ) → r.number ≡ Some v → v < W → keeps W (suc n) x y z ws ≡ keeps W n y z v vs
  unfolding keep_number
  keeps_go v e l = keeps_next ∙ rw (e, lt-ltb v W l)

-- the last three of x, y, z and what follows
unfoldable pub lasts_say : (ℕ → ℕ → ℕ → Option Says) → ℕ → ℕ → ℕ → List ℕ → Option Says
lasts_say f x y z [] = f x y z
lasts_say f x y z (v ∷ vs) = lasts_say f y z v vs

-- what is said behind the wires
unfoldable pub kept_says : ℕ → ℕ → Kept → Option Says
kept_says i o none_kept = None
kept_says i o (kept x y z ws) = word_says i o x y z ws

unfoldable pub rest_says : ℕ → ℕ → ℕ → ℕ → ℕ → Rest → Option Says
rest_says i o x y z no_rest = None
rest_says i o x y z (wires_word xs w) = lasts_say (gate_says (word_of (gate_word w)) i o) x y z xs

module _ (W i o : ℕ) where
  one_wire : (x y z : ℕ) (w : Number) (r : Rest) (go : ℕ → Kept) → ((v : ℕ) → kept_says i o (go v) ≡ rest_says i o y z v r)
      → kept_says i o (keep_number W w go) ≡ rest_says i o x y z (with_wire W w r)
  unfolding kept_says rest_says keep_number with_wire lasts_say
  one_wire x y z none r go ih = refl
  one_wire x y z (is v) no_rest go ih = at (ltb v W)
    where
      at : (p : Bool) → kept_says i o (cond p (go v) none_kept) ≡ None
      at true = ih v
      at false = refl
  one_wire x y z (is v) (wires_word xs w) go ih = at (ltb v W)
    where
      at : (p : Bool) → kept_says i o (cond p (go v) none_kept) ≡ rest_says i o x y z (cond p (wires_word (v ∷ xs) w) no_rest)
      at true = ih v
      at false = refl

  pub kept_said : (n x y z : ℕ) (ws : List (List ℕ)) → kept_says i o (keeps W n x y z ws) ≡ rest_says i o x y z (rest W n ws)
  unfolding keeps rest kept_says rest_says word_says lasts_say
  kept_said zero x y z [] = refl
  kept_said zero x y z (w ∷ []) = refl
  kept_said zero x y z (w ∷ v ∷ ws) = refl
  kept_said (suc n) x y z [] = refl
  kept_said (suc n) x y z (w ∷ ws) = one_wire x y z (number w) (rest W n ws) (λ v. keeps W n y z v ws) (λ v. kept_said n y z v ws)

-- as many wires as were asked for
abbrev pub Sized : ℕ → Rest → Type 0
Sized n no_rest = Unit {0}
Sized n (wires_word xs w) = length xs ≡ n

pub sized : (W n : ℕ) (ws : List (List ℕ)) → Sized n (rest W n ws)
unfolding rest with_wire
sized W zero [] = tt
sized W (suc n) [] = tt
sized W zero (w ∷ []) = refl
sized W zero (w ∷ v ∷ ws) = tt
sized W (suc n) (w ∷ ws) = go (number w) (rest W n ws) (sized W n ws)
  where
    at : (v : ℕ) (xs u : List ℕ) → length xs ≡ n → (p : Bool) → Sized (suc n) (cond p (wires_word (v ∷ xs) u) no_rest)
    at v xs u h true = ap suc h
    at v xs u h false = tt

    go : (m : Number) (r : Rest) → Sized n r → Sized (suc n) (with_wire W m r)
    go none r h = tt
    go (is v) no_rest h = tt
    go (is v) (wires_word xs u) h = at v xs u h (ltb v W)
