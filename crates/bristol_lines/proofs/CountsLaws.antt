-- The line of counts, by the next two words.
--     counted, counts_said
-- Assumes nothing.
use mathlib.Core.Path.{◌≡◌, refl}
use mathlib.Core.Bool.{Bool, true, false, not, cond, ◌||◌}
use mathlib.Core.List.{List, []}
use Prim.Native.Nat.{ℕ}
use lib.Dec.{leb, ltb, eqb}
use borrow.Author.Tests.{le-ltb, lt-ltb, leb-true, leb-false}
use Rattle.std.proofs.Common.{Option, None, Some}
use Rattle.bristol_text.specs.Lines.{bad, counts, Numbers, are, broken, with_number, numbers, counts_line}
use Rattle.bristol_words.specs.declared.Word.{Word}
use Rattle.bristol_words.specs.Mirror.{told as num}
use Rattle.bristol_text.specs.declared.Says.{Says}
use Rattle.bristol_text.specs.declared.Says.TheVariants.{Counts}
use Rattle.bristol_text.specs.Told.{told}
use Rattle.bristol_lines.specs.Mirror.{counts_from}
use Rattle.bristol_lines.proofs.SeenLaws.{Seen, gone, seen}

-- of two words, and whether nothing is behind them
abbrev pub counted : Option ℕ → Option ℕ → Bool → Option Says
counted None w e = None
counted (Some g) None e = None
counted (Some g) (Some w) e = cond (not e || ltb 8192 w) None (Some (Counts g w))

abbrev says : Option ℕ → Numbers → Option Says
says f ns = told (counts_line (with_number (num f) ns))

-- one word: nothing behind the first
one_bad : (f : Option ℕ) (e : Bool) → says f (are []) ≡ counted f None e
unfolding told counts_line with_number
one_bad (Some x) e = refl
one_bad None e = refl

two_said : (f g : Option ℕ) → says f (with_number (num g) (are [])) ≡ counted f g true
unfolding told counts_line with_number
two_said (Some x) (Some y) = go (leb y 8192) refl
  where
    go : (p : Bool) → leb y 8192 ≡ p → told (cond p (counts x y) bad) ≡ cond (ltb 8192 y) None (Some (Counts x y))
    go true e = rw (le-ltb 8192 y (leb-true _ _ e))
    go false e = rw (lt-ltb 8192 y (leb-false _ _ e))
two_said (Some x) None = refl
two_said None (Some y) = refl
two_said None None = refl

more_bad : (f g h : Option ℕ) (ns : Numbers) → says f (with_number (num g) (with_number (num h) ns)) ≡ counted f g false
unfolding told counts_line with_number
more_bad (Some x) (Some y) (Some z) (are xs) = refl
more_bad (Some x) (Some y) (Some z) broken = refl
more_bad (Some x) (Some y) None ns = refl
more_bad (Some x) None h ns = refl
more_bad None g h ns = refl

pub counts_said : (ws vs us : List (List ℕ)) (w v : List ℕ) (f a b : Word) → Seen ws w vs a → Seen vs v us b
    → counts_from f ws ≡ counted f.number a.number (eqb b.start b.end)
unfolding numbers
counts_said ws vs us w v f a b (gone e _ g) n = rw (e, g) (one_bad f.number _)
counts_said ws vs us w v f a b (seen e _ g) (gone d h _) = rw (e, d, g, h) (two_said f.number a.number)
counts_said ws vs us w v f a b (seen e _ g) (seen d h m) = rw (e, d, g, m, h) (more_bad f.number a.number b.number (numbers us))
