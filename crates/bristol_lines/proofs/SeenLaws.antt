-- What the next word tells of the words that are left: there is none, or it is the first.
--     Seen, seen_next    ws are left, w is the next of them and vs are behind it, as r says
--     none_from          a line that is no good text
-- Assumes nothing.
use mathlib.Core.Path.{◌≡◌, refl, sym}
use mathlib.Core.Bool.{Bool, true, false}
use mathlib.Core.List.{List, [], ◌∷◌}
use Prim.Native.Nat.{ℕ, ◌-◌}
use native.Mathlib.Omega.{arith}
use lib.Dec.{eqb}
use borrow.Author.Tests.{eqb-true, eqb-false}
use Rattle.std.proofs.Common.{Option, None, Some}
use Rattle.bristol_text.specs.Words.{none, number}
use Rattle.bristol_words.specs.declared.Word.{Word}
use Rattle.bristol_words.specs.Mirror.{words_at, word_in, told as num, told_number, Next}
use Rattle.bristol_text.specs.declared.Says.{Says}
use Rattle.bristol_lines.specs.declared.Line.{Line}
use Rattle.bristol_lines.specs.Mirror.{LineFrom}

pub data Seen (ws : List (List ℕ)) (w : List ℕ) (vs : List (List ℕ)) (r : Word) : Type 0 where
  gone : ws ≡ [] → eqb r.start r.end ≡ true → r.number ≡ None → Seen ws w vs r
  seen : ws ≡ w ∷ vs → eqb r.start r.end ≡ false → number w ≡ told_number r → Seen ws w vs r

-- nothing is no number
no_number : (t : List ℕ) (r : Word) → r.start ≡ r.end → told_number r ≡ number (word_in t r) → r.number ≡ None
unfolding number
no_number t r e h =
    let z : r.end - r.start ≡ 0 = omega arith in
    go r.number (rw z at h)
  where
    go : (n : Option ℕ) → num n ≡ none → n ≡ None
    go (Some v) q = cc
    go None q = refl

pub seen_next : (t : List ℕ) (at : ℕ) (r : Word) → Next t at r → Seen (words_at t at) (word_in t r) (words_at t r.end) r
seen_next t at r h = go (eqb r.start r.end) refl
  where
    go : (p : Bool) → eqb r.start r.end ≡ p → Seen (words_at t at) (word_in t r) (words_at t r.end) r
    go true e = let q : r.start ≡ r.end = eqb-true _ _ e in gone (h.last q).0 e (no_number t r q h.number)
    go false e =
        let q : r.start ≡ r.end → ⊥ = eqb-false _ _ e in
        seen (h.more (omega (arith, h.order))) e (sym h.number)

pub none_from : (t : List ℕ) (at : ℕ) (s : Option Says) (r : Option Line) → r ≡ None → s ≡ None → LineFrom t at s r
none_from t at s r e h = rw e (record { says = sym h; ends = tt })
