-- The next word of a line, from the bytes behind the gaps.
--     next_word    the word at the first byte that is no gap is the next of the line
-- Assumes nothing.
use mathlib.Core.Path.{◌≡◌, refl, sym, ap, ◌∙◌}
use mathlib.Core.Bool.{Bool, true, false, ◌||◌}
use mathlib.Core.List.{List, [], ◌∷◌}
use Prim.Native.Nat.{ℕ, ◌+◌, ◌-◌, ◌≤◌, ◌<◌}
use native.Mathlib.Omega.{arith}
use lib.ListN.{length, take, drop, length-drop}
use lib.Seq.{drop-drop, take_all}
use Rattle.std.proofs.Common.{take_while}
use lib.Dec.{eqb}
use borrow.Author.Tests.{eqb-true, ne_eqb}
use Rattle.bristol_text.specs.Words.{is_lf, is_gap, words, number}
use Rattle.bristol_words.specs.declared.Word.{Word}
use Rattle.bristol_words.specs.Mirror.{lead, is_part, told_number, word_in, Next}
use Rattle.bristol_words.proofs.PartLaws.{while_lead, lead_le, line, line_words, gaps_words, gaps_length, part_words, part_length, none_line, none_words, lead_once}

apart : (b : ℕ) → is_gap b ≡ true → is_lf b ≡ false
apart b = go (eqb b 32) (eqb b 13) refl refl
  where
    go : (c d : Bool) → eqb b 32 ≡ c → eqb b 13 ≡ d → (c || d) ≡ true → eqb b 10 ≡ false
    go true d e f h = let n : b ≡ 32 = eqb-true _ _ e in ne_eqb b 10 (λ q. omega arith)
    go false true e f h = let n : b ≡ 13 = eqb-true _ _ f in ne_eqb b 10 (λ q. omega arith)
    go false false e f h = cc

abbrev left : List ℕ → List ℕ
left = line is_gap is_lf

abbrev left_words : List ℕ → List (List ℕ)
left_words = line_words is_gap is_lf

module _ (t : List ℕ) (at a e : ℕ) (h : at ≤ length t) (ha : a ≡ at + lead is_gap (drop at t)) (he : e ≡ a + lead is_part (drop a t)) where
  behind : drop a t ≡ drop (lead is_gap (drop at t)) (drop at t)
  behind = rw (ha, drop-drop)

  after : drop e t ≡ drop (lead is_part (drop a t)) (drop a t)
  after = rw (he, drop-drop)

  words_gap : left_words (drop at t) ≡ left_words (drop a t)
  words_gap = gaps_words is_gap is_lf apart (drop at t) ∙ ap left_words (sym behind)

  length_gap : length (left (drop at t)) ≡ lead is_gap (drop at t) + length (left (drop a t))
  length_gap = rw behind (gaps_length is_gap is_lf apart (drop at t))

  length_part : length (left (drop a t)) ≡ lead is_part (drop a t) + length (left (drop e t))
  length_part = rw after (part_length is_gap is_lf (drop a t))

  no_gap : lead is_gap (drop a t) ≡ 0
  no_gap = rw behind (lead_once is_gap is_lf (drop at t))

  inside : e ≤ length t
  inside = omega (arith, lead_le is_gap (drop at t), lead_le is_part (drop a t), length-drop at t, length-drop a t)

  ends : e + length (left (drop e t)) ≡ at + length (left (drop at t))
  ends = omega (arith, length_gap, length_part)

  last : a ≡ e → left_words (drop at t) ≡ []
  last q = words_gap ∙ none_words is_gap is_lf (drop a t) no_gap (omega arith)

  last_end : a ≡ e → e ≡ at + length (left (drop at t))
  last_end q = omega (arith, length_gap, ap length (none_line is_gap is_lf (drop a t) no_gap (omega arith)))

  more : a < e → left_words (drop at t) ≡ take (e - a) (drop a t) ∷ left_words (drop e t)
  more q =
      let n : e - a ≡ lead is_part (drop a t) = omega arith in
      words_gap ∙ rw (n, after) (part_words is_gap is_lf (drop a t) (omega arith))

-- the bytes from a place on, as a part of the slice that ends with it
whole : (t : List ℕ) (at : ℕ) → take (length t - at) (drop at t) ≡ drop at t
whole t at = take_all (length t - at) (drop at t) (omega (arith, length-drop at t))

pub lead_part : (p : ℕ → Bool) (t : List ℕ) (at n : ℕ) → n ≡ length (take_while p (take (length t - at) (drop at t))) → n ≡ lead p (drop at t)
lead_part p t at n h = h ∙ ap (λ s. length (take_while p s)) (whole t at) ∙ while_lead p (drop at t)

pub next_word : (t : List ℕ) (at : ℕ) (r : Word) → at ≤ length t → r.start ≡ at + lead is_gap (drop at t) → r.end ≡ r.start + lead is_part (drop r.start t)
    → told_number r ≡ number (word_in t r) → Next t at r
unfolding line line_words words
next_word t at r h s e n = record {
  above = omega (arith, s);
  order = omega (arith, e);
  inside = inside t at r.start r.end h s e;
  line = ends t at r.start r.end h s e;
  number = n;
  last = λ q. (last t at r.start r.end h s e q, last_end t at r.start r.end h s e q);
  more = λ q. more t at r.start r.end h s e q;
}
