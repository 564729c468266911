-- A list of bytes, by the bytes in front: p tells a gap, q the end of a line.
--     while_lead                    the bytes in front that have p, counted
--     lead_le                       so many bytes there are
--     split_at, split_in, split_none    a first byte that parts, one that does not, none
--     line, line_words              what is left of the line, and its words
--     gaps_words, gaps_length       gaps in front change no words, and are part of the line
--     part_words, part_length       a part in front is the first word
--     none_line, none_words         no gap and no part in front: nothing is left of the line
--     lead_once                     behind the gaps there is none
-- Assumes nothing.
use mathlib.Core.Path.{◌≡◌, refl, ap, ◌∙◌}
use mathlib.Core.Bool.{Bool, true, false, not, cond, ◌||◌}
use mathlib.Core.List.{List, [], ◌∷◌}
use Prim.Native.Nat.{ℕ, zero, suc, ◌+◌, ◌≤◌, ◌<◌}
use native.Mathlib.Omega.{arith}
use lib.ListN.{length, take, drop}
use Rattle.std.proofs.Common.{take_while}
use Rattle.std.proofs.lemmas.List.Sums.{take_while-cons}
use Rattle.bristol_text.specs.Words.{split, not_empty}
use Rattle.bristol_words.specs.Mirror.{lead}

module _ (p : ℕ → Bool) where
  pub lead_le : (s : List ℕ) → lead p s ≤ length s
  unfolding lead
  lead_le [] = omega arith
  lead_le (b ∷ s) = go (p b) (lead_le s)
    where
      go : (c : Bool) → lead p s ≤ length s → cond c (suc (lead p s)) 0 ≤ suc (length s)
      go true h = omega arith
      go false h = omega arith

  pub while_lead : (s : List ℕ) → length (take_while p s) ≡ lead p s
  unfolding lead
  while_lead [] = refl
  while_lead (b ∷ s) = ap length (take_while-cons p b s) ∙ go (p b) (while_lead s)
    where
      go : (c : Bool) → length (take_while p s) ≡ lead p s → length (cond c (b ∷ take_while p s) []) ≡ cond c (suc (lead p s)) 0
      go true h = ap suc h
      go false h = refl

  -- a first byte that parts, and one that does not
  pub split_at : (b : ℕ) (s : List ℕ) → p b ≡ true → split p (b ∷ s) ≡ record { head = []; more = (split p s).head ∷ (split p s).more }
  unfolding split
  split_at b s e = ap (λ c. cond c (record { head = []; more = (split p s).head ∷ (split p s).more }) (record { head = b ∷ (split p s).head; more = (split p s).more })) e

  pub split_in : (b : ℕ) (s : List ℕ) → p b ≡ false → split p (b ∷ s) ≡ record { head = b ∷ (split p s).head; more = (split p s).more }
  unfolding split
  split_in b s e = ap (λ c. cond c (record { head = []; more = (split p s).head ∷ (split p s).more }) (record { head = b ∷ (split p s).head; more = (split p s).more })) e

  pub split_none : split p [] ≡ record { head = []; more = [] }
  unfolding split
  split_none = refl

module _ (p q : ℕ → Bool) where
  abbrev pub part : ℕ → Bool
  part b = not (p b || q b)

  -- what is left of the line, and its words
  unfoldable pub line : List ℕ → List ℕ
  line s = (split q s).head

  unfoldable pub line_words : List ℕ → List (List ℕ)
  line_words s = not_empty ((split p (line s)).head ∷ (split p (line s)).more)

  opened : (s : List ℕ) → line_words s ≡ not_empty ((split p (line s)).head ∷ (split p (line s)).more)
  unfolding line_words
  opened s = refl

  line_none : line [] ≡ []
  unfolding line split
  line_none = refl

  line_at : (b : ℕ) (s : List ℕ) → q b ≡ true → line (b ∷ s) ≡ []
  unfolding line
  line_at b s e = ap (λ r. r.head) (split_at q b s e)

  line_in : (b : ℕ) (s : List ℕ) → q b ≡ false → line (b ∷ s) ≡ b ∷ line s
  unfolding line
  line_in b s e = ap (λ r. r.head) (split_in q b s e)

  module _ (apart : (b : ℕ) → p b ≡ true → q b ≡ false) where
    gap_words : (b : ℕ) (s : List ℕ) → p b ≡ true → line_words (b ∷ s) ≡ line_words s
    unfolding not_empty
    gap_words b s e = rw (opened (b ∷ s), line_in b s (apart b e), split_at p b (line s) e, opened s)

    pub gaps_words : (s : List ℕ) → line_words s ≡ line_words (drop (lead p s) s)
    unfolding lead
    gaps_words [] = refl
    gaps_words (b ∷ s) = go (p b) refl (gaps_words s)
      where
        go : (c : Bool) → p b ≡ c → line_words s ≡ line_words (drop (lead p s) s) → line_words (b ∷ s) ≡ line_words (drop (cond (p b) (suc (lead p s)) 0) (b ∷ s))
        go true e ih = rw e (gap_words b s e ∙ ih)
        go false e ih = rw e

    pub gaps_length : (s : List ℕ) → length (line s) ≡ lead p s + length (line (drop (lead p s) s))
    unfolding lead
    gaps_length [] = omega arith
    gaps_length (b ∷ s) = go (p b) refl (gaps_length s)
      where
        go : (c : Bool) → p b ≡ c → length (line s) ≡ lead p s + length (line (drop (lead p s) s))
            → length (line (b ∷ s)) ≡ cond (p b) (suc (lead p s)) 0 + length (line (drop (cond (p b) (suc (lead p s)) 0) (b ∷ s)))
        go true e ih = rw (e, line_in b s (apart b e)) (omega arith)
        go false e ih = rw e (omega arith)

  pub part_length : (s : List ℕ) → length (line s) ≡ lead part s + length (line (drop (lead part s) s))
  unfolding lead
  part_length [] = omega arith
  part_length (b ∷ s) = go (p b) (q b) refl refl (part_length s)
    where
      go : (c d : Bool) → p b ≡ c → q b ≡ d → length (line s) ≡ lead part s + length (line (drop (lead part s) s))
          → length (line (b ∷ s)) ≡ lead part (b ∷ s) + length (line (drop (lead part (b ∷ s)) (b ∷ s)))
      go true d e f ih = rw e (omega arith)
      go false true e f ih = rw (e, f) (omega arith)
      go false false e f ih = rw (e, f, line_in b s f) (omega arith)

  -- the first of the parts between gaps, and what is behind it
  record Front (s : List ℕ) : Type 0 where
    first : (split p (line s)).head ≡ take (lead part s) s
    none : (split p (line (drop (lead part s) s))).head ≡ []
    more : (split p (line s)).more ≡ (split p (line (drop (lead part s) s))).more

  front : (s : List ℕ) → Front s
  unfolding lead
  front [] = record { first = rw (line_none, split_none p); none = rw (line_none, split_none p); more = refl }
  front (b ∷ s) = go (p b) (q b) refl refl (front s)
    where
      go : (c d : Bool) → p b ≡ c → q b ≡ d → Front s → Front (b ∷ s)
      go true true e f r = let h = line_at b s f in record { first = rw (e, h, split_none p); none = rw (e, h, split_none p); more = rw e }
      go true false e f r = let h = line_in b s f in record { first = rw (e, h, split_at p b (line s) e); none = rw (e, h, split_at p b (line s) e); more = rw e }
      go false true e f r = let h = line_at b s f in record { first = rw (e, f, h, split_none p); none = rw (e, f, h, split_none p); more = rw (e, f) }
      go false false e f r =
          let h = line_in b s f in
          let i = split_in p b (line s) e in
          record { first = rw (e, f, h, i) (ap (λ l. b ∷ l) r.first); none = rw (e, f) r.none; more = rw (e, f, h, i) r.more }

  -- a first part that is not empty is a word
  some_word : (s : List ℕ) (n : ℕ) (m : List (List ℕ)) → 0 < n → n ≤ length s → not_empty (take n s ∷ m) ≡ take n s ∷ not_empty ([] ∷ m)
  unfolding not_empty
  some_word s zero m h i = absurd (omega arith)
  some_word [] (suc n) m h i = absurd (omega arith)
  some_word (b ∷ s) (suc n) m h i = refl

  pub part_words : (s : List ℕ) → 0 < lead part s → line_words s ≡ take (lead part s) s ∷ line_words (drop (lead part s) s)
  part_words s h =
      let r = front s in
      rw (opened s, opened (drop (lead part s) s), r.first, r.more, r.none) (some_word s (lead part s) (split p (line (drop (lead part s) s))).more h (lead_le part s))

  -- behind gaps: where there is no part either, the line ends
  pub none_line : (s : List ℕ) → lead p s ≡ 0 → lead part s ≡ 0 → line s ≡ []
  unfolding lead
  none_line [] g h = line_none
  none_line (b ∷ s) g h = go (p b) (q b) refl refl g h
    where
      go : (c d : Bool) → p b ≡ c → q b ≡ d → cond c (suc (lead p s)) 0 ≡ 0 → cond (not (c || d)) (suc (lead part s)) 0 ≡ 0 → line (b ∷ s) ≡ []
      go true d e f g h = absurd (omega arith)
      go false true e f g h = line_at b s f
      go false false e f g h = absurd (omega arith)

  pub none_words : (s : List ℕ) → lead p s ≡ 0 → lead part s ≡ 0 → line_words s ≡ []
  unfolding not_empty
  none_words s g h = rw (opened s, none_line s g h, split_none p)

  -- gaps are dropped but once
  pub lead_once : (s : List ℕ) → lead p (drop (lead p s) s) ≡ 0
  unfolding lead
  lead_once [] = refl
  lead_once (b ∷ s) = go (p b) refl (lead_once s)
    where
      go : (c : Bool) → p b ≡ c → lead p (drop (lead p s) s) ≡ 0 → lead p (drop (lead p (b ∷ s)) (b ∷ s)) ≡ 0
      go true e ih = rw e ih
      go false e ih = rw (e, e)
