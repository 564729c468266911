-- What holds of the listing's lines.
--     good_lines                                 theory_calls' good_text is lines_of, by the circuit's numbers
--     line_length, counts_length, head_length    their lengths
--     line_refused, line_out, lines_room, head_room    the room that is enough;  refused_put: by a refusal's number and place
--     PutItem                                    a word with its number, written
--     item_made, line_put, counts_put, head_put, good_put    each writer's answer from those of its calls
--     lines_none, lines_turn, lines_end          the loop over outputs
-- Assumes nothing.
use mathlib.Core.Path.{◌≡◌, refl, sym}
use mathlib.Core.List.{List, ◌++◌, append_assoc}
use Prim.Native.Nat.{ℕ, ◌+◌, ◌*◌, ◌^◌, ◌<◌, ◌≤◌}
use native.Mathlib.Nat.{le_antisymm, add-zero}
use native.Mathlib.Numerals.{add-one}
use native.Mathlib.Omega.{arith}
use lib.ListN.{length, length-append}
use Rattle.theory_sharing.specs.Circuit.{Circuit}
use Rattle.theory_sharing.specs.Traffic.{table_total}
use Rattle.theory_calls.specs.Listing.{decimal, word_inputs, word_gates, word_outputs, word_bits, word_out, word_end, word_refused, space, LF, out_lines, refused_text, good_text}
use Rattle.theory_calls.proofs.Digits.{decimal_length, digits_few, lines_length, line_out as out_short}
use Rattle.file_writer.specs.Mirror.{write}
use Rattle.listing_text.specs.Mirror.{line_of, counts_of, head_of, lines_of, shown_of, OneDigit}
use Rattle.file_writer.proofs.WriteLaws.{write_none, Put, Filled, put_filled, filled_put, put_put}

pub good_lines : (C : Circuit) (shown : ℕ → ℕ) → good_text C shown ≡ lines_of C.ins C.gates C.outs (table_total C) shown
unfolding good_text lines_of head_of counts_of
good_lines C shown = refl

-- from place at on a word and its number were written into l, which made it m; r is the place after
abbrev pub PutItem : ℕ → List ℕ → ℕ → List ℕ → List ℕ → ℕ → Type 0
PutItem at w n l m r = (m ≡ write at (w ++ decimal n) l) × (r ≡ at + length w + length (decimal n))

-- a word with its number: made, taken for one piece, and put after another
pub item_made : (at : ℕ) (w : List ℕ) (n : ℕ) (l m k : List ℕ) (r s : ℕ) → Put at w l m r → Put r (decimal n) m k s → PutItem at w n l k s
item_made at w n l m k r s p q = let e = p.1 in let f = q.1 in ((put_put at w (decimal n) l m k r s p q).0, omega arith)

pub item_put : (at : ℕ) (w : List ℕ) (n : ℕ) (l m : List ℕ) (r : ℕ) → PutItem at w n l m r → Put at (w ++ decimal n) l m r
item_put at w n l m r p = let e = p.1 in let k = length-append w (decimal n) in (p.0, omega arith)

pub item_after : (at : ℕ) (a w : List ℕ) (n : ℕ) (l m k : List ℕ) (r s : ℕ) → Put at a l m r → PutItem r w n m k s → Put at (a ++ w ++ decimal n) l k s
item_after at a w n l m k r s p q = rw append_assoc (put_put at a (w ++ decimal n) l m k r s p (item_put r w n m k s q))

pub line_put : (at : ℕ) (w : List ℕ) (n p : ℕ) (l m k h : List ℕ) (r s t : ℕ)
    → PutItem at w n l m r → PutItem r space p m k s → Put s LF k h t → Put at (line_of w n p) l h t
unfolding line_of
line_put at w n p l m k h r s t a b c =
    put_put at (w ++ decimal n ++ space ++ decimal p) LF l k h s t (item_after at (w ++ decimal n) space p l m k r s (item_put at w n l m r a) b) c

pub counts_put : (i g o : ℕ) (l m k h : List ℕ) (r s t : ℕ)
    → PutItem 0 word_inputs i l m r → PutItem r word_gates g m k s → PutItem s word_outputs o k h t → Filled (counts_of i g o) l h t
unfolding counts_of
counts_put i g o l m k h r s t a b c =
    let two = item_after 0 (word_inputs ++ decimal i) word_gates g l m k r s (item_put 0 word_inputs i l m r a) b in
    put_filled _ l h t (item_after 0 (word_inputs ++ decimal i ++ word_gates ++ decimal g) word_outputs o l k h s t two c)

-- the first line's end and the second line's word are one word of the code, and so are "end" and its LF
pub head_put : (i g o total : ℕ) (l m k h : List ℕ) (r s t : ℕ)
    → Filled (counts_of i g o) l m r → PutItem r (LF ++ word_bits) total m k s → Put s LF k h t → Filled (head_of i g o total) l h t
unfolding head_of
head_put i g o total l m k h r s t a b c =
    let d = counts_of i g o in
    let two = item_after 0 d (LF ++ word_bits) total l m k r s (filled_put d l m r a) b in
    rw (append_assoc d LF word_bits) (put_filled _ l h t (put_put 0 (d ++ (LF ++ word_bits) ++ decimal total) LF l k h s t two c))

pub good_put : (i g o total : ℕ) (outs l m k h : List ℕ) (r s t : ℕ)
    → Filled (head_of i g o total) l m r → Put r (out_lines (shown_of outs) o) m k s → Put s (word_end ++ LF) k h t
    → Filled (lines_of i g o total (shown_of outs)) l h t
unfolding lines_of
good_put i g o total outs l m k h r s t a b c =
    let d = head_of i g o total in
    let e = out_lines (shown_of outs) o in
    let two = put_put 0 d e l m k r s (filled_put d l m r a) b in
    rw (append_assoc (d ++ e) word_end LF) (put_filled _ l h t (put_put 0 (d ++ e) (word_end ++ LF) l k h s t two c))

pub line_length : (w : List ℕ) (n p : ℕ) → length (line_of w n p) ≡ length w + length (decimal n) + 1 + length (decimal p) + 1
unfolding line_of
line_length w n p = simp length-append

pub refused_put : (a b n p : ℕ) (l m : List ℕ) (r : ℕ) → a ≡ n → b ≡ p → Filled (refused_text a b) l m r → Filled (refused_text n p) l m r
refused_put a b n p l m r en ep f = rw (← en, ← ep) f

pub line_refused : (n p : ℕ) → n < 10 ^ 20 → p < 10 ^ 20 → length (line_of word_refused n p) ≤ 50
line_refused n p h g =
    let k = line_length word_refused n p in
    let a : length (decimal n) ≤ 20 = decimal_length 19 n h in
    let b : length (decimal p) ≤ 20 = decimal_length 19 p g in
    omega arith

pub line_out : (o b : ℕ) → o < 1000 → b ≤ 9 → length (line_of word_out o b) ≤ 10
unfolding line_of
line_out = out_short

-- the lines of the outputs passed, and one more
module _ (outs : List ℕ) where
  pub lines_none : (at : ℕ) (l : List ℕ) → Put at (out_lines (shown_of outs) 0) l l at
  unfolding out_lines
  lines_none at l = (sym (write_none at l), sym (add-zero at))

  pub lines_turn : (at k : ℕ) (l m n : List ℕ) (r s : ℕ) → Put at (out_lines (shown_of outs) k) l m r
      → Put r (line_of word_out k (shown_of outs k)) m n s → Put at (out_lines (shown_of outs) (k + 1)) l n s
  unfolding out_lines line_of
  lines_turn at k l m n r s p q = rw add-one (put_put at (out_lines (shown_of outs) k) _ l m n r s p q)

  pub lines_end : (at k i : ℕ) (l m : List ℕ) (r : ℕ) → Put at (out_lines (shown_of outs) k) l m r → k ≤ i → i ≤ k
      → Put at (out_lines (shown_of outs) i) l m r
  lines_end at k i l m r p h g = rw (le_antisymm h g) at p

  pub lines_room : (n k : ℕ) → OneDigit outs n → n ≤ 256 → k ≤ n → length (out_lines (shown_of outs) k) ≤ 10 * k
  unfolding OneDigit
  lines_room n k d h g = lines_length (shown_of outs) n d h k g

-- the first two lines
module _ (i g o : ℕ) where
  pub counts_length : length (counts_of i g o) ≡ 7 + length (decimal i) + 7 + length (decimal g) + 9 + length (decimal o)
  unfolding counts_of
  counts_length = simp length-append

  pub head_length : (t : ℕ) → length (head_of i g o t) ≡ length (counts_of i g o) + 6 + length (decimal t) + 1
  unfolding head_of
  head_length t = simp length-append (omega arith)

  pub head_room : (t : ℕ) → i ≤ 1024 → g ≤ 3072 → o ≤ 256 → t ≤ 41728 → length (head_of i g o t) ≤ 46
  head_room t hi hg ho ht = let d = digits_few i g o t hi hg ho ht in let k = counts_length in let h = head_length t in omega arith
