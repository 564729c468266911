-- What code tests, where what it knows matches what was heard.
--     same_words, same_fault    a line says the same to both, and has the same fault
--     is_known        a wire has an entry exactly if it is written;  all_written_is: of a list of wires
--     complete_is     all lines are there
--     limits_same     the limits, by a count of gates that stops at 3,073
-- Assumes nothing.
use mathlib.Core.Path.{◌≡◌, refl, ap, ap₂, ◌∙◌}
use mathlib.Core.Bool.{Bool, true, false, not, cond, ◌&&◌}
use mathlib.Core.List.{List, [], ◌∷◌}
use Prim.Native.Nat.{ℕ, ◌-◌, ◌<◌, ◌≤◌}
use native.Mathlib.Omega.{arith}
use lib.ListN.{length}
use lib.Dec.{leb, ltb, eqb}
use borrow.Author.Tests.{ltb-true, ltb-false, le-leb, eqb-true, eqb-false, eq-eqb, ne_eqb}
use Rattle.check_limits.specs.Mirror.{large_place}
use Rattle.bristol_text.specs.Words.{words}
use Rattle.bristol_text.specs.Lines.{Line, blank, bad, counts, widths, other_word, xor_gate, and_gate, inv_gate, eqw_gate, total}
use Rattle.bristol_text.specs.Heard.{Heard, says, written, two_fault, one_fault, within, line_fault, all_written, complete}
use Rattle.bristol_text.specs.Renamed.{renamed}
use Rattle.bristol_text.specs.Told.{told}
use Rattle.bristol_wires.specs.declared.Text.{Text}
use Rattle.bristol_wires.specs.Mirror.{is_written, two_fault_of, fault_of}
use Rattle.bristol_wires.specs.Pass.{says_by}
use Rattle.bristol_laws.specs.Matches.{capped, all_entered, Matches}

not_not : (b : Bool) → not (not b) ≡ b
not_not true = refl
not_not false = refl

twice : (b : Bool) → (b && b) ≡ b
twice true = refl
twice false = refl

-- none left: as many as said
left_fault : (n s k : ℕ) → cond (eqb (s - n) 0) 15 k ≡ cond (ltb n s) k 15
left_fault n s k = go (ltb n s) refl
  where
    go : (b : Bool) → ltb n s ≡ b → cond (eqb (s - n) 0) 15 k ≡ cond b k 15
    go true e = let l : n < s = ltb-true n s e in rw (ne_eqb (s - n) 0 (λ z. omega arith))
    go false e = let l : s ≤ n = ltb-false n s e in rw (eq-eqb (s - n) 0 (omega arith))

left_none : (n s : ℕ) → n ≤ s → eqb (s - n) 0 ≡ eqb n s
left_none n s l = go (eqb n s) refl
  where
    go : (b : Bool) → eqb n s ≡ b → eqb (s - n) 0 ≡ b
    go true e = let q = eqb-true n s e in eq-eqb (s - n) 0 (omega arith)
    go false e = ne_eqb (s - n) 0 (λ z. eqb-false n s e (omega arith))

-- a count that is capped is above the limit where the count is
pub capped_leb : (n : ℕ) → leb (capped n) 3072 ≡ leb n 3072
unfolding capped
capped_leb n = go (leb n 3072) refl
  where
    go : (b : Bool) → leb n 3072 ≡ b → leb (cond b n 3073) 3072 ≡ b
    go true e = e
    go false e = refl

pub capped_few : (n : ℕ) → n ≤ 3072 → capped n ≡ n
unfolding capped
capped_few n l = rw (le-leb n 3072 l)

module _ (h : Heard) (t : Text) (ws : List (List ℕ)) (m g : List ℕ) (q : Matches h t ws m g) where
  pub same_words : (bytes : List ℕ) → says_by t (words bytes) ≡ told (says h bytes)
  same_words bytes = rw (q.stage, q.wires)

  pub is_known : (w : ℕ) → is_written m t.ins w ≡ written h w
  is_known w = ap not (q.marks w) ∙ not_not (written h w)

  within_same : (k n : ℕ) → k ≡ n → cond (eqb t.left 0) 15 k ≡ within h n
  within_same k n e = rw (q.left, e) (left_fault (length h.gates) h.said n)

  two_same : (x y z : ℕ) → two_fault_of m t.ins x y z ≡ two_fault h x y z
  unfolding two_fault_of
  two_same x y z = rw (is_known x, is_known y, q.marks z)

  one_same : (x z : ℕ) → two_fault_of m t.ins x x z ≡ one_fault h x z
  unfolding two_fault_of
  one_same x z = rw (is_known x, q.marks z, twice (written h x))

  pub same_fault : (l : Line) → fault_of t m (told l) ≡ line_fault h l
  unfolding fault_of told line_fault
  same_fault blank = refl
  same_fault bad = refl
  same_fault (counts c w) = refl
  same_fault (widths vs) = refl
  same_fault other_word = within_same 16 16 refl
  same_fault (xor_gate x y z) = within_same _ _ (two_same x y z)
  same_fault (and_gate x y z) = within_same _ _ (two_same x y z)
  same_fault (inv_gate x z) = within_same _ _ (one_same x z)
  same_fault (eqw_gate x z) = within_same _ _ (one_same x z)

  pub complete_is : (eqb t.stage 3 && eqb t.left 0) ≡ complete h
  complete_is = rw (q.stage, q.left, left_none (length h.gates) h.said q.few)

  pub all_written_is : (vs : List ℕ) → all_entered m t.ins vs ≡ all_written h vs
  unfolding all_entered all_written
  all_written_is [] = refl
  all_written_is (w ∷ vs) = ap₂ ◌&&◌ (is_known w) (all_written_is vs)

  pub limits_same : large_place t.ins t.made t.outs ≡ large_place (total h.ins) (length (renamed h).gates) (total h.outs)
  unfolding large_place
  limits_same = rw (q.ins, q.made, q.outs, capped_leb (length (renamed h).gates))
