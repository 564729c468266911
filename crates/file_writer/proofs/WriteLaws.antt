-- What holds of writing into a room.
--     write_write      two pieces, one after the other, are one piece
--     write_front      from place 0 on it is sharing's fill
--     write_none, write_one, write_two    nothing; one byte, which is a store; two
--     word_turn                a word byte by byte
--     Put, put_put     a writer's whole answer, what it left and the place after; two of them are one
--     Filled           the same from the front;  put_filled, filled_put: one by the other
-- Assumes nothing.
use mathlib.Core.Path.{◌≡◌, refl, sym, ap, ap₂, ◌∙◌}
use mathlib.Core.Bool.{Bool, true, false}
use mathlib.Core.List.{List, [], ◌∷◌, ◌++◌, append-nil, append_assoc}
use Prim.Native.Nat.{ℕ, ◌+◌, ◌<◌, ◌≤◌}
use native.Mathlib.Nat.{add_assoc, zero-add, add-zero}
use native.Mathlib.Numerals.{add-one}
use native.Mathlib.Omega.{arith}
use lib.Dec.{leb}
use lib.ListN.{length, get_or, take, drop, set, length-set, length-append, drop_of_length-le, take-append-drop}
use lib.Seq.{take_at, take_all, drop-drop, drop-append-add, length-take-le, set_split, take-suc}
use borrow.Author.Tests.{leb-true, leb-false}
use Rattle.theory_sharing.specs.Store.{fill}
use Rattle.file_writer.specs.Mirror.{write}

-- what stands before the second piece, and what after it
before : (p a d : List ℕ) (at : ℕ) → length p ≡ at → take (at + length a) (p ++ (a ++ d)) ≡ p ++ a
before p a d at e = ap (take (at + length a)) (sym (append_assoc p a d)) ∙ take_at (p ++ a) d (at + length a) (length-append p a ∙ ap (λ (n : ℕ). n + length a) e)

behind : (p a d : List ℕ) (at n : ℕ) → length p ≡ at → drop (at + length a + n) (p ++ (a ++ d)) ≡ drop n d
behind p a d at n e =
    ap₂ drop (ap (λ (k : ℕ). k + n) (ap (λ (k : ℕ). k + length a) (sym e) ∙ sym (length-append p a))) (sym (append_assoc p a d))
    ∙ drop-append-add (p ++ a) d n

module _ (at : ℕ) (a b l : List ℕ) where
  -- the two pieces in a room that reaches up to them
  joined : at ≤ length l → write (at + length a) b (write at a l) ≡ write at (a ++ b) l
  unfolding write
  joined h =
      let e = length-take-le at l h in
      let d = drop (at + length a) l in
      ap₂ ◌++◌ (before (take at l) a d at e) (ap (λ z. b ++ z) (behind (take at l) a d at (length b) e ∙ drop-drop (length b) (at + length a) l))
      ∙ append_assoc (take at l) a _
      ∙ ap (λ z. take at l ++ z) (sym (append_assoc a b _)
      ∙ ap (λ (n : ℕ). (a ++ b) ++ drop n l) (add_assoc at (length a) (length b) ∙ ap (λ (n : ℕ). at + n) (sym (length-append a b))))

  -- and past the end of one that does not
  added : length l ≤ at → write (at + length a) b (write at a l) ≡ write at (a ++ b) l
  unfolding write
  added h =
      let t = take_all at l h in
      let k = length-append l a in
      let k2 = length-append a b in
      let h1 : length l ≤ at + length a = omega arith in
      let h2 : length l ≤ at + length (a ++ b) = omega arith in
      let h3 : length (l ++ a) ≤ at + length a + length b = omega arith in
      let d : drop (at + length a) l ≡ [] = drop_of_length-le l h1 in
      let d2 : drop (at + length (a ++ b)) l ≡ [] = drop_of_length-le l h2 in
      let t2 : take (at + length a) (l ++ a) ≡ l ++ a = take_all (at + length a) (l ++ a) (omega arith) in
      let d3 : drop (at + length a + length b) (l ++ a) ≡ [] = drop_of_length-le (l ++ a) h3 in
      rw (t, d, d2, append-nil, t2, d3, append-nil, append-nil, append_assoc)

  pub write_write : write (at + length a) b (write at a l) ≡ write at (a ++ b) l
  write_write = by_cases (leb at (length l)) refl
    where
      by_cases : (t : Bool) → leb at (length l) ≡ t → write (at + length a) b (write at a l) ≡ write at (a ++ b) l
      by_cases true e = joined (leb-true _ _ e)
      by_cases false e = added (let h : length l < at = leb-false _ _ e in omega arith)

pub write_front : (a l : List ℕ) → write 0 a l ≡ fill l a
unfolding write fill
write_front a l = ap (λ (n : ℕ). a ++ drop n l) (zero-add (length a))

pub write_none : (at : ℕ) (l : List ℕ) → write at [] l ≡ l
unfolding write
write_none at l = ap (λ (n : ℕ). take at l ++ drop n l) (add-zero at) ∙ take-append-drop at l

-- one byte is a store
pub write_one : (at : ℕ) (x : ℕ) (l : List ℕ) → at < length l → set l at x ≡ write at (x ∷ []) l
unfolding write
write_one at x l h = set_split l at x h ∙ ap (λ (n : ℕ). take at l ++ x ∷ drop n l) (sym (add-one at))

-- from place at on w was written into l, which made it m; r is the place after
abbrev pub Put : ℕ → List ℕ → List ℕ → List ℕ → ℕ → Type 0
Put at w l m r = (m ≡ write at w l) × (r ≡ at + length w)

abbrev pub Filled : List ℕ → List ℕ → List ℕ → ℕ → Type 0
Filled w l m r = (m ≡ fill l w) × (r ≡ length w)

pub put_filled : (w l m : List ℕ) (r : ℕ) → Put 0 w l m r → Filled w l m r
put_filled w l m r p = (p.0 ∙ write_front w l, p.1 ∙ zero-add (length w))

pub filled_put : (w l m : List ℕ) (r : ℕ) → Filled w l m r → Put 0 w l m r
filled_put w l m r p = (p.0 ∙ sym (write_front w l), p.1 ∙ sym (zero-add (length w)))

pub put_put : (at : ℕ) (a b l m n : List ℕ) (r s : ℕ) → Put at a l m r → Put r b m n s → Put at (a ++ b) l n s
put_put at a b l m n r s p q = (
  q.0 ∙ ap₂ (λ k z. write k b z) p.1 p.0 ∙ write_write at a b l,
  q.1 ∙ ap (λ (k : ℕ). k + length b) p.1 ∙ add_assoc at (length a) (length b) ∙ ap (λ (k : ℕ). at + k) (sym (length-append a b)),
)

-- one byte more of a word
pub word_turn : (at : ℕ) (w l m : List ℕ) (k : ℕ) → m ≡ write at (take k w) l → k < length w → at + k < length m
    → set m (at + k) (get_or w k 0) ≡ write at (take (k + 1) w) l
word_turn at w l m k e h g =
    let n : length (take k w) ≡ k = length-take-le k w (omega arith) in
    write_one (at + k) (get_or w k 0) m g
    ∙ ap₂ (λ i z. write i (get_or w k 0 ∷ []) z) (ap (λ (j : ℕ). at + j) (sym n)) e
    ∙ write_write at (take k w) (get_or w k 0 ∷ []) l
    ∙ ap (λ z. write at z l) (sym (take-suc w k 0 h) ∙ ap (λ (j : ℕ). take j w) (sym (add-one k)))

-- two bytes, one after the other
pub write_two : (at a b : ℕ) (l : List ℕ) → at + 2 ≤ length l → set (set l at a) (at + 1) b ≡ write at (a ∷ b ∷ []) l
write_two at a b l h =
    let k : length (set l at a) ≡ length l = length-set l at a in
    write_one (at + 1) b (set l at a) (omega arith)
    ∙ ap (write (at + 1) (b ∷ [])) (write_one at a l (omega arith))
    ∙ write_write at (a ∷ []) (b ∷ []) l
