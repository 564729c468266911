-- What the proofs of the functions cite about their definitions.
--     line_later     the line from a later place on is the later line
--     lines_are      three senders' bits on the line
--     part_back, parts_back    what a store is when a site's part is back, and when all three are
--     step_store, step_transcript    AND and OR, sender by sender: what is taken, and what is delivered
use mathlib.Core.Path.{◌≡◌, ap, ◌∙◌}
use mathlib.Core.List.{List, ◌++◌}
use Prim.Native.Nat.{ℕ, ◌+◌, ◌*◌, ◌-◌}
use native.Mathlib.Omega.{arith}
use lib.ListN.{get_or, take, drop}
use Rattle.theory_sharing.specs.Ops.{Ops, bits}
use Rattle.theory_sharing.specs.Steps.{later}
use Rattle.run_messages.specs.Mirror.{twelve, line_at, on_line}
use Rattle.run_messages.specs.declared.Four.{Four}
use Rattle.run_messages.specs.declared.Twelve.{Twelve}
use Rattle.run_steps.specs.Mirror.{on_lines, put_four, put_twelve, lent, on_part, at_sites, part1, part2, part3}

module _ (R : Ops) where
  pub line_later : (l : List ℕ) (at n : ℕ) (m : Four) → on_line R (line_at l (at + n)) m ≡ on_line R (later (line_at l at) n) m
  line_later l at n m =
      let e : (k : ℕ) → at + n + k ≡ at + (n + k) = λ k. omega arith in
      λ i. on_line R (λ (k : ℕ). get_or l (e k i) 0) m

  pub lines_are : (l : List ℕ) (at : ℕ) (m : Twelve) (x y z : Four)
      → x ≡ on_line R (line_at l at) m.s1 → y ≡ on_line R (line_at l (at + 4)) m.s2 → z ≡ on_line R (line_at l (at + 8)) m.s3
      → twelve x y z ≡ on_lines R (line_at l at) m
  unfolding on_lines
  lines_are l at m x y z p q r =
      let q' = q ∙ line_later l at 4 m.s2 in let r' = r ∙ line_later l at 8 m.s3 in
      λ i. twelve (p i) (q' i) (r' i)

-- a site's part, lent with both its ends, is back: ys is what the step left in it
abbrev pub back : ℕ → ℕ → List ℕ → List ℕ → List ℕ
back a e ys xs = take a xs ++ (ys ++ drop (e - a) (drop a xs))

pub part_back : (a e : ℕ) (f : List ℕ → List ℕ) (xs ys : List ℕ) → ys ≡ f (lent a e xs) → back a e ys xs ≡ on_part a e f xs
unfolding on_part
part_back a e f xs ys q = ap (λ (z : List ℕ). back a e z xs) q

-- all three are, one after the other
pub parts_back : (n : ℕ) (f g h : List ℕ → List ℕ) (l x y z : List ℕ) → x ≡ f (part1 n l) → y ≡ g (part2 n (back 0 (2 * n) x l))
    → z ≡ h (part3 n (back (2 * n) (4 * n) y (back 0 (2 * n) x l)))
    → back (4 * n) (6 * n) z (back (2 * n) (4 * n) y (back 0 (2 * n) x l)) ≡ at_sites n f g h l
unfolding at_sites
parts_back n f g h l x y z p q r =
    part_back _ _ h _ z r ∙ ap (on_part _ _ h) (part_back _ _ g _ y q ∙ ap (on_part _ _ g) (part_back _ _ f l x p))

-- ---- AND and OR
pub step_transcript : (l : List ℕ) (at : ℕ) (m : Twelve) (x y z : Four) (tr l1 l2 l3 : List ℕ)
    → x ≡ on_line bits (line_at l at) m.s1 → y ≡ on_line bits (line_at l (at + 4)) m.s2 → z ≡ on_line bits (line_at l (at + 8)) m.s3
    → l1 ≡ put_four at x tr → l2 ≡ put_four (at + 4) y l1 → l3 ≡ put_four (at + 8) z l2 → l3 ≡ put_twelve at (on_lines bits (line_at l at) m) tr
unfolding put_twelve
step_transcript l at m x y z tr l1 l2 l3 p q r e1 e2 e3 =
    e3 ∙ ap (put_four (at + 8) z) (e2 ∙ ap (put_four (at + 4) y) e1) ∙ ap (λ (g : Twelve). put_twelve at g tr) (lines_are bits l at m x y z p q r)
