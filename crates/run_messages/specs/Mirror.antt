-- What the functions on the bits of a step compute, by value. Written with sharing's own functions of pairs. No public contract cites these: laws tie them
-- to sharing's steps.
--     pair_of, as_two, two_sum       a pair of the code's as the document's, and back; two of them added
--     kept_of, next_of, prev_of      of a deal's four bits: what the dealer keeps, what the next site gets, and the one before
--     deal_at                        a value shared from the tapes, as sent
--     line_at, on_line               what the line adds
--     in_pairs                       an input's pairs by owner
--     on_line_six, objects_of, opened_of    an opening
use Rattle.std.specs.Prelude.{cond, List, ℕ, ◌+◌, get_or, eqb}
use Rattle.theory_sharing.specs.Ops.{Ops}
use Rattle.theory_sharing.specs.Steps.{Pair, add_pair, unlike}
use Rattle.run_messages.specs.declared.Two.{Two}
use Rattle.run_messages.specs.declared.Held.{Held}
use Rattle.run_messages.specs.declared.Four.{Four}
use Rattle.run_messages.specs.declared.Twelve.{Twelve}
use Rattle.run_messages.specs.declared.Three.{Three}

abbrev pub two : ℕ → ℕ → Two
two x y = record { x = x; y = y }

abbrev pub four : ℕ → ℕ → ℕ → ℕ → Four
four a b c d = record { a = a; b = b; c = c; d = d }

abbrev pub twelve : Four → Four → Four → Twelve
twelve x y z = record { s1 = x; s2 = y; s3 = z }

abbrev pub held : Pair → Pair → Pair → Held
held x y z = record { p1 = two x.0 x.1; p2 = two y.0 y.1; p3 = two z.0 z.1 }

abbrev pub three : ℕ → ℕ → ℕ → Three
three a b c = record { a = a; b = b; c = c }

abbrev pub pair_of : Two → Pair
pair_of t = (t.x, t.y)

abbrev pub as_two : Pair → Two
as_two v = two v.0 v.1

-- of a deal's four bits: "as held", "first to s+1, then to s+2"
abbrev pub kept_of : Four → Pair
kept_of m = (m.d, m.a)

abbrev pub next_of : Four → Pair
next_of m = (m.a, m.b)

abbrev pub prev_of : Four → Pair
prev_of m = (m.c, m.d)

-- what a line adds from a place on
abbrev pub line_at : List ℕ → ℕ → ℕ → ℕ
line_at l at k = get_or l (at + k) 0

module _ (R : Ops) where
  open R use {add, sub}

  abbrev pub two_sum : Two → Two → Two
  two_sum p q = as_two (add_pair R (pair_of p) (pair_of q))

  -- a value shared from the two bits at a place of the tapes, as sent
  unfoldable pub deal_at : List ℕ → ℕ → ℕ → Four
  deal_at tapes t v = four (get_or tapes t 0) (get_or tapes (t + 1) 0) (get_or tapes (t + 1) 0) (sub (sub v (get_or tapes t 0)) (get_or tapes (t + 1) 0))

  unfoldable pub on_line : (ℕ → ℕ) → Four → Four
  on_line e m = four (add m.a (e 0)) (add m.b (e 1)) (add m.c (e 2)) (add m.d (e 3))

-- 01, step 1: the three sites' pairs of an input, of what its owner sent (k) and what was delivered (g)
unfoldable pub in_pairs : ℕ → Four → Four → Held
in_pairs owner k g =
    cond (eqb owner 1) (held (kept_of k) (next_of g) (prev_of g))
    (cond (eqb owner 2) (held (prev_of g) (kept_of k) (next_of g)) (held (next_of g) (prev_of g) (kept_of k)))

-- "Unlike copies: site k objects.": the two copies that sites 1, 2 and 3 get
unfoldable pub objects_of : Held → ℕ
objects_of g = unlike (g.p2.y, g.p3.x) 1 + unlike (g.p1.x, g.p3.y) 2 + unlike (g.p1.y, g.p2.x) 4

module _ (R : Ops) where
  open R use {add}

  unfoldable pub on_line_six : (ℕ → ℕ) → Held → Held
  on_line_six e h =
      held (add h.p1.x (e 0), add h.p1.y (e 1)) (add h.p2.x (e 2), add h.p2.y (e 3)) (add h.p3.x (e 4), add h.p3.y (e 5))

  -- "the xor of its pair and that part", with the copy that each site opens by
  unfoldable pub opened_of : Held → ℕ → ℕ → ℕ → Three
  opened_of h c1 c2 c3 =
      three (add (add h.p1.x h.p1.y) c1) (add (add h.p2.x h.p2.y) c2) (add (add h.p3.x h.p3.y) c3)
