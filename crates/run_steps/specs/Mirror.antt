-- What the functions of a step compute at the three sites, on the transcript and on the three parts of the store.
-- No public contract cites these: laws tie them to sharing's steps.
--     or_bit                         0 for an AND gate, 1 for an OR gate
--     on_lines                       what the line adds to three senders' bits
--     put_four, put_twelve           delivered bits in the transcript
--     on_part, at_sites              a part of the store with both its ends; three sites' steps
--     add_gate, not_gate, sends, delivers, takes    XOR, NOT, and AND and OR at the three sites: sent, delivered, taken
--     put_held, held_at, put_six     three pairs stored, read, and sent at an opening
use Rattle.std.specs.Prelude.{cond, List, ◌++◌, ℕ, ◌+◌, ◌*◌, ◌-◌, set, take, drop, eqb}
use Rattle.theory_sharing.specs.Ops.{Ops}
use Rattle.theory_sharing.specs.Steps.{later}
use Rattle.run_site.specs.Mirror.{pair_at, put_at, add_at, flip_at, local_at, take_at}
use Rattle.run_messages.specs.Mirror.{pair_of, twelve, held, deal_at, line_at, on_line, kept_of, next_of, prev_of}
use Rattle.run_messages.specs.declared.Held.{Held}
use Rattle.run_messages.specs.declared.Four.{Four}
use Rattle.run_messages.specs.declared.Twelve.{Twelve}

-- 01: "OR: flip part 1 of both operands, AND, flip part 1 of the result"; of a kind that is AND or OR
unfoldable pub or_bit : ℕ → ℕ
or_bit kind = cond (eqb kind 2) 0 1

-- ---- the line
module _ (R : Ops) where
  unfoldable pub on_lines : (ℕ → ℕ) → Twelve → Twelve
  on_lines e m = twelve (on_line R e m.s1) (on_line R (later e 4) m.s2) (on_line R (later e 8) m.s3)

-- ---- bits in the transcript
unfoldable pub put_four : ℕ → Four → List ℕ → List ℕ
put_four at m l = set (set (set (set l at m.a) (at + 1) m.b) (at + 2) m.c) (at + 3) m.d

unfoldable pub put_twelve : ℕ → Twelve → List ℕ → List ℕ
put_twelve at m l = put_four (at + 8) m.s3 (put_four (at + 4) m.s2 (put_four at m.s1 l))

-- ---- three parts
-- what a site sees that is lent bytes a to e
abbrev pub lent : ℕ → ℕ → List ℕ → List ℕ
lent a e l = take (e - a) (drop a l)

unfoldable pub on_part : ℕ → ℕ → (List ℕ → List ℕ) → List ℕ → List ℕ
on_part a e f l = take a l ++ (f (lent a e l) ++ drop (e - a) (drop a l))

-- "Site s's part starts at 2W(s-1)": the three sites' steps on their own parts, one after the other
unfoldable pub at_sites : ℕ → (List ℕ → List ℕ) → (List ℕ → List ℕ) → (List ℕ → List ℕ) → List ℕ → List ℕ
at_sites n f g h l = on_part (4 * n) (6 * n) h (on_part (2 * n) (4 * n) g (on_part 0 (2 * n) f l))

-- the parts that the three sites see
abbrev pub part1 : ℕ → List ℕ → List ℕ
part1 n l = lent 0 (2 * n) l

abbrev pub part2 : ℕ → List ℕ → List ℕ
part2 n l = lent (2 * n) (4 * n) l

abbrev pub part3 : ℕ → List ℕ → List ℕ
part3 n l = lent (4 * n) (6 * n) l

module _ (R : Ops) where
  unfoldable pub add_gate : ℕ → ℕ → ℕ → ℕ → List ℕ → List ℕ
  add_gate n a b w l = at_sites n (add_at R a b w) (add_at R a b w) (add_at R a b w) l

  -- "part 1 is flipped wherever held"
  unfoldable pub not_gate : ℕ → ℕ → ℕ → List ℕ → List ℕ
  not_gate n a w l = at_sites n (flip_at R a w (1, 0)) (flip_at R a w (0, 0)) (flip_at R a w (0, 1)) l

  -- the three sites' deals of their products, as sent; o is 1 for OR, whose operands have part 1 flipped
  unfoldable pub sends : List ℕ → ℕ → ℕ → ℕ → ℕ → ℕ → ℕ → ℕ → List ℕ → Twelve
  sends tapes n a b o t1 t2 t3 l =
      twelve (deal_at R tapes t1 (local_at R a b (o, 0) (part1 n l)))
      (deal_at R tapes t2 (local_at R a b (0, 0) (part2 n l)))
      (deal_at R tapes t3 (local_at R a b (0, o) (part3 n l)))

  -- and as delivered, by a line from its place at
  abbrev pub delivers : List ℕ → List ℕ → ℕ → ℕ → ℕ → ℕ → ℕ → ℕ → ℕ → ℕ → List ℕ → Twelve
  delivers tapes line n a b o t1 t2 t3 at l = on_lines R (line_at line at) (sends tapes n a b o t1 t2 t3 l)

  -- each site's new pair, from what it sent (s) and what was delivered (g)
  unfoldable pub takes : ℕ → ℕ → ℕ → Twelve → Twelve → List ℕ → List ℕ
  takes n w o s g l =
      at_sites n
      (take_at R w (kept_of s.s1) (next_of g.s3) (prev_of g.s2) (o, 0))
      (take_at R w (kept_of s.s2) (next_of g.s1) (prev_of g.s3) (0, 0))
      (take_at R w (kept_of s.s3) (next_of g.s2) (prev_of g.s1) (0, o))
      l

unfoldable pub put_held : ℕ → ℕ → Held → List ℕ → List ℕ
put_held n w h l = at_sites n (put_at w (pair_of h.p1)) (put_at w (pair_of h.p2)) (put_at w (pair_of h.p3)) l

-- 01, step 6: the three sites' pairs of a wire are the six bits of its opening, in the order of sending
unfoldable pub held_at : ℕ → ℕ → List ℕ → Held
held_at n w l = held (pair_at (part1 n l) w) (pair_at (part2 n l) w) (pair_at (part3 n l) w)

unfoldable pub put_six : ℕ → Held → List ℕ → List ℕ
put_six at h l =
    set (set (set (set (set (set l at h.p1.x) (at + 1) h.p1.y) (at + 2) h.p2.x) (at + 3) h.p2.y) (at + 4) h.p3.x) (at + 5) h.p3.y
