-- A step of the three sites is one wire put, whatever the layout and the order: it asks only that the operands read right.
--     put_length, put_same, put_other    a store after one put
--     reads_at                           what reads right reads right at each site
--     store_reads, store_ext             the document's store reads its wires; a store is what is read from its places
--     puts_one                           steps that put these pairs on what they see put this wire
--     add_reads                          XOR
--     flips_reads                        NOT, as the code does it
--     sends_reads, takes_puts            AND and OR: what is sent, what is made of it
--     in_pairs_are, in_puts              inputs: the pairs by owner, and the store
use mathlib.Core.Path.{◌≡◌, refl, sym, ap, ap₂, ◌∙◌}
use mathlib.Core.List.{List}
use Prim.Native.Nat.{ℕ, ◌+◌, ◌*◌, ◌<◌}
use native.Mathlib.Omega.{arith}
use lib.ListN.{length, get_or, set, length-set}
use lib.Seq.{get_or-set_same, get_or-set_other}
use Rattle.theory_sharing.specs.Ops.{Ops}
use Rattle.theory_sharing.specs.Sites.{Site, s1, s2, s3, Trio, of}
use Rattle.theory_sharing.specs.Published.{Deal, deal}
use Rattle.theory_sharing.specs.Steps.{Pair, Wire, no_wire, add_pair, add_wire, local, deals, mix, in_wire}
use Rattle.theory_sharing.specs.Store.{side, store}
use Rattle.theory_sharing.proofs.StoreLaws.{side_length, side_first, side_second}
use Rattle.theory_calls.specs.File.{site_of}
use Rattle.file_parts.proofs.SiteLaws.{by_number}
use Rattle.run_messages.specs.Mirror.{twelve, held, deal_at, on_line, in_pairs}
use Rattle.run_messages.specs.declared.Held.{Held}
use Rattle.run_site.specs.Mirror.{pair_at, put_at, add_at, flip_at, local_at, take_at}
use Rattle.run_steps.specs.Mirror.{at_sites, add_gate, not_gate, sends, takes, held_at, put_held, on_lines}
use Rattle.run_laws.specs.Link.{sent_of, sent3, held_of, flips, put_wire, Reads}
use Rattle.run_laws.specs.Places.{Drawn, sent_at}
use Rattle.run_laws.proofs.PartLaws.{pair_eq, part_of, join, join_eq, join_long, see_part, at_three, part_long, parts_joined, pair_ext}

-- ---- one site's part
put_long : (w : ℕ) (v : Pair) (p : List ℕ) → length (put_at w v p) ≡ length p
unfolding put_at
put_long w v p = length-set (set p (2 * w) v.0) (2 * w + 1) v.1 ∙ length-set p (2 * w) v.0

one_same : (w : ℕ) (v : Pair) (p : List ℕ) → 2 * w + 1 < length p → pair_at (put_at w v p) w ≡ v
unfolding put_at
one_same w v p h =
    let l = length-set p (2 * w) v.0 in
    pair_eq (get_or-set_other (set p (2 * w) v.0) (2 * w + 1) (2 * w) v.1 0 (λ e. omega arith) ∙ get_or-set_same p (2 * w) v.0 0 (omega arith))
    (get_or-set_same (set p (2 * w) v.0) (2 * w + 1) v.1 0 (omega arith))

one_other : (w u : ℕ) (v : Pair) (p : List ℕ) → (w ≡ u → ⊥) → pair_at (put_at w v p) u ≡ pair_at p u
unfolding put_at
one_other w u v p h = pair_eq (one (2 * u) (λ e. h (omega arith)) (λ e. omega arith)) (one (2 * u + 1) (λ e. omega arith) (λ e. h (omega arith)))
  where
    one : (i : ℕ) → (i ≡ 2 * w → ⊥) → (i ≡ 2 * w + 1 → ⊥) → get_or (set (set p (2 * w) v.0) (2 * w + 1) v.1) i 0 ≡ get_or p i 0
    one i a b = get_or-set_other (set p (2 * w) v.0) (2 * w + 1) i v.1 0 b ∙ get_or-set_other p (2 * w) i v.0 0 a

-- ---- what is read, by site
held_eq : (p q : Site → Pair) → ((s : Site) → p s ≡ q s) → held (p s1) (p s2) (p s3) ≡ held (q s1) (q s2) (q s3)
held_eq p q e = λ i. held (e s1 i) (e s2 i) (e s3 i)

pub reads_at : (n : ℕ) (l : List ℕ) (a : ℕ) (x : Wire) → Reads n l a x → (s : Site) → pair_at (part_of n l s) a ≡ of x s
unfolding held_at
reads_at n l a x e s1 = λ i. ((e i).p1.x, (e i).p1.y)
reads_at n l a x e s2 = λ i. ((e i).p2.x, (e i).p2.y)
reads_at n l a x e s3 = λ i. ((e i).p3.x, (e i).p3.y)

-- the document's store has every wire
module _ (n : ℕ) (ws : List Wire) (e : length ws ≡ n) (a : ℕ) where
  abbrev mine : Site → List ℕ
  mine s = side (λ (w : Wire). of w s) ws

  none : (s : Site) → of no_wire s ≡ (0, 0)
  none s1 = refl
  none s2 = refl
  none s3 = refl

  there : (s : Site) → pair_at (part_of n (join mine) s) a ≡ of (get_or ws a no_wire) s
  there s =
      ap (λ (l : List ℕ). pair_at l a) (see_part n mine (λ z. side_length (λ (w : Wire). of w z) ws ∙ ap (λ (m : ℕ). 2 * m) e) s)
      ∙ pair_eq (side_first (λ (w : Wire). of w s) no_wire (none s) ws a) (side_second (λ (w : Wire). of w s) no_wire (none s) ws a)

  pub store_reads : Reads n (store ws) a (get_or ws a no_wire)
  unfolding held_at store
  store_reads = held_eq (λ s. pair_at (part_of n (join mine) s) a) (of (get_or ws a no_wire)) there

-- two stores of which the same wires are read are one
pub store_ext : (n : ℕ) (l m : List ℕ) → length l ≡ 6 * n → length m ≡ 6 * n → (W : ℕ → Wire)
    → ((w : ℕ) → w < n → Reads n l w (W w)) → ((w : ℕ) → w < n → Reads n m w (W w)) → l ≡ m
store_ext n l m a b W p q =
    parts_joined n l a
    ∙ join_eq (part_of n l) (part_of n m)
    (λ s. pair_ext n (part_of n l s) (part_of n m s) (part_long n l a s) (part_long n m b s) (λ w h. reads_at n l w (W w) (p w h) s ∙ sym (reads_at n m w (W w) (q w h) s)))
    ∙ sym (parts_joined n m b)

module _ (n : ℕ) (l : List ℕ) (hl : length l ≡ 6 * n) where
  abbrev P : Site → List ℕ
  P = part_of n l

  -- ---- a store after a put
  module _ (w : ℕ) (x : Wire) where
    abbrev Q : Site → List ℕ
    Q s = put_at w (of x s) (P s)

    long : (s : Site) → length (Q s) ≡ 2 * n
    long s = put_long w (of x s) (P s) ∙ part_long n l hl s

    -- steps that put these pairs on what they see put this wire
    pub puts_one : (f : Site → List ℕ → List ℕ) → ((s : Site) → f s (P s) ≡ Q s) → at_sites n (f s1) (f s2) (f s3) l ≡ join Q
    puts_one f e =
        ap (at_sites n (f s1) (f s2) (f s3)) (parts_joined n l hl)
        ∙ at_three n P (part_long n l hl) f (λ s. ap length (e s) ∙ long s) ∙ join_eq (λ s. f s (P s)) Q e

    put_cut : put_wire n w x l ≡ join Q
    unfolding put_wire
    put_cut = puts_one (λ s. put_at w (of x s)) (λ s. refl)

    -- it is as long as it was
    pub put_length : length (put_wire n w x l) ≡ 6 * n
    put_length = ap length put_cut ∙ join_long n Q long

    put_site : (u : ℕ) (s : Site) → pair_at (part_of n (put_wire n w x l) s) u ≡ pair_at (Q s) u
    put_site u s = ap (λ (m : List ℕ). pair_at (part_of n m s) u) put_cut ∙ ap (λ (p : List ℕ). pair_at p u) (see_part n Q long s)

    -- the place that is put reads what was put
    pub put_same : w < n → Reads n (put_wire n w x l) w x
    unfolding held_at
    put_same h = held_eq _ (of x) (λ s. put_site w s ∙ one_same w (of x s) (P s) (let a = part_long n l hl s in omega arith))

    -- and every other what it did
    pub put_other : (u : ℕ) → (w ≡ u → ⊥) → held_at n u (put_wire n w x l) ≡ held_at n u l
    unfolding held_at
    put_other u h = held_eq _ (λ s. pair_at (P s) u) (λ s. put_site u s ∙ one_other w u (of x s) (P s) h)

  -- ---- the steps
  -- any step that puts a pair made of two others
  two_reads : (H : Site → Pair → Pair → Pair) (a b w : ℕ) (x y : Wire) → Reads n l a x → Reads n l b y
      → at_sites n (λ p. put_at w (H s1 (pair_at p a) (pair_at p b)) p) (λ p. put_at w (H s2 (pair_at p a) (pair_at p b)) p) (λ p. put_at w (H s3 (pair_at p a) (pair_at p b)) p) l
      ≡ put_wire n w (record { at1 = H s1 x.at1 y.at1; at2 = H s2 x.at2 y.at2; at3 = H s3 x.at3 y.at3 }) l
  two_reads H a b w x y p q =
      let z : Wire = record { at1 = H s1 x.at1 y.at1; at2 = H s2 x.at2 y.at2; at3 = H s3 x.at3 y.at3 } in
      puts_one w z (λ s p. put_at w (H s (pair_at p a) (pair_at p b)) p) site ∙ sym (put_cut w z)
    where
      site : (s : Site) → put_at w (H s (pair_at (P s) a) (pair_at (P s) b)) (P s) ≡ put_at w (of (record { at1 = H s1 x.at1 y.at1; at2 = H s2 x.at2 y.at2; at3 = H s3 x.at3 y.at3 }) s) (P s)
      site s1 = ap₂ (λ (u v : Pair). put_at w (H s1 u v) (P s1)) (reads_at n l a x p s1) (reads_at n l b y q s1)
      site s2 = ap₂ (λ (u v : Pair). put_at w (H s2 u v) (P s2)) (reads_at n l a x p s2) (reads_at n l b y q s2)
      site s3 = ap₂ (λ (u v : Pair). put_at w (H s3 u v) (P s3)) (reads_at n l a x p s3) (reads_at n l b y q s3)

  module _ (R : Ops) where
    -- 01, step 2, for any places a, b, w
    pub add_reads : (a b w : ℕ) (x y : Wire) → Reads n l a x → Reads n l b y → add_gate R n a b w l ≡ put_wire n w (add_wire R x y) l
    unfolding add_gate add_at
    add_reads = two_reads (λ s. add_pair R)

    -- 01, step 3, as the code does it
    pub flips_reads : (a w : ℕ) (x : Wire) → Reads n l a x → not_gate R n a w l ≡ put_wire n w (flips R 1 x) l
    unfolding not_gate flip_at
    flips_reads a w x p = two_reads (λ s u v. add_pair R u (of (record { at1 = (1, 0); at2 = (0, 0); at3 = (0, 1) }) s)) a a w x x p p

    -- 01, step 4, first half: what is sent, with the draws at the places t of the tapes; o is 0 for AND and 1 for OR
    pub sends_reads : (tapes : List ℕ) (o a b : ℕ) (x y : Wire) → Reads n l a x → Reads n l b y → (t : Trio ℕ) (α β : Site → ℕ) → Drawn tapes t α β
        → sent_at R tapes n t o a b l ≡ sent3 (deals R α β (flips R o x) (flips R o y))
    unfolding sends local_at deal_at
    sends_reads tapes o a b x y p q t α β d =
        let u = reads_at n l a x p in let v = reads_at n l b y q in
        let f : Pair → Pair → Pair → ℕ = λ c y z. local R (add_pair R y c) (add_pair R z c) in
        λ i. twelve (sent_of (deal R (f (o, 0) (u s1 i) (v s1 i)) (d.0 s1 i) (d.1 s1 i)))
        (sent_of (deal R (f (0, 0) (u s2 i) (v s2 i)) (d.0 s2 i) (d.1 s2 i)))
        (sent_of (deal R (f (0, o) (u s3 i) (v s3 i)) (d.0 s3 i) (d.1 s3 i)))

-- ---- what asks nothing of the store
-- the tests of the code choose the site that the document reads
pub in_pairs_are : (R : Ops) (er : ℕ → ℕ) (D : Deal) (owner : ℕ) → in_pairs owner (sent_of D) (on_line R er (sent_of D)) ≡ held_of (in_wire R er (site_of owner) D)
unfolding in_pairs on_line in_wire
in_pairs_are R er D = by_number (λ s. held_of (in_wire R er s D))

module _ (R : Ops) (n w : ℕ) (l : List ℕ) where
  -- 01, step 4, second half: what the sites make of it
  pub takes_puts : (o : ℕ) (er : ℕ → ℕ) (D : Trio Deal) → takes R n w o (sent3 D) (on_lines R er (sent3 D)) l ≡ put_wire n w (flips R o (mix R er D)) l
  unfolding takes take_at mix on_lines on_line put_wire
  takes_puts o er D = refl

  -- 01, step 1, for every owner's number
  pub in_puts : (er : ℕ → ℕ) (D : Deal) (owner : ℕ)
      → put_held n w (in_pairs owner (sent_of D) (on_line R er (sent_of D))) l ≡ put_wire n w (in_wire R er (site_of owner) D) l
  unfolding put_held put_wire
  in_puts er D owner = ap (λ (z : Held). put_held n w z l) (in_pairs_are R er D owner)
