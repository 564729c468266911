-- The store and buffers filled from the front.
--     side_first, side_second    the two bytes of a wire in a site's part
--     side_length, store_length;  side_map: a part is known from its pairs
--     store_at                   the two bytes of wire w in the part of site s, at 2W(s-1) + 2w;  store_side: the whole part
--     side_held                  a site's part of published parts: those that it holds
--     fill_length, fill_read, fill_all, fill_rest    what a filled buffer holds;  fill_one: one byte more
-- Assumes nothing.
use mathlib.Core.Path.{◌≡◌, refl, sym, ap, ◌∙◌}
use mathlib.Core.List.{List, [], ◌∷◌, ◌++◌, map, append-nil}
use Prim.Native.Nat.{ℕ, zero, suc, ◌+◌, ◌*◌, ◌<◌, ◌≤◌}
use native.Mathlib.Omega.{arith}
use native.Mathlib.Numerals.{add-one}
use native.Mathlib.Nat.{le_of_eq}
use lib.ListN.{length, get_or, set, take, drop, length-append, length-drop, get_or-append, drop_of_length-le}
use lib.Seq.{get_or-append-add, drop-append_seam, take_at, drop_at, take_all, drop-drop, set_at, drop-cons, append_snoc}
use Rattle.theory_sharing.specs.Sites.{Site, s1, s2, s3, sites_before, of}
use Rattle.theory_sharing.specs.Published.{Parts}
use Rattle.theory_sharing.specs.Steps.{Pair, Wire, no_wire, hold}
use Rattle.theory_sharing.specs.Store.{side, store, fill}
use Rattle.theory_sharing.specs.Retape.{mine}
use Rattle.theory_sharing.proofs.SiteLaws.{by_site}

module _ {A : Type 0} (f : A → Pair) where
  pub side_length : (ws : List A) → length (side f ws) ≡ 2 * length ws
  unfolding side
  side_length [] = refl
  side_length (w ∷ ws) = let k = side_length ws in omega arith

  -- a part is known from its pairs
  pub side_map : (ws : List A) → side (λ (p : Pair). p) (map f ws) ≡ side f ws
  unfolding side
  side_map [] = refl
  side_map (w ∷ ws) = ap (λ (l : List ℕ). (f w).0 ∷ (f w).1 ∷ l) (side_map ws)

  module _ (d : A) (z : f d ≡ (0, 0)) where
    pub side_first : (ws : List A) (w : ℕ) → get_or (side f ws) (2 * w) 0 ≡ (f (get_or ws w d)).0
    unfolding side
    side_first [] w = ap (λ (p : Pair). p.0) (sym z)
    side_first (v ∷ ws) zero = refl
    side_first (v ∷ ws) (suc w) = ap (λ (n : ℕ). get_or (side f (v ∷ ws)) n 0) (let e : 2 * suc w ≡ suc (suc (2 * w)) = omega arith in e) ∙ side_first ws w

    pub side_second : (ws : List A) (w : ℕ) → get_or (side f ws) (2 * w + 1) 0 ≡ (f (get_or ws w d)).1
    unfolding side
    side_second [] w = ap (λ (p : Pair). p.1) (sym z)
    side_second (v ∷ ws) zero = refl
    side_second (v ∷ ws) (suc w) = ap (λ (n : ℕ). get_or (side f (v ∷ ws)) n 0) (let e : 2 * suc w + 1 ≡ suc (suc (2 * w + 1)) = omega arith in e) ∙ side_second ws w

-- three parts of one length, one after the other
module _ (a b c : List ℕ) (n : ℕ) (ha : length a ≡ n) (hb : length b ≡ n) where
  pub in_first : (k : ℕ) → k < n → get_or (a ++ (b ++ c)) (n * 0 + k) 0 ≡ get_or a k 0
  in_first k h =
      ap (λ (m : ℕ). get_or (a ++ (b ++ c)) m 0) (let e : n * 0 + k ≡ k = omega arith in e) ∙ get_or-append a (b ++ c) 0 k (omega arith)

  pub in_second : (k : ℕ) → k < n → get_or (a ++ (b ++ c)) (n * 1 + k) 0 ≡ get_or b k 0
  in_second k h =
      ap (λ (m : ℕ). get_or (a ++ (b ++ c)) m 0) (let e : n * 1 + k ≡ length a + k = omega arith in e) ∙ get_or-append-add a (b ++ c) k 0
      ∙ get_or-append b c 0 k (omega arith)

  pub in_third : (k : ℕ) → get_or (a ++ (b ++ c)) (n * 2 + k) 0 ≡ get_or c k 0
  in_third k =
      ap (λ (m : ℕ). get_or (a ++ (b ++ c)) m 0) (let e : n * 2 + k ≡ length a + (length b + k) = omega arith in e)
      ∙ get_or-append-add a (b ++ c) (length b + k) 0 ∙ get_or-append-add b c k 0

  -- each of them whole
  abbrev Whole : Type 0
  Whole = (take n (drop (n * 0) (a ++ (b ++ c))) ≡ a) × (take n (drop (n * 1) (a ++ (b ++ c))) ≡ b) × (take n (drop (n * 2) (a ++ (b ++ c))) ≡ c)

  whole : length c ≡ n → Whole
  whole hc = (
    ap (λ (m : ℕ). take n (drop m (a ++ (b ++ c)))) (let e : n * 0 ≡ 0 = omega arith in e) ∙ take_at a (b ++ c) n ha,
    ap (λ (m : ℕ). take n (drop m (a ++ (b ++ c)))) (let e : n * 1 ≡ n = omega arith in e) ∙ ap (take n) (drop_at a (b ++ c) n ha) ∙ take_at b c n hb,
    ap (λ (m : ℕ). take n (drop m (a ++ (b ++ c)))) (let e : n * 2 ≡ n + n = omega arith in e)
        ∙ ap (take n) (sym (drop-drop n n (a ++ (b ++ c))) ∙ ap (drop n) (drop_at a (b ++ c) n ha) ∙ drop_at b c n hb) ∙ take_all n c (le_of_eq hc),
  )

module _ (ws : List Wire) where
  abbrev part : Site → List ℕ
  part s = side (λ (w : Wire). of w s) ws

  part_length : (s : Site) → length (part s) ≡ 2 * length ws
  part_length s = side_length (λ (w : Wire). of w s) ws

  -- what stands in the part of a site
  pub store_part : (s : Site) (k : ℕ) → k < 2 * length ws → get_or (store ws) (2 * length ws * sites_before s + k) 0 ≡ get_or (part s) k 0
  unfolding store
  store_part s1 k h = in_first (part s1) (part s2) (part s3) (2 * length ws) (part_length s1) (part_length s2) k h
  store_part s2 k h = in_second (part s1) (part s2) (part s3) (2 * length ws) (part_length s1) (part_length s2) k h
  store_part s3 k h = in_third (part s1) (part s2) (part s3) (2 * length ws) (part_length s1) (part_length s2) k

  pub store_length : length (store ws) ≡ 6 * length ws
  unfolding store
  store_length =
      let a = part_length s1 in let b = part_length s2 in let c = part_length s3 in
      let l1 = length-append (part s2) (part s3) in
      let l2 = length-append (part s1) (part s2 ++ part s3) in
      omega arith

none_held : (s : Site) → of no_wire s ≡ (0, 0)
none_held s1 = refl
none_held s2 = refl
none_held s3 = refl

-- the two bytes of wire w, in the part of site s
pub store_at : (ws : List Wire) (n : ℕ) → length ws ≡ n → (s : Site) (w : ℕ) → w < n
    → (get_or (store ws) (2 * n * sites_before s + 2 * w) 0 ≡ (of (get_or ws w no_wire) s).0)
    × (get_or (store ws) (2 * n * sites_before s + (2 * w + 1)) 0 ≡ (of (get_or ws w no_wire) s).1)
store_at ws n e s w h = (
  ap (λ (m : ℕ). get_or (store ws) (2 * m * sites_before s + 2 * w) 0) (sym e)
      ∙ store_part ws s (2 * w) (omega arith) ∙ side_first (λ (v : Wire). of v s) no_wire (none_held s) ws w,
  ap (λ (m : ℕ). get_or (store ws) (2 * m * sites_before s + (2 * w + 1)) 0) (sym e)
      ∙ store_part ws s (2 * w + 1) (omega arith) ∙ side_second (λ (v : Wire). of v s) no_wire (none_held s) ws w,
)

-- the whole part of site s
pub store_side : (ws : List Wire) (n : ℕ) → length ws ≡ n → (s : Site) → take (2 * n) (drop (2 * n * sites_before s) (store ws)) ≡ side (λ (w : Wire). of w s) ws
unfolding store
store_side ws n e = by_site (λ s. take (2 * n) (drop (2 * n * sites_before s) (part ws s1 ++ (part ws s2 ++ part ws s3))) ≡ part ws s) w.0 w.1 w.2
  where
    long : (s : Site) → length (part ws s) ≡ 2 * n
    long s = part_length ws s ∙ ap (λ (m : ℕ). 2 * m) e

    w : Whole (part ws s1) (part ws s2) (part ws s3) (2 * n) (long s1) (long s2)
    w = whole (part ws s1) (part ws s2) (part ws s3) (2 * n) (long s1) (long s2) (long s3)

-- what a site holds of published parts
pub side_held : (s : Site) (ps : List Parts) → side (λ (w : Wire). of w s) (map hold ps) ≡ side (mine s) ps
unfolding side
side_held s [] = refl
side_held s (P ∷ ps) =
    let e : of (hold P) s ≡ mine s P = by_site (λ s. of (hold P) s ≡ mine s P) refl refl refl s in
    λ i. (e i).0 ∷ (e i).1 ∷ side_held s ps i

pub fill_length : (old new : List ℕ) → length new ≤ length old → length (fill old new) ≡ length old
unfolding fill
fill_length old new h = length-append new (drop (length new) old) ∙ (let k = length-drop (length new) old in omega arith)

-- what is written is read back
pub fill_read : (old new : List ℕ) (i : ℕ) → i < length new → get_or (fill old new) i 0 ≡ get_or new i 0
unfolding fill
fill_read old new i h = get_or-append new _ 0 i h

-- nothing is left of what was before
pub fill_all : (old new : List ℕ) → length new ≡ length old → fill old new ≡ new
unfolding fill
fill_all old new h = ap (λ z. new ++ z) (drop_of_length-le old (le_of_eq (sym h))) ∙ append-nil new

-- the rest is as it was
pub fill_rest : (old new : List ℕ) → drop (length new) (fill old new) ≡ drop (length new) old
unfolding fill
fill_rest old new = drop-append_seam new (drop (length new) old)

-- written on at the seam, one byte more
pub fill_one : (old new : List ℕ) (k v : ℕ) → length new ≡ k → k < length old → set (fill old new) k v ≡ fill old (new ++ (v ∷ []))
unfolding fill
fill_one old new k v e h =
    let l : length (new ++ (v ∷ [])) ≡ suc (length new) = length-append new (v ∷ []) ∙ add-one (length new) in
    ap (λ z. set (new ++ z) k v) (drop-cons old (length new) 0 (omega arith))
    ∙ set_at new _ (drop (suc (length new)) old) v k e
    ∙ sym (append_snoc new v (drop (suc (length new)) old))
    ∙ ap (λ (n : ℕ). new ++ (v ∷ []) ++ drop n old) (sym l)
