-- The three sites' parts of the store, each lent with both its ends.
--     pair_eq                    two equal bytes are an equal pair
--     side_snoc                  a wire more in a site's part
--     pair_read, pair_put        a wire's two bytes in a part that is filled as far as it is
--     part_length                a part stays as long as it is
--     lent_middle, on_middle     what a site sees, and what its step leaves, in the middle of a store
--     part_of, join              what a site sees of a store; three parts as a store
--     see_part, at_three         of three parts each site sees its own, and three steps are one on each
--     part_long, parts_joined    a store is the three parts that the sites see
--     pair_ext                   a part is its pairs
use mathlib.Core.Path.{◌≡◌, refl, sym, ap, ap₂, ◌∙◌}
use mathlib.Core.Logic.{◌⊎◌, inl, inr, ⊎_elim}
use mathlib.Core.List.{List, [], ◌∷◌, ◌++◌, append_assoc, append-nil}
use Prim.Native.Nat.{ℕ, zero, suc, ◌+◌, ◌*◌, ◌-◌, ◌≤◌, ◌<◌}
use native.Mathlib.Omega.{arith}
use lib.ListN.{length, get_or, take, drop, length-append, length-drop, take-append-drop}
use lib.Seq.{take_at, drop_at, length-take-le, take_all, drop-drop, ext_get_or}
use Rattle.theory_sharing.specs.Sites.{Site, s1, s2, s3}
use Rattle.theory_sharing.specs.Steps.{Pair}
use Rattle.theory_sharing.specs.Store.{side, fill}
use Rattle.theory_sharing.proofs.StoreLaws.{side_length, side_first, side_second, fill_length, fill_read}
use Rattle.run_site.specs.Mirror.{pair_at, put_at}
use Rattle.run_steps.specs.Mirror.{lent, on_part, at_sites, part1, part2, part3}
use Rattle.run_laws.proofs.FillLaws.{fill_two}

-- two equal bytes are an equal pair
pub pair_eq : {a b c d : ℕ} → a ≡ c → b ≡ d → ◌≡◌ {A = Pair} (a, b) (c, d)
pair_eq p q = λ i. (p i, q i)

-- ---- one site's part
module _ {A : Type 0} (f : A → Pair) where
  -- a wire is made at the end
  pub side_snoc : (ws : List A) (w : A) → side f (ws ++ (w ∷ [])) ≡ side f ws ++ ((f w).0 ∷ (f w).1 ∷ [])
  unfolding side
  side_snoc [] w = refl
  side_snoc (v ∷ ws) w = ap (λ (l : List ℕ). (f v).0 ∷ (f v).1 ∷ l) (side_snoc ws w)

  -- every read of an operand
  pub pair_read : (d : A) → f d ≡ (0, 0) → (p : List ℕ) (ws : List A) (a : ℕ) → a < length ws → pair_at (fill p (side f ws)) a ≡ f (get_or ws a d)
  pair_read d z p ws a h =
      let l = side_length f ws in
      pair_eq (fill_read p (side f ws) (2 * a) (omega arith) ∙ side_first f d z ws a) (fill_read p (side f ws) (2 * a + 1) (omega arith) ∙ side_second f d z ws a)

  -- every write of a new wire
  pub pair_put : (p : List ℕ) (ws : List A) (w : ℕ) (new : A) → length ws ≡ w → 2 * w + 2 ≤ length p
      → put_at w (f new) (fill p (side f ws)) ≡ fill p (side f (ws ++ (new ∷ [])))
  unfolding put_at
  pair_put p ws w new e h =
      let l = side_length f ws in
      fill_two p (side f ws) (2 * w) _ _ (omega arith) h ∙ ap (fill p) (sym (side_snoc ws new))

  -- a part stays as long as it is
  pub part_length : (n : ℕ) (p : List ℕ) (ws : List A) → length p ≡ 2 * n → length ws ≤ n → length (fill p (side f ws)) ≡ 2 * n
  part_length n p ws e h = let l = side_length f ws in fill_length p (side f ws) (omega arith) ∙ e

-- ---- in the middle of a store
module _ (a e : ℕ) (x y z : List ℕ) (ha : length x ≡ a) (he : length y ≡ e - a) where
  -- every loan of a part to be read
  pub lent_middle : lent a e (x ++ (y ++ z)) ≡ y
  lent_middle = ap (take (e - a)) (drop_at x (y ++ z) a ha) ∙ take_at y z (e - a) he

  -- every loan of a part to be written
  pub on_middle : (f : List ℕ → List ℕ) → on_part a e f (x ++ (y ++ z)) ≡ x ++ (f y ++ z)
  unfolding on_part
  on_middle f =
      ap₂ (λ u v. u ++ v) (take_at x (y ++ z) a ha)
      (ap₂ (λ u v. f u ++ v) lent_middle (ap (drop (e - a)) (drop_at x (y ++ z) a ha) ∙ drop_at y z (e - a) he))

-- ---- three parts
-- what a site sees
abbrev pub part_of : ℕ → List ℕ → Site → List ℕ
part_of n l s1 = part1 n l
part_of n l s2 = part2 n l
part_of n l s3 = part3 n l

abbrev pub join : (Site → List ℕ) → List ℕ
join p = p s1 ++ (p s2 ++ p s3)

pub join_eq : (p q : Site → List ℕ) → ((s : Site) → p s ≡ q s) → join p ≡ join q
join_eq p q e = λ i. e s1 i ++ (e s2 i ++ e s3 i)

-- the third part, as one with nothing behind it
last_part : (a b c : List ℕ) → a ++ (b ++ c) ≡ (a ++ b) ++ (c ++ [])
last_part a b c = sym (ap (λ z. (a ++ b) ++ z) (append-nil c) ∙ append_assoc a b c)

module _ (n : ℕ) (p : Site → List ℕ) (long : (s : Site) → length (p s) ≡ 2 * n) where
  pub join_long : length (join p) ≡ 6 * n
  join_long = let a = long s1 in let b = long s2 in let c = long s3 in let d = length-append (p s1) (p s2 ++ p s3) in let e = length-append (p s2) (p s3) in omega arith

  -- each site sees its own
  pub see_part : (s : Site) → part_of n (join p) s ≡ p s
  see_part s1 = let a = long s1 in lent_middle 0 (2 * n) [] (p s1) (p s2 ++ p s3) refl (omega arith)
  see_part s2 = let b = long s2 in lent_middle (2 * n) (4 * n) (p s1) (p s2) (p s3) (long s1) (omega arith)
  see_part s3 =
      let a = long s1 in let b = long s2 in let c = long s3 in let d = length-append (p s1) (p s2) in
      ap (lent (4 * n) (6 * n)) (last_part (p s1) (p s2) (p s3)) ∙ lent_middle (4 * n) (6 * n) (p s1 ++ p s2) (p s3) [] (omega arith) (omega arith)

  -- three sites' steps are three steps
  pub at_three : (f : Site → List ℕ → List ℕ) → ((s : Site) → length (f s (p s)) ≡ 2 * n) → at_sites n (f s1) (f s2) (f s3) (join p) ≡ join (λ s. f s (p s))
  unfolding at_sites
  at_three f lf =
      let a = long s1 in let b = long s2 in let c = long s3 in let d = lf s1 in let e = lf s2 in let l = length-append (f s1 (p s1)) (f s2 (p s2)) in
      ap (λ z. on_part (4 * n) (6 * n) (f s3) (on_part (2 * n) (4 * n) (f s2) z)) (on_middle 0 (2 * n) [] (p s1) (p s2 ++ p s3) refl (omega arith) (f s1))
      ∙ ap (on_part (4 * n) (6 * n) (f s3)) (on_middle (2 * n) (4 * n) (f s1 (p s1)) (p s2) (p s3) d (omega arith) (f s2) ∙ last_part (f s1 (p s1)) (f s2 (p s2)) (p s3))
      ∙ on_middle (4 * n) (6 * n) (f s1 (p s1) ++ f s2 (p s2)) (p s3) [] (omega arith) (omega arith) (f s3)
      ∙ sym (last_part (f s1 (p s1)) (f s2 (p s2)) (f s3 (p s3)))

-- ---- a store
module _ (n : ℕ) (l : List ℕ) (hl : length l ≡ 6 * n) where
  pub part_long : (s : Site) → length (part_of n l s) ≡ 2 * n
  part_long s1 = length-take-le (2 * n - 0) l (omega arith) ∙ omega arith
  part_long s2 = let d = length-drop (2 * n) l in length-take-le (4 * n - 2 * n) (drop (2 * n) l) (omega arith) ∙ omega arith
  part_long s3 = let d = length-drop (4 * n) l in length-take-le (6 * n - 4 * n) (drop (4 * n) l) (omega arith) ∙ omega arith

  -- it is the parts that the sites see
  pub parts_joined : l ≡ join (part_of n l)
  parts_joined =
      let d = length-drop (4 * n) l in
      let e : 2 * n + (4 * n - 2 * n) ≡ 4 * n = omega arith in
      let third : drop (4 * n - 2 * n) (drop (2 * n) l) ≡ part3 n l
      = drop-drop (4 * n - 2 * n) (2 * n) l ∙ ap (λ (k : ℕ). drop k l) e ∙ sym (take_all (6 * n - 4 * n) (drop (4 * n) l) (omega arith)) in
      sym (take-append-drop (2 * n) l)
      ∙ ap₂ (λ (k : ℕ) z. take k l ++ z) (let f : 2 * n ≡ 2 * n - 0 = omega arith in f)
      (sym (take-append-drop (4 * n - 2 * n) (drop (2 * n) l)) ∙ ap (λ z. part2 n l ++ z) third)

half : (i : ℕ) → (p : ℕ) × ((i ≡ 2 * p) ⊎ (i ≡ 2 * p + 1))
half zero = (0, inl refl)
half (suc i) = let r = half i in ⊎_elim (λ e. (r.0, inr (omega arith))) (λ e. (r.0 + 1, inl (omega arith))) r.1

-- a part is its pairs
pub pair_ext : (n : ℕ) (p q : List ℕ) → length p ≡ 2 * n → length q ≡ 2 * n → ((w : ℕ) → w < n → pair_at p w ≡ pair_at q w) → p ≡ q
pair_ext n p q a b h = ext_get_or 0 p q (a ∙ sym b) (λ i l. byte i l (half i))
  where
    byte : (i : ℕ) → i < length p → (w : ℕ) × ((i ≡ 2 * w) ⊎ (i ≡ 2 * w + 1)) → get_or p i 0 ≡ get_or q i 0
    byte i l r =
        ⊎_elim
        (λ e. ap (λ (z : ℕ). get_or p z 0) e ∙ ap (λ (z : Pair). z.0) (h r.0 (omega arith)) ∙ ap (λ (z : ℕ). get_or q z 0) (sym e))
        (λ e. ap (λ (z : ℕ). get_or p z 0) e ∙ ap (λ (z : Pair). z.1) (h r.0 (omega arith)) ∙ ap (λ (z : ℕ). get_or q z 0) (sym e))
        r.1
