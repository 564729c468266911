-- Re-taping on tapes as they are lent.
--     Kept            inputs that keep a site's own values and all opened ones
--     same_view        with the new tapes and the second inputs the site sees the same
--     same_pairs       and holds the same parts of every wire
--     only_these       no other tapes of the right length do it
--     there_and_back   going back returns the first tapes
--     by_third         going by way of a third set of inputs returns what going straight does
--     new_length, new_in    the new tapes have the right length and stay in a closed set
-- Assumes nothing.
use mathlib.Core.Path.{◌≡◌, sym, ap, ◌∙◌}
use mathlib.Core.Bool.{Bool, true, false, cond}
use mathlib.Core.List.{List, map}
use Prim.Native.Nat.{ℕ, ◌<◌}
use lib.ListN.{length, get_or}
use Rattle.theory_sharing.specs.Ops.{Ops}
use Rattle.theory_sharing.specs.Sites.{Site, s1, s2, s3, next, is}
use Rattle.theory_sharing.specs.Circuit.{Gate, XOR, AND, OR, NOT, Circuit, Draws}
use Rattle.theory_sharing.specs.Values.{values}
use Rattle.theory_sharing.specs.Published.{Parts, no_parts, parts}
use Rattle.theory_sharing.specs.Steps.{Pair}
use Rattle.theory_sharing.specs.Tapes.{tapes_sum, read, written}
use Rattle.theory_sharing.specs.View.{view_from}
use Rattle.theory_sharing.specs.Retape.{mine, next_product, flip_mine, next_shares, shift, retape, new_tapes}
use Rattle.theory_sharing.proofs.Group.{Group, Closed}
use Rattle.theory_sharing.proofs.Parts.{AllDraws, Each, parts_in, values_in, three_in}
use Rattle.theory_sharing.proofs.Mine.{retape_ok, look_mine, mine_same}
use Rattle.theory_sharing.proofs.Same.{view_same}
use Rattle.theory_sharing.proofs.Unique.{same_tapes}
use Rattle.theory_sharing.proofs.Used.{view_used, parts_used}
use Rattle.theory_sharing.proofs.TapeLaws.{read_written, written_is, written_length, AllIn, draws_all, written_all}
use Rattle.theory_sharing.proofs.Seen.{seen_view}
use Rattle.theory_sharing.proofs.ViewLaws.{view_is, Shown, shown}

module _ (G : Group) (s : Site) (C : Circuit) where
  open G use {ops as R}
  open G.laws use {Ok, ok_zero}

  pub record Kept (x y : ℕ → ℕ) : Type 0 where
    pub ok_x : (i : ℕ) → Ok (x i)
    pub ok_y : (i : ℕ) → Ok (y i)
    pub own : (i : ℕ) → C.owner i ≡ s → y i ≡ x i
    pub opens : (o : ℕ) → o < C.outs → get_or (values R C y C.gates) (C.out o) 0 ≡ get_or (values R C x C.gates) (C.out o) 0

  pub back : {x y : ℕ → ℕ} → Kept x y → Kept y x
  back a = record { ok_x = a.ok_y; ok_y = a.ok_x; own = λ i e. sym (a.own i e); opens = λ o h. sym (a.opens o h) }

  pub through : {x y z : ℕ → ℕ} → Kept x y → Kept y z → Kept x z
  through a b = record { ok_x = a.ok_x; ok_y = b.ok_y; own = λ i e. b.own i e ∙ a.own i e; opens = λ o h. b.opens o h ∙ a.opens o h }

  -- tapes as they are lent: the right length, and good draws
  pub record Taped (t : List ℕ) : Type 0 where
    pub long : length t ≡ tapes_sum C
    pub good : AllDraws Ok (read C t)

  moved_ok : {x y : ℕ → ℕ} (T : Draws) → AllDraws Ok T → Kept x y → AllDraws Ok (retape R s C x y T)
  moved_ok {x} {y} T ok a = retape_ok G s C x y T ok a.ok_x a.ok_y a.own

  pub new_length : (x y : ℕ → ℕ) (t : List ℕ) → length (new_tapes R s C x y t) ≡ tapes_sum C
  unfolding new_tapes
  new_length x y t = written_length C (retape R s C x y (read C t))

  seen_same : {x y : ℕ → ℕ} (t : List ℕ) → AllDraws Ok (read C t) → Kept x y
      → seen_view R s C y (read C (new_tapes R s C x y t)) ≡ seen_view R s C x (read C t)
  unfolding new_tapes
  seen_same {x} {y} t ok a =
      view_used R s C y (read C (written C (retape R s C x y (read C t)))) (retape R s C x y (read C t)) (read_written C (retape R s C x y (read C t)))
      ∙ view_same G s C x y (read C t) ok a.ok_x a.ok_y a.own a.opens

  pub same_view : {x y : ℕ → ℕ} (t : List ℕ) → Taped t → Taped (new_tapes R s C x y t) → Kept x y
      → view_from R s C y (new_tapes R s C x y t) ≡ view_from R s C x t
  same_view {x} {y} t h h' a =
      view_is G s C y (new_tapes R s C x y t) h'.long h'.good ∙ seen_same t h.good a ∙ sym (view_is G s C x t h.long h.good)

  pub same_pairs : {x y : ℕ → ℕ} (t : List ℕ) → AllDraws Ok (read C t) → Kept x y
      → map (mine s) (parts R C y (read C (new_tapes R s C x y t)) C.gates) ≡ map (mine s) (parts R C x (read C t) C.gates)
  unfolding new_tapes
  same_pairs {x} {y} t ok a =
      ap (map (mine s))
      (parts_used R s C y (read C (written C (retape R s C x y (read C t)))) (retape R s C x y (read C t)) (read_written C (retape R s C x y (read C t))))
      ∙ mine_same G s C x y (read C t) ok a.ok_x a.ok_y a.own C.gates

  pub only_these : {x y : ℕ → ℕ} (t u : List ℕ) → Taped t → Taped u → Kept x y → view_from R s C y u ≡ view_from R s C x t → u ≡ new_tapes R s C x y t
  unfolding new_tapes
  only_these {x} {y} t u ht hu a e =
      written_is C u (retape R s C x y (read C t)) hu.long
      (same_tapes G s C y (read C u) (retape R s C x y (read C t)) a.ok_y hu.good (moved_ok (read C t) ht.good a)
      (sym (view_is G s C y u hu.long hu.good) ∙ e ∙ view_is G s C x t ht.long ht.good
      ∙ sym (view_same G s C x y (read C t) ht.good a.ok_x a.ok_y a.own a.opens)))

  pub there_and_back : {x y : ℕ → ℕ} (t : List ℕ) → Taped t → Taped (new_tapes R s C x y t) → Kept x y
      → new_tapes R s C y x (new_tapes R s C x y t) ≡ t
  there_and_back {x} {y} t h h' a = sym (only_these (new_tapes R s C x y t) t h' h (back a) (sym (same_view t h h' a)))

  pub by_third : {x y z : ℕ → ℕ} (t : List ℕ) → Taped t → Taped (new_tapes R s C x y t) → Taped (new_tapes R s C x z t) → Kept x y → Kept y z
      → new_tapes R s C y z (new_tapes R s C x y t) ≡ new_tapes R s C x z t
  by_third {x} {y} {z} t h hy hz a b =
      sym (only_these (new_tapes R s C x y t) (new_tapes R s C x z t) hy hz b
      (same_view t h hz (through a b) ∙ sym (same_view t h hy a)))

  -- equal views show equal own inputs and equal opened values
  pub view_shows : {x y : ℕ → ℕ} (t u : List ℕ) → Taped t → Taped u → ((i : ℕ) → Ok (x i)) → ((i : ℕ) → Ok (y i))
      → view_from R s C y u ≡ view_from R s C x t → Shown G s C x y (read C t) (read C u)
  view_shows {x} {y} t u ht hu okx oky e =
      shown G s C x y (read C t) (read C u) okx oky (sym (view_is G s C y u hu.long hu.good) ∙ e ∙ view_is G s C x t ht.long ht.good)

-- the new tapes stay in a closed set
module _ (R : Ops) {In : ℕ → Type 0} (K : Closed R In) where
  open K use {in_zero, in_one, in_add, in_sub, in_mul}

  pub record In2 (p : Pair) : Type 0 where
    pub in_first : In p.0
    pub in_second : In p.1

  flip_in2 : (s : Site) (p : Pair) → In2 p → In2 (flip_mine R s p)
  flip_in2 s1 p h = record { in_first = in_add _ _ h.in_first in_one; in_second = h.in_second }
  flip_in2 s2 p h = h
  flip_in2 s3 p h = record { in_first = h.in_first; in_second = in_add _ _ h.in_second in_one }

  mine_in : (s : Site) (P : Parts) → Each In P → In2 (mine s P)
  mine_in s1 P h = record { in_first = h.in1; in_second = h.in2 }
  mine_in s2 P h = record { in_first = h.in2; in_second = h.in3 }
  mine_in s3 P h = record { in_first = h.in3; in_second = h.in1 }

  next_in : (p q : Pair) (u v : ℕ) → In2 p → In2 q → In u → In v → In (next_product R p u q v)
  next_in p q u v hp hq hu hv =
      three_in R K _ _ _ _ hp.in_second (in_sub _ _ (in_sub _ _ hu hp.in_first) hp.in_second)
      hq.in_second (in_sub _ _ (in_sub _ _ hv hq.in_first) hq.in_second)

  behind_in : (s : Site) (k : Gate) (ms : List Pair) (vs : List ℕ) → ((w : ℕ) → In2 (get_or ms w (0, 0))) → ((w : ℕ) → In (get_or vs w 0)) → In (next_shares R s k ms vs)
  unfolding next_shares
  behind_in s (XOR i j) ms vs h k = in_zero
  behind_in s (AND i j) ms vs h k = next_in _ _ _ _ (h i) (h j) (k i) (k j)
  behind_in s (OR i j) ms vs h k =
      next_in _ _ _ _ (flip_in2 s _ (h i)) (flip_in2 s _ (h j)) (in_add _ _ (k i) in_one) (in_add _ _ (k j) in_one)
  behind_in s (NOT i) ms vs h k = in_zero

  shift_in : (s t : Site) (d δ : ℕ) → In d → In δ → In (shift R s t d δ)
  unfolding shift
  shift_in s t d δ h k = go (is (next s) t)
    where
      go : (b : Bool) → In (cond b (R.add d δ) d)
      go true = in_add d δ h k
      go false = h

  module _ (s : Site) (C : Circuit) (x y : ℕ → ℕ) (T : Draws) (hx : (i : ℕ) → In (x i)) (hy : (i : ℕ) → In (y i)) (hT : AllDraws In T)
      (look : (ps : List Parts) (w : ℕ) → mine s (get_or ps w no_parts) ≡ get_or (map (mine s) ps) w (0, 0)) where
    pairs_in : (g w : ℕ) → In2 (get_or (map (mine s) (parts R C x T g)) w (0, 0))
    pairs_in g w = rw (← look (parts R C x T g) w) (mine_in s (get_or (parts R C x T g) w no_parts) (parts_in R K C x T hx hT g w))

    pub retape_in : AllDraws In (retape R s C x y T)
    unfolding retape
    retape_in = record {
      of_in1 = λ i. shift_in s (C.owner i) _ _ (hT.of_in1 i) (in_sub _ _ (hy i) (hx i));
      of_in2 = hT.of_in2;
      of_g1 = λ g t. shift_in s t _ _ (hT.of_g1 g t)
          (in_sub _ _ (behind_in s (C.gate g) _ _ (pairs_in g) (values_in R K C y hy g)) (behind_in s (C.gate g) _ _ (pairs_in g) (values_in R K C x hx g)));
      of_g2 = hT.of_g2;
    }

pub new_in : (G : Group) {In : ℕ → Type 0} (K : Closed G.ops In) (s : Site) (C : Circuit) (x y : ℕ → ℕ) (t : List ℕ)
    → ((i : ℕ) → In (x i)) → ((i : ℕ) → In (y i)) → AllIn In K.in_zero t → AllIn In K.in_zero (new_tapes G.ops s C x y t)
unfolding new_tapes
new_in G {In} K s C x y t hx hy ht =
    written_all In K.in_zero C (retape G.ops s C x y (read C t))
    (retape_in G.ops K s C x y (read C t) hx hy (draws_all In K.in_zero C t ht) (look_mine G s))
