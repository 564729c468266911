-- With the new draws site s sees the same.
--     view_same     own inputs, tape, delivered bits and opened values, each by the count
-- Assumes nothing.
use mathlib.Core.Path.{◌≡◌, refl, sym, ap, ap₂, ◌∙◌}
use mathlib.Core.List.{List, [], ◌∷◌, ◌++◌, map}
use Prim.Native.Nat.{ℕ, zero, suc, ◌<◌, ◌≤◌}
use native.Mathlib.Omega.{arith}
use lib.ListN.{get_or}
use Rattle.theory_sharing.specs.Sites.{Site, s1, s2, s3, next, prev, of, if_own}
use Rattle.theory_sharing.specs.Circuit.{Gate, XOR, AND, OR, NOT, Circuit, Draws}
use Rattle.theory_sharing.specs.Values.{values}
use Rattle.theory_sharing.specs.Order.{if_deals}
use Rattle.theory_sharing.specs.Published.{Parts, no_parts, total, share, flip_parts, three, left, right, product_of, parts}
use Rattle.theory_sharing.specs.Steps.{Pair, local}
use Rattle.theory_sharing.specs.Tapes.{ins_tape, tape}
use Rattle.theory_sharing.specs.View.{own_ins}
use Rattle.theory_sharing.specs.Retape.{mine, rest, next_product, flip_mine, next_shares, shift, retape}
use Rattle.theory_sharing.proofs.SiteLaws.{Seen, itself, behind, before, seen, own_behind, own_before}
use Rattle.theory_sharing.proofs.Group.{Group, move}
use Rattle.theory_sharing.proofs.Seen.{got, got_itself, ins_got, gates_got, all_got, seen_totals, seen_view}
use Rattle.theory_sharing.proofs.Parts.{value, look, flip_total, AllDraws, Each, AllParts, flip_ok, parts_ok}
use Rattle.theory_sharing.proofs.Mine.{both, share_behind, share_before, last_part, look_mine, mine_flip, shift_itself, shift_behind, shift_before, input_same, retape_ok, mine_same}

-- only what is its own counts
own_same : (s t : Site) → Seen s t → (l l' : List ℕ) → (t ≡ s → l ≡ l') → if_own s t l ≡ if_own s t l'
own_same s t itself l l' e = ap (if_own s s) (e refl)
own_same s t behind l l' e = own_behind s l ∙ sym (own_behind s l')
own_same s t before l l' e = own_before s l ∙ sym (own_before s l')

module _ (G : Group) where
  open G use {ops as R}
  open G.laws use {Ok, ok_zero, ok_add, ok_sub}
  open R use {add, sub, mul}

  -- the next site's product, by s's pairs and the values
  local_behind : (s : Site) (P Q : Parts) → Each Ok P → Each Ok Q
      → local R (mine (next s) P) (mine (next s) Q) ≡ next_product R (mine s P) (total R P) (mine s Q) (total R Q)
  local_behind s P Q hP hQ = rw (last_part G s P hP, last_part G s Q hQ) (go s)
    where
      go : (s : Site) → local R (mine (next s) P) (mine (next s) Q) ≡ three R (of P (next s)) (of P (prev s)) (of Q (next s)) (of Q (prev s))
      go s1 = refl
      go s2 = refl
      go s3 = refl

  -- one deal of a product, seen by s
  deal_same : (s t : Site) → Seen s t → (a b : Site → ℕ) (δ : ℕ) (v v' : Site → ℕ) (w w' : ℕ)
      → v (next s) ≡ w → v' (next s) ≡ w' → Ok w → Ok w' → δ ≡ sub w' w
      → got s t (mine s (share R t (v' t) (shift R s t (a t) δ) (b t))) ≡ got s t (mine s (share R t (v t) (a t) (b t)))
  deal_same s t itself a b δ v v' w w' e e' h h' d = got_itself s _ ∙ sym (got_itself s _)
  deal_same s t behind a b δ v v' w w' e e' h h' d =
      ap (got s (next s))
      (share_behind G s _ _ _
      ∙ both refl (rw (shift_behind G (a (next s)) δ s, d, e, e') (ap (λ (z : ℕ). sub z (b (next s))) (move G w w' (a (next s)) h h')))
      ∙ sym (share_behind G s _ _ _))
  deal_same s t before a b δ v v' w w' e e' h h' d =
      ap (got s (prev s)) (share_before G s _ _ _ ∙ both (shift_before G (a (prev s)) δ s) refl ∙ sym (share_before G s _ _ _))

  product_behind : (s : Site) (ps : List Parts) (P Q : Parts) (p q : Pair) (u v : ℕ) → Each Ok P → Each Ok Q
      → mine s P ≡ p → mine s Q ≡ q → total R P ≡ u → total R Q ≡ v
      → local R (mine (next s) P) (mine (next s) Q) ≡ next_product R p u q v
  product_behind s ps P Q p q u v hP hQ e1 e2 e3 e4 =
      local_behind s P Q hP hQ ∙ ap₂ (λ p u. next_product R p u (mine s Q) (total R Q)) e1 e3 ∙ ap₂ (λ q v. next_product R p u q v) e2 e4

  mul_behind : (s : Site) (i j : ℕ) (ps : List Parts) (ms : List Pair) (vs : List ℕ) → AllParts Ok ps → map (mine s) ps ≡ ms → map (total R) ps ≡ vs
      → product_of R (next s) (AND i j) ps ≡ next_shares R s (AND i j) ms vs
  unfolding left right next_shares
  mul_behind s i j ps ms vs h em ev =
      product_behind s ps (get_or ps i no_parts) (get_or ps j no_parts) _ _ _ _ (h i) (h j)
      (look_mine G s ps i ∙ ap (λ l. get_or l i (0, 0)) em) (look_mine G s ps j ∙ ap (λ l. get_or l j (0, 0)) em)
      (look G ps i ∙ ap (λ l. get_or l i 0) ev) (look G ps j ∙ ap (λ l. get_or l j 0) ev)

  or_behind : (s : Site) (i j : ℕ) (ps : List Parts) (ms : List Pair) (vs : List ℕ) → AllParts Ok ps → map (mine s) ps ≡ ms → map (total R) ps ≡ vs
      → product_of R (next s) (OR i j) ps ≡ next_shares R s (OR i j) ms vs
  unfolding left right next_shares
  or_behind s i j ps ms vs h em ev =
      product_behind s ps (flip_parts R (get_or ps i no_parts)) (flip_parts R (get_or ps j no_parts)) _ _ _ _ (flip_ok G _ (h i)) (flip_ok G _ (h j))
      (mine_flip G s _ ∙ ap (flip_mine R s) (look_mine G s ps i ∙ ap (λ l. get_or l i (0, 0)) em))
      (mine_flip G s _ ∙ ap (flip_mine R s) (look_mine G s ps j ∙ ap (λ l. get_or l j (0, 0)) em))
      (flip_total G _ ∙ ap (λ (z : ℕ). add z 1) (look G ps i ∙ ap (λ l. get_or l i 0) ev))
      (flip_total G _ ∙ ap (λ (z : ℕ). add z 1) (look G ps j ∙ ap (λ l. get_or l j 0) ev))

  product_ok : (s : Site) (k : Gate) (ms : List Pair) (vs : List ℕ) → Ok (next_shares R s k ms vs)
  unfolding next_shares
  product_ok s (XOR i j) ms vs = ok_zero
  product_ok s (AND i j) ms vs = ok_add _ _
  product_ok s (OR i j) ms vs = ok_add _ _
  product_ok s (NOT i) ms vs = ok_zero

  module _ (s : Site) (a b : Site → ℕ) (ps ps' : List Parts) (ms : List Pair) (vs vs' : List ℕ) where
    -- the twelve bits of a gate, as far as they reach s
    abbrev bits_to : Gate → List Parts → (Site → ℕ) → List ℕ
    bits_to k ps a =
        got s s1 (mine s (share R s1 (product_of R s1 k ps) (a s1) (b s1)))
        ++ got s s2 (mine s (share R s2 (product_of R s2 k ps) (a s2) (b s2)))
        ++ got s s3 (mine s (share R s3 (product_of R s3 k ps) (a s3) (b s3)))

    abbrev new : Gate → Site → ℕ
    new k t = shift R s t (a t) (sub (next_shares R s k ms vs') (next_shares R s k ms vs))

    three_same : (k : Gate) → product_of R (next s) k ps ≡ next_shares R s k ms vs → product_of R (next s) k ps' ≡ next_shares R s k ms vs'
        → bits_to k ps' (new k) ≡ bits_to k ps a
    three_same k e e' = ap₂ ◌++◌ (ap₂ ◌++◌ (one s1) (one s2)) (one s3)
      where
        one : (t : Site) → got s t (mine s (share R t (product_of R t k ps') (new k t) (b t))) ≡ got s t (mine s (share R t (product_of R t k ps) (a t) (b t)))
        one t = deal_same s t (seen s t) a b _ (λ t. product_of R t k ps) (λ t. product_of R t k ps') _ _ e e' (product_ok s k ms vs) (product_ok s k ms vs') refl

    seg_same : (k : Gate) → AllParts Ok ps → AllParts Ok ps' → map (mine s) ps ≡ ms → map (mine s) ps' ≡ ms → map (total R) ps ≡ vs → map (total R) ps' ≡ vs'
        → if_deals k (bits_to k ps' (new k)) ≡ if_deals k (bits_to k ps a)
    unfolding if_deals
    seg_same (XOR i j) h h' em em' ev ev' = refl
    seg_same (AND i j) h h' em em' ev ev' = three_same (AND i j) (mul_behind s i j ps ms vs h em ev) (mul_behind s i j ps' ms vs' h' em' ev')
    seg_same (OR i j) h h' em em' ev ev' = three_same (OR i j) (or_behind s i j ps ms vs h em ev) (or_behind s i j ps' ms vs' h' em' ev')
    seg_same (NOT i) h h' em em' ev ev' = refl

  module _ (s : Site) (C : Circuit) (x x' : ℕ → ℕ) (T : Draws) (ok : AllDraws Ok T)
      (okx : (i : ℕ) → Ok (x i)) (okx' : (i : ℕ) → Ok (x' i)) (own : (i : ℕ) → C.owner i ≡ s → x' i ≡ x i) where
    own_ins_same : (i : ℕ) → own_ins s C x' i ≡ own_ins s C x i
    unfolding own_ins
    own_ins_same zero = refl
    own_ins_same (suc i) = ap₂ ◌++◌ (own_ins_same i) (own_same s (C.owner i) (seen s (C.owner i)) _ _ (λ e. ap (λ (z : ℕ). z ∷ []) (own i e)))

    ins_tape_same : (i : ℕ) → ins_tape C (retape R s C x x' T) s i ≡ ins_tape C T s i
    unfolding ins_tape retape
    ins_tape_same zero = refl
    ins_tape_same (suc i) =
        ap₂ ◌++◌ (ins_tape_same i)
        (own_same s (C.owner i) (seen s (C.owner i)) _ _
        (λ e. ap (λ (z : ℕ). z ∷ T.in2 i ∷ []) (ap (λ t. shift R s t (T.in1 i) (sub (x' i) (x i))) e ∙ shift_itself G _ _ s)))

    tape_same : (g : ℕ) → tape C (retape R s C x x' T) s g ≡ tape C T s g
    unfolding tape retape
    tape_same zero = ins_tape_same C.ins
    tape_same (suc g) = ap₂ ◌++◌ (tape_same g) (ap (λ (z : ℕ). if_deals (C.gate g) (z ∷ T.g2 g s ∷ [])) (shift_itself G _ _ s))

    ins_got_same : (i : ℕ) → ins_got R s C x' (retape R s C x x' T) i ≡ ins_got R s C x T i
    unfolding ins_got retape
    ins_got_same zero = refl
    ins_got_same (suc i) =
        ap₂ ◌++◌ (ins_got_same i)
        (ap (got s (C.owner i)) (input_same G s (C.owner i) (seen s (C.owner i)) (x i) (x' i) (T.in1 i) (T.in2 i) (okx i) (okx' i) (own i)))

    gates_got_same : (g : ℕ) → gates_got R s C x' (retape R s C x x' T) g ≡ gates_got R s C x T g
    unfolding gates_got retape
    gates_got_same zero = ins_got_same C.ins
    gates_got_same (suc g) =
        ap₂ ◌++◌ (gates_got_same g)
        (seg_same s (T.g1 g) (T.g2 g) (parts R C x T g) (parts R C x' (retape R s C x x' T) g)
        (map (mine s) (parts R C x T g)) (values R C x g) (values R C x' g) (C.gate g)
        (parts_ok G C x T ok g) (parts_ok G C x' (retape R s C x x' T) (retape_ok G s C x x' T ok okx okx' own) g)
        refl (mine_same G s C x x' T ok okx okx' own g) (value G C x T okx g) (value G C x' (retape R s C x x' T) okx' g))

    module _ (opens : (o : ℕ) → o < C.outs → get_or (values R C x' C.gates) (C.out o) 0 ≡ get_or (values R C x C.gates) (C.out o) 0) where
      out : (ℕ → ℕ) → Draws → ℕ → Parts
      out x T o = get_or (parts R C x T C.gates) (C.out o) no_parts

      out_total : (o : ℕ) → o < C.outs → total R (out x' (retape R s C x x' T) o) ≡ total R (out x T o)
      unfolding out
      out_total o h =
          look G (parts R C x' (retape R s C x x' T) C.gates) (C.out o) ∙ ap (λ l. get_or l (C.out o) 0) (value G C x' (retape R s C x x' T) okx' C.gates)
          ∙ opens o h ∙ sym (look G (parts R C x T C.gates) (C.out o) ∙ ap (λ l. get_or l (C.out o) 0) (value G C x T okx C.gates))

      out_mine : (o : ℕ) → mine s (out x' (retape R s C x x' T) o) ≡ mine s (out x T o)
      unfolding out
      out_mine o =
          look_mine G s (parts R C x' (retape R s C x x' T) C.gates) (C.out o)
          ∙ ap (λ l. get_or l (C.out o) (0, 0)) (mine_same G s C x x' T ok okx okx' own C.gates)
          ∙ sym (look_mine G s (parts R C x T C.gates) (C.out o))

      out_last : (o : ℕ) → o < C.outs → of (out x' (retape R s C x x' T) o) (prev s) ≡ of (out x T o) (prev s)
      unfolding out
      out_last o h =
          sym (last_part G s (out x' (retape R s C x x' T) o) (parts_ok G C x' (retape R s C x x' T) (retape_ok G s C x x' T ok okx okx' own) C.gates (C.out o)))
          ∙ ap₂ (λ v p. rest R v p.0 p.1) (out_total o h) (out_mine o)
          ∙ last_part G s (out x T o) (parts_ok G C x T ok C.gates (C.out o))

      all_got_same : (n : ℕ) → n ≤ C.outs → all_got R s C x' (retape R s C x x' T) n ≡ all_got R s C x T n
      unfolding all_got out
      all_got_same zero h = gates_got_same C.gates
      all_got_same (suc o) h = ap₂ ◌++◌ (all_got_same o (omega arith)) (ap (λ (z : ℕ). z ∷ z ∷ []) (out_last o h))

      outs_same : (n : ℕ) → n ≤ C.outs → seen_totals R s C x' (retape R s C x x' T) n ≡ seen_totals R s C x T n
      unfolding seen_totals out
      outs_same zero h = refl
      outs_same (suc o) h = ap₂ ◌++◌ (outs_same o (omega arith)) (ap (λ (z : ℕ). z ∷ []) (out_total o h))

      pub view_same : seen_view R s C x' (retape R s C x x' T) ≡ seen_view R s C x T
      unfolding seen_view
      view_same =
          ap₂ ◌++◌ (ap₂ ◌++◌ (ap₂ ◌++◌ (own_ins_same C.ins) (tape_same C.gates)) (all_got_same C.outs (omega arith))) (outs_same C.outs (omega arith))
