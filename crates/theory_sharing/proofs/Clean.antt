-- On a clean line the three sites do what is published.
--     held            each site's pair of every wire is the published parts that it holds
--     opened_value    every output opens to its value at all three sites
--     no_objection    and nobody objects
--     clean_sent      every bit sent is the published one
-- Assumes nothing.
use mathlib.Core.Path.{◌≡◌, refl, sym, ap, ap₂, ◌∙◌}
use mathlib.Core.List.{List, [], ◌∷◌, ◌++◌, map}
use Prim.Native.Nat.{ℕ, zero, suc}
use lib.ListN.{get_or, get_or-map}
use borrow.Author.Tests.{eq-eqb}
use Rattle.theory_sharing.specs.Sites.{Site, s1, s2, s3, Trio}
use Rattle.theory_sharing.specs.Circuit.{Gate, XOR, AND, OR, NOT, Circuit, Draws, none, no_errors}
use Rattle.theory_sharing.specs.Values.{values}
use Rattle.theory_sharing.specs.Order.{if_deals}
use Rattle.theory_sharing.specs.Published.{Parts, no_parts, Deal, deal, dealt, deal_bits, open_bits, total, add_parts, flip_parts, mul_parts, gate_parts, left, right, product_of, ins_parts, parts, out_parts, ins_bits, gates_bits, sent_bits}
use Rattle.theory_sharing.specs.Steps.{no_wire, hold, delivered, in_wire, add_wire, flip, deals, delivered3, mix, mul_wire, gate_wire, gate_delivered, unlike, objecting, copies, six, opened}
use Rattle.theory_sharing.specs.Run.{ins_after, after, ins_delivered, gates_delivered, output, out_delivered, objects, opens_delivered, opened_at}
use Rattle.theory_sharing.proofs.Group.{Group, sums, turn}
use Rattle.theory_sharing.proofs.Parts.{map_snoc, AllDraws, Each, parts_ok, total_at}

pub look_hold : (ps : List Parts) (w : ℕ) → get_or (map hold ps) w no_wire ≡ hold (get_or ps w no_parts)
look_hold ps w = get_or-map hold ps w no_parts

-- the same at all three sites
abbrev pub thrice : ℕ → Trio ℕ
thrice v = record { at1 = v; at2 = v; at3 = v }

unlike_same : (a n : ℕ) → unlike (a, a) n ≡ 0
unlike_same a n = rw (eq-eqb a a refl)

module _ (G : Group) where
  open G use {ops as R}
  open G.laws use {Ok, ok_zero, ok_add, ok_sub, add_zero, add_assoc}
  open R use {add, sub, mul}

  module _ (x y z : ℕ) (hy : Ok y) (hz : Ok z) where
    here : add (add x (add y 0)) (add z 0) ≡ add x (add z y)
    here = simp (add_zero, sums)

    there : add (add x (add y 0)) (add z 0) ≡ add y (add x z)
    there = simp (add_zero, sums)

    last : add (add x (add y 0)) (add z 0) ≡ add z (add y x)
    last = simp (add_zero, sums)

  pub record OkDeal (D : Deal) : Type 0 where
    pub ok_r : Ok D.r
    pub ok_d1 : Ok D.d1
    pub ok_d2 : Ok D.d2

  deal_ok : (v a b : ℕ) → Ok a → Ok b → OkDeal (deal R v a b)
  deal_ok v a b ha hb = record { ok_r = ok_sub _ _; ok_d1 = ha; ok_d2 = hb }

  mix_clean : (D : Trio Deal) → OkDeal D.at1 → OkDeal D.at2 → OkDeal D.at3
      → mix R none D ≡ hold (add_parts R (dealt s1 D.at1) (add_parts R (dealt s2 D.at2) (dealt s3 D.at3)))
  unfolding mix
  mix_clean D o1 o2 o3 = λ i. record {
    at1 = (here D.at1.r _ _ o3.ok_d1 o2.ok_d2 i, here D.at1.d1 _ _ o3.ok_d2 o2.ok_r i);
    at2 = (there D.at2.r _ _ o1.ok_d1 o3.ok_d2 i, there D.at2.d1 _ _ o1.ok_d2 o3.ok_r i);
    at3 = (last D.at3.r _ _ o2.ok_d1 o1.ok_d2 i, last D.at3.d1 _ _ o2.ok_d2 o1.ok_r i);
  }

  in_clean : (s : Site) (D : Deal) → OkDeal D → in_wire R none s D ≡ hold (dealt s D)
  unfolding in_wire
  in_clean s1 D h = let k = h.ok_r in let l = h.ok_d1 in let m = h.ok_d2 in simp add_zero
  in_clean s2 D h = let k = h.ok_r in let l = h.ok_d1 in let m = h.ok_d2 in simp add_zero
  in_clean s3 D h = let k = h.ok_r in let l = h.ok_d1 in let m = h.ok_d2 in simp add_zero

  four : {a b c d a' b' c' d' : ℕ} → a ≡ a' → b ≡ b' → c ≡ c' → d ≡ d' → ◌≡◌ {A = List ℕ} (a ∷ b ∷ c ∷ d ∷ []) (a' ∷ b' ∷ c' ∷ d' ∷ [])
  four p q r s = λ i. p i ∷ q i ∷ r i ∷ s i ∷ []

  sent_clean : (D : Deal) → OkDeal D → delivered R none D ≡ deal_bits D
  unfolding delivered
  sent_clean D h = four (add_zero _ h.ok_d1) (add_zero _ h.ok_d2) (add_zero _ h.ok_d2) (add_zero _ h.ok_r)

  module _ (a b : Site → ℕ) (oka : (s : Site) → Ok (a s)) (okb : (s : Site) → Ok (b s)) where
    mul_clean : (P Q : Parts) → mul_wire R none a b (hold P) (hold Q) ≡ hold (mul_parts R a b P Q)
    unfolding mul_parts
    mul_clean P Q =
        mix_clean (deals R a b (hold P) (hold Q)) (deal_ok _ _ _ (oka s1) (okb s1)) (deal_ok _ _ _ (oka s2) (okb s2)) (deal_ok _ _ _ (oka s3) (okb s3))

    gate_clean : (k : Gate) (ps : List Parts) → gate_wire R none a b k (map hold ps) ≡ hold (gate_parts R a b k ps)
    unfolding gate_wire gate_parts
    gate_clean (XOR i j) ps = ap₂ (add_wire R) (look_hold ps i) (look_hold ps j)
    gate_clean (AND i j) ps = ap₂ (mul_wire R none a b) (look_hold ps i) (look_hold ps j) ∙ mul_clean _ _
    gate_clean (OR i j) ps = ap (flip R) (ap₂ (λ x y. mul_wire R none a b (flip R x) (flip R y)) (look_hold ps i) (look_hold ps j) ∙ mul_clean (flip_parts R (get_or ps i no_parts)) (flip_parts R (get_or ps j no_parts)))
    gate_clean (NOT i) ps = ap (flip R) (look_hold ps i)

    three_clean : (P Q : Parts) → delivered3 R none (deals R a b (hold P) (hold Q))
        ≡ deal_bits (deals R a b (hold P) (hold Q)).at1 ++ deal_bits (deals R a b (hold P) (hold Q)).at2 ++ deal_bits (deals R a b (hold P) (hold Q)).at3
    unfolding delivered3
    three_clean P Q =
        ap₂ ◌++◌ (ap₂ ◌++◌ (sent_clean _ (deal_ok _ _ _ (oka s1) (okb s1))) (sent_clean _ (deal_ok _ _ _ (oka s2) (okb s2)))) (sent_clean _ (deal_ok _ _ _ (oka s3) (okb s3)))

    gate_delivered_clean : (k : Gate) (ps : List Parts) → gate_delivered R none a b k (map hold ps)
        ≡ if_deals k (deal_bits (deal R (product_of R s1 k ps) (a s1) (b s1)) ++ deal_bits (deal R (product_of R s2 k ps) (a s2) (b s2)) ++ deal_bits (deal R (product_of R s3 k ps) (a s3) (b s3)))
    unfolding gate_delivered if_deals left right
    gate_delivered_clean (XOR i j) ps = refl
    gate_delivered_clean (AND i j) ps = ap₂ (λ x y. delivered3 R none (deals R a b x y)) (look_hold ps i) (look_hold ps j) ∙ three_clean (get_or ps i no_parts) (get_or ps j no_parts)
    gate_delivered_clean (OR i j) ps =
        ap₂ (λ x y. delivered3 R none (deals R a b (flip R x) (flip R y))) (look_hold ps i) (look_hold ps j)
        ∙ three_clean (flip_parts R (get_or ps i no_parts)) (flip_parts R (get_or ps j no_parts))
    gate_delivered_clean (NOT i) ps = refl

  six_clean : (P : Parts) → Each Ok P → six R none (hold P) ≡ open_bits P
  unfolding six
  six_clean P h = λ i. add_zero _ h.in1 i ∷ add_zero _ h.in2 i ∷ add_zero _ h.in2 i ∷ add_zero _ h.in3 i ∷ add_zero _ h.in3 i ∷ add_zero _ h.in1 i ∷ []

  objecting_clean : (P : Parts) → objecting (copies (open_bits P)) ≡ 0
  unfolding objecting copies
  objecting_clean P = simp unlike_same

  opened_clean : (P : Parts) → opened R (copies (open_bits P)) (hold P) ≡ record { at1 = total R P; at2 = total R P; at3 = total R P }
  unfolding opened copies
  opened_clean P = λ i. record {
    at1 = add_assoc P.at1 P.at2 P.at3 i;
    at2 = (add_assoc P.at2 P.at3 P.at1 ∙ sym (turn G P.at1 P.at2 P.at3)) i;
    at3 = (add_assoc P.at3 P.at1 P.at2 ∙ turn G P.at3 P.at1 P.at2) i;
  }

  module _ (C : Circuit) (x : ℕ → ℕ) (T : Draws) (ok : AllDraws Ok T) where
    ins_held : (i : ℕ) → ins_after R C x T no_errors i ≡ map hold (ins_parts R C x T i)
    unfolding ins_after ins_parts
    ins_held zero = refl
    ins_held (suc i) =
        ap₂ (λ l v. l ++ (v ∷ [])) (ins_held i) (in_clean (C.owner i) _ (deal_ok (x i) _ _ (ok.of_in1 i) (ok.of_in2 i)))
        ∙ sym (map_snoc hold (ins_parts R C x T i) _)

    -- each site's pair of each wire is the published parts that it holds
    pub held : (g : ℕ) → after R C x T no_errors g ≡ map hold (parts R C x T g)
    unfolding after parts
    held zero = ins_held C.ins
    held (suc g) =
        ap₂ (λ l v. l ++ (v ∷ [])) (held g)
        (ap (λ l. gate_wire R none (T.g1 g) (T.g2 g) (C.gate g) l) (held g)
        ∙ gate_clean (T.g1 g) (T.g2 g) (ok.of_g1 g) (ok.of_g2 g) (C.gate g) (parts R C x T g))
        ∙ sym (map_snoc hold (parts R C x T g) _)

    pub output_held : (o : ℕ) → output R C x T no_errors o ≡ hold (out_parts R C x T o)
    unfolding output
    output_held o = ap (λ l. get_or l (C.out o) no_wire) (held C.gates) ∙ look_hold (parts R C x T C.gates) (C.out o)

    out_clean : (o : ℕ) → out_delivered R C x T no_errors o ≡ open_bits (out_parts R C x T o)
    unfolding out_delivered
    out_clean o = ap (six R none) (output_held o) ∙ six_clean (out_parts R C x T o) (parts_ok G C x T ok C.gates (C.out o))

    pub no_objection : (o : ℕ) → objects R C x T no_errors o ≡ 0
    unfolding objects
    no_objection o = rw (out_clean o) (objecting_clean (out_parts R C x T o))

    ins_clean : (i : ℕ) → ins_delivered R C x T no_errors i ≡ ins_bits R C x T i
    unfolding ins_delivered ins_bits
    ins_clean zero = refl
    ins_clean (suc i) = ap₂ ◌++◌ (ins_clean i) (sent_clean _ (deal_ok (x i) _ _ (ok.of_in1 i) (ok.of_in2 i)))

    gates_clean : (g : ℕ) → gates_delivered R C x T no_errors g ≡ gates_bits R C x T g
    unfolding gates_delivered gates_bits
    gates_clean zero = ins_clean C.ins
    gates_clean (suc g) =
        ap₂ ◌++◌ (gates_clean g)
        (ap (λ l. gate_delivered R none (T.g1 g) (T.g2 g) (C.gate g) l) (held g)
        ∙ gate_delivered_clean (T.g1 g) (T.g2 g) (ok.of_g1 g) (ok.of_g2 g) (C.gate g) (parts R C x T g))

    pub clean_sent : (n : ℕ) → opens_delivered R C x T no_errors n ≡ sent_bits R C x T n
    unfolding opens_delivered sent_bits
    clean_sent zero = gates_clean C.gates
    clean_sent (suc o) = ap₂ ◌++◌ (clean_sent o) (out_clean o)

    pub opened_total : (o : ℕ) → opened_at R C x T no_errors o ≡ thrice (total R (out_parts R C x T o))
    unfolding opened_at
    opened_total o = ap₂ (λ l w. opened R (copies l) w) (out_clean o) (output_held o) ∙ opened_clean (out_parts R C x T o)

    module _ (okx : (i : ℕ) → Ok (x i)) where
      abbrev pub out_value : ℕ → ℕ
      out_value o = get_or (values R C x C.gates) (C.out o) 0

      pub opened_value : (o : ℕ) → opened_at R C x T no_errors o ≡ thrice (out_value o)
      opened_value o = opened_total o ∙ ap thrice (total_at G C x T okx (C.out o))
