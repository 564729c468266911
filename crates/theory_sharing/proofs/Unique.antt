-- A site's view, with the inputs, leaves no choice of the tapes.
--     split, split_end    two joins are equal part by part
--     same_tapes          two sets of draws with the same view fill the same tapes
-- Assumes nothing.
use mathlib.Core.Path.{◌≡◌, refl, sym, ap, ap₂, ◌∙◌, fun_ext}
use mathlib.Core.List.{List, [], ◌∷◌, ◌++◌}
use Prim.Native.Nat.{ℕ, zero, suc, ◌+◌}
use native.Mathlib.Omega.{arith}
use lib.ListN.{length, length-append}
use Rattle.theory_sharing.specs.Sites.{Site, s1, s2, s3, next, prev, if_own}
use Rattle.theory_sharing.specs.Circuit.{Gate, XOR, AND, OR, NOT, Circuit, Draws}
use Rattle.theory_sharing.specs.Order.{if_deals}
use Rattle.theory_sharing.specs.Published.{Parts, share, gate_parts, product_of, ins_parts, parts}
use Rattle.theory_sharing.specs.Steps.{Pair}
use Rattle.theory_sharing.specs.Tapes.{ins_tape, tape}
use Rattle.theory_sharing.specs.View.{own_ins}
use Rattle.theory_sharing.specs.Retape.{mine, rest}
use Rattle.theory_sharing.proofs.SiteLaws.{Seen, itself, behind, before, seen, own_itself, own_behind, own_before}
use Rattle.theory_sharing.proofs.Group.{Group, rest_inj}
use Rattle.theory_sharing.proofs.Seen.{got, got_itself, got_behind, got_before, to_site, to_site3, ins_got, gates_got, all_got, seen_totals, seen_view}
use Rattle.theory_sharing.proofs.Parts.{AllDraws}
use Rattle.theory_sharing.proofs.Mine.{share_behind, share_before}

pub split : {A : Type 0} (xs ys us ws : List A) → length xs ≡ length ys → xs ++ us ≡ ys ++ ws → (xs ≡ ys) × (us ≡ ws)
split [] [] us ws h e = (refl, e)
split [] (y ∷ ys) us ws h e = absurd (omega arith)
split (x ∷ xs) [] us ws h e = absurd (omega arith)
split (x ∷ xs) (y ∷ ys) us ws h e =
    let r : (xs ≡ ys) × (us ≡ ws) = split xs ys us ws (omega arith) (cc) in
    let hd : x ≡ y = cc in
    (ap₂ ◌∷◌ hd r.0, r.1)

pub split_end : {A : Type 0} (xs ys us ws : List A) → length us ≡ length ws → xs ++ us ≡ ys ++ ws → (xs ≡ ys) × (us ≡ ws)
split_end xs ys us ws h e = split xs ys us ws (omega (arith, length-append xs us, length-append ys ws, ap length e)) e

pub two : (a b a' b' : ℕ) → ◌≡◌ {A = List ℕ} (a ∷ b ∷ []) (a' ∷ b' ∷ []) → (a ≡ a') × (b ≡ b')
two a b a' b' e = (cc, cc)

got_length : (s t : Site) → Seen s t → (p p' : Pair) → length (got s t p) ≡ length (got s t p')
got_length s t itself p p' = ap length (got_itself s p ∙ sym (got_itself s p'))
got_length s t behind p p' = ap length (got_behind s p) ∙ sym (ap length (got_behind s p'))
got_length s t before p p' = ap length (got_before s p) ∙ sym (ap length (got_before s p'))

pub own_length : (s t : Site) → Seen s t → (l l' : List ℕ) → length l ≡ length l' → length (if_own s t l) ≡ length (if_own s t l')
own_length s t itself l l' e = rw (own_itself s l, own_itself s l') e
own_length s t behind l l' e = ap length (own_behind s l ∙ sym (own_behind s l'))
own_length s t before l l' e = ap length (own_before s l ∙ sym (own_before s l'))

pub own_agree : (s t : Site) (l l' : List ℕ) → t ≡ s → if_own s t l ≡ if_own s t l' → l ≡ l'
own_agree s t l l' e q = sym (ap (λ z. if_own s z l) e ∙ own_itself s l) ∙ q ∙ ap (λ z. if_own s z l') e ∙ own_itself s l'

pub deals_length : (k : Gate) (l l' : List ℕ) → length l ≡ length l' → length (if_deals k l) ≡ length (if_deals k l')
unfolding if_deals
deals_length (XOR i j) l l' e = refl
deals_length (AND i j) l l' e = e
deals_length (OR i j) l l' e = e
deals_length (NOT i) l l' e = refl

module _ (G : Group) where
  open G use {ops as R}
  open G.laws use {Ok, ok_zero, ok_add, ok_sub}
  open R use {add, sub, mul}

  -- one deal: what s sees of it, and the value, tell the draws
  deal_agree : (s t : Site) → Seen s t → (v a b a' b' : ℕ) → Ok v → Ok a → Ok a'
      → (t ≡ s → (a ≡ a') × (b ≡ b'))
      → got s t (mine s (share R t v a b)) ≡ got s t (mine s (share R t v a' b')) → (a ≡ a') × (b ≡ b')
  deal_agree s t itself v a b a' b' hv ha ha' own e = own refl
  deal_agree s t behind v a b a' b' hv ha ha' own e =
      let q : (b ≡ b') × (rest R v a b ≡ rest R v a' b') = two _ _ _ _
      (sym (ap (got s (next s)) (share_behind G s v a b) ∙ got_behind s _) ∙ e ∙ ap (got s (next s)) (share_behind G s v a' b') ∙ got_behind s _) in
      (rest_inj G v a a' b hv ha ha' (q.1 ∙ ap (λ (z : ℕ). rest R v a' z) (sym q.0)), q.0)
  deal_agree s t before v a b a' b' hv ha ha' own e =
      two _ _ _ _ (sym (ap (got s (prev s)) (share_before G s v a b) ∙ got_before s _) ∙ e ∙ ap (got s (prev s)) (share_before G s v a' b') ∙ got_before s _)

  to_length : (s : Site) (v a b a' b' : Site → ℕ) (t : Site) → length (to_site R s v a b t) ≡ length (to_site R s v a' b' t)
  to_length s v a b a' b' t = got_length s t (seen s t) _ _

  to_length3 : (s : Site) (v a b v' a' b' : Site → ℕ) → length (to_site3 R s v a b) ≡ length (to_site3 R s v' a' b')
  to_length3 s v a b v' a' b' =
      simp length-append (ap₂ ◌+◌ (ap₂ ◌+◌ (got_length s s1 (seen s s1) _ _) (got_length s s2 (seen s s2) _ _)) (got_length s s3 (seen s s3) _ _))

  three_agree : (s : Site) (v a b a' b' : Site → ℕ) → ((t : Site) → Ok (v t)) → ((t : Site) → Ok (a t)) → ((t : Site) → Ok (a' t))
      → ◌≡◌ {A = List ℕ} (a s ∷ b s ∷ []) (a' s ∷ b' s ∷ []) → to_site3 R s v a b ≡ to_site3 R s v a' b'
      → (t : Site) → (a t ≡ a' t) × (b t ≡ b' t)
  three_agree s v a b a' b' hv ha ha' own e t =
      deal_agree s t (seen s t) (v t) (a t) (b t) (a' t) (b' t) (hv t) (ha t) (ha' t)
      (λ q. let o : (a s ≡ a' s) × (b s ≡ b' s) = two _ _ _ _ own in (ap a q ∙ o.0 ∙ sym (ap a' q), ap b q ∙ o.1 ∙ sym (ap b' q)))
      (each t)
    where
      outer : (to_site R s v a b s1 ++ to_site R s v a b s2 ≡ to_site R s v a' b' s1 ++ to_site R s v a' b' s2) × (to_site R s v a b s3 ≡ to_site R s v a' b' s3)
      outer = split_end _ _ _ _ (to_length s v a b a' b' s3) e

      inner : (to_site R s v a b s1 ≡ to_site R s v a' b' s1) × (to_site R s v a b s2 ≡ to_site R s v a' b' s2)
      inner = split_end _ _ _ _ (to_length s v a b a' b' s2) outer.0

      each : (t : Site) → to_site R s v a b t ≡ to_site R s v a' b' t
      each s1 = inner.0
      each s2 = inner.1
      each s3 = outer.1

  pub record GateKnown (k : Gate) (ps : List Parts) (a b a' b' : Site → ℕ) : Type 0 where
    pub drawn : (t : Site) → if_deals k (a t ∷ b t ∷ []) ≡ if_deals k (a' t ∷ b' t ∷ [])
    pub made : gate_parts R a b k ps ≡ gate_parts R a' b' k ps

  module _ (s : Site) (ps : List Parts) (a b a' b' : Site → ℕ) (ha : (t : Site) → Ok (a t)) (ha' : (t : Site) → Ok (a' t)) where
    all_known : (k : Gate) → ((t : Site) → (a t ≡ a' t) × (b t ≡ b' t)) → GateKnown k ps a b a' b'
    all_known k e = record {
      drawn = λ t. ap₂ (λ (y z : ℕ). if_deals k (y ∷ z ∷ [])) (e t).0 (e t).1;
      made = ap₂ (λ (y z : Site → ℕ). gate_parts R y z k ps) (fun_ext (λ t. (e t).0)) (fun_ext (λ t. (e t).1));
    }

    gate_known : (k : Gate) → if_deals k (a s ∷ b s ∷ []) ≡ if_deals k (a' s ∷ b' s ∷ [])
        → if_deals k (to_site3 R s (λ t. product_of R t k ps) a b) ≡ if_deals k (to_site3 R s (λ t. product_of R t k ps) a' b')
        → GateKnown k ps a b a' b'
    unfolding if_deals gate_parts
    gate_known (XOR i j) e f = record { drawn = λ t. refl; made = refl }
    gate_known (AND i j) e f = all_known (AND i j) (three_agree s (λ t. product_of R t (AND i j) ps) a b a' b' (λ t. ok_add _ _) ha ha' e f)
    gate_known (OR i j) e f = all_known (OR i j) (three_agree s (λ t. product_of R t (OR i j) ps) a b a' b' (λ t. ok_add _ _) ha ha' e f)
    gate_known (NOT i) e f = record { drawn = λ t. refl; made = refl }

  module _ (s : Site) (C : Circuit) (x : ℕ → ℕ) (T U : Draws) (okx : (i : ℕ) → Ok (x i)) (okT : AllDraws Ok T) (okU : AllDraws Ok U) where
    pub record KnownIns (i : ℕ) : Type 0 where
      pub tapes : (t : Site) → ins_tape C T t i ≡ ins_tape C U t i
      pub parts_are : ins_parts R C x T i ≡ ins_parts R C x U i

    pub record Known (g : ℕ) : Type 0 where
      pub tapes : (t : Site) → tape C T t g ≡ tape C U t g
      pub parts_are : parts R C x T g ≡ parts R C x U g

    known_ins : (i : ℕ) → ins_tape C T s i ≡ ins_tape C U s i → ins_got R s C x T i ≡ ins_got R s C x U i → KnownIns i
    unfolding ins_tape ins_got ins_parts
    known_ins zero e f = record { tapes = λ t. refl; parts_are = refl }
    known_ins (suc i) e f =
        let t = C.owner i in
        let es : (ins_tape C T s i ≡ ins_tape C U s i) × (if_own s t (T.in1 i ∷ T.in2 i ∷ []) ≡ if_own s t (U.in1 i ∷ U.in2 i ∷ [])) =
        split_end _ _ _ _ (own_length s t (seen s t) _ _ refl) e in
        let fs : (ins_got R s C x T i ≡ ins_got R s C x U i) × (got s t (mine s (share R t (x i) (T.in1 i) (T.in2 i))) ≡ got s t (mine s (share R t (x i) (U.in1 i) (U.in2 i)))) =
        split_end _ _ _ _ (got_length s t (seen s t) _ _) f in
        let k : KnownIns i = known_ins i es.0 fs.0 in
        let ab : (T.in1 i ≡ U.in1 i) × (T.in2 i ≡ U.in2 i) =
        deal_agree s t (seen s t) (x i) (T.in1 i) (T.in2 i) (U.in1 i) (U.in2 i) (okx i) (okT.of_in1 i) (okU.of_in1 i)
        (λ q. two _ _ _ _ (own_agree s t _ _ q es.1)) fs.1 in
        record {
          tapes = λ r. ap₂ ◌++◌ (k.tapes r) (ap₂ (λ (a b : ℕ). if_own r t (a ∷ b ∷ [])) ab.0 ab.1);
          parts_are = ap₂ ◌++◌ k.parts_are (ap₂ (λ (a b : ℕ). share R t (x i) a b ∷ []) ab.0 ab.1);
        }

    abbrev prods : Draws → ℕ → Site → ℕ
    prods D g t = product_of R t (C.gate g) (parts R C x D g)

    abbrev seg : Draws → ℕ → List ℕ
    seg D g = if_deals (C.gate g) (to_site3 R s (λ t. product_of R t (C.gate g) (parts R C x D g)) (D.g1 g) (D.g2 g))

    known : (g : ℕ) → tape C T s g ≡ tape C U s g → gates_got R s C x T g ≡ gates_got R s C x U g → Known g
    unfolding tape gates_got parts
    known zero e f =
        let k : KnownIns C.ins = known_ins C.ins e f in
        record { tapes = k.tapes; parts_are = k.parts_are }
    known (suc g) e f =
        let es : (tape C T s g ≡ tape C U s g)
        × (if_deals (C.gate g) (T.g1 g s ∷ T.g2 g s ∷ []) ≡ if_deals (C.gate g) (U.g1 g s ∷ U.g2 g s ∷ [])) =
        split_end _ _ _ _ (deals_length (C.gate g) _ _ refl) e in
        let fs : (gates_got R s C x T g ≡ gates_got R s C x U g) × (seg T g ≡ seg U g) =
        split_end _ _ _ _ (deals_length (C.gate g) _ _ (to_length3 s (prods T g) (T.g1 g) (T.g2 g) (prods U g) (U.g1 g) (U.g2 g))) f in
        let k : Known g = known g es.0 fs.0 in
        let q : GateKnown (C.gate g) (parts R C x T g) (T.g1 g) (T.g2 g) (U.g1 g) (U.g2 g) =
        gate_known s (parts R C x T g) (T.g1 g) (T.g2 g) (U.g1 g) (U.g2 g) (okT.of_g1 g) (okU.of_g1 g) (C.gate g) es.1
        (fs.1 ∙ ap (λ ps. if_deals (C.gate g) (to_site3 R s (λ t. product_of R t (C.gate g) ps) (U.g1 g) (U.g2 g))) (sym k.parts_are)) in
        record {
          tapes = λ t. ap₂ ◌++◌ (k.tapes t) (q.drawn t);
          parts_are = ap₂ (λ l p. l ++ (p ∷ [])) k.parts_are (q.made ∙ ap (gate_parts R (U.g1 g) (U.g2 g) (C.gate g)) k.parts_are);
        }

    outs_length : (n : ℕ) → length (seen_totals R s C x T n) ≡ length (seen_totals R s C x U n)
    unfolding seen_totals
    outs_length zero = refl
    outs_length (suc o) = simp length-append (ap (λ (z : ℕ). z + 1) (outs_length o))

    all_split : (n : ℕ) → all_got R s C x T n ≡ all_got R s C x U n → gates_got R s C x T C.gates ≡ gates_got R s C x U C.gates
    unfolding all_got
    all_split zero e = e
    all_split (suc o) e = all_split o (split_end _ _ _ _ refl e).0

    all_length : (n : ℕ) → length (gates_got R s C x T C.gates) ≡ length (gates_got R s C x U C.gates) → length (all_got R s C x T n) ≡ length (all_got R s C x U n)
    unfolding all_got
    all_length zero h = h
    all_length (suc o) h = simp length-append (ap (λ (z : ℕ). z + 2) (all_length o h))

    ins_length : (i : ℕ) → length (ins_got R s C x T i) ≡ length (ins_got R s C x U i)
    unfolding ins_got
    ins_length zero = refl
    ins_length (suc i) = simp length-append (ap₂ ◌+◌ (ins_length i) (got_length s (C.owner i) (seen s (C.owner i)) _ _))

    gates_length : (g : ℕ) → length (gates_got R s C x T g) ≡ length (gates_got R s C x U g)
    unfolding gates_got
    gates_length zero = ins_length C.ins
    gates_length (suc g) =
        simp length-append (ap₂ ◌+◌ (gates_length g) (deals_length (C.gate g) _ _ (to_length3 s (prods T g) (T.g1 g) (T.g2 g) (prods U g) (U.g1 g) (U.g2 g))))

    -- the same view, the same tapes
    pub same_tapes : seen_view R s C x T ≡ seen_view R s C x U → (t : Site) → tape C T t C.gates ≡ tape C U t C.gates
    unfolding seen_view
    same_tapes e =
        let c1 = split_end (own_ins s C x C.ins ++ tape C T s C.gates ++ all_got R s C x T C.outs)
        (own_ins s C x C.ins ++ tape C U s C.gates ++ all_got R s C x U C.outs)
        (seen_totals R s C x T C.outs) (seen_totals R s C x U C.outs) (outs_length C.outs) e in
        let c2 = split_end (own_ins s C x C.ins ++ tape C T s C.gates) (own_ins s C x C.ins ++ tape C U s C.gates)
        (all_got R s C x T C.outs) (all_got R s C x U C.outs) (all_length C.outs (gates_length C.gates)) c1.0 in
        let c3 = split (own_ins s C x C.ins) (own_ins s C x C.ins) (tape C T s C.gates) (tape C U s C.gates)
        refl c2.0 in
        (known C.gates c3.1 (all_split C.outs c2.1)).tapes
