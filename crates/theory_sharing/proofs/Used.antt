-- A view depends on the draws only through the tapes that they fill.
--     view_used      so do the published parts: parts_used
-- Assumes nothing.
use mathlib.Core.Path.{◌≡◌, refl, ap, ap₂, ◌∙◌, fun_ext}
use mathlib.Core.List.{List, [], ◌∷◌, ◌++◌}
use Prim.Native.Nat.{ℕ, zero, suc}
use lib.ListN.{get_or}
use Rattle.theory_sharing.specs.Ops.{Ops}
use Rattle.theory_sharing.specs.Sites.{Site, prev, of, if_own}
use Rattle.theory_sharing.specs.Circuit.{Gate, XOR, AND, OR, NOT, Circuit, Draws}
use Rattle.theory_sharing.specs.Order.{if_deals}
use Rattle.theory_sharing.specs.Published.{Parts, no_parts, total, share, gate_parts, product_of, ins_parts, parts}
use Rattle.theory_sharing.specs.Tapes.{ins_tape, tape}
use Rattle.theory_sharing.specs.View.{own_ins}
use Rattle.theory_sharing.specs.Retape.{mine}
use Rattle.theory_sharing.proofs.SiteLaws.{seen}
use Rattle.theory_sharing.proofs.Seen.{got, to_site3, ins_got, gates_got, all_got, seen_totals, seen_view}
use Rattle.theory_sharing.proofs.Unique.{split_end, two, own_length, own_agree, deals_length}

module _ (R : Ops) (s : Site) (C : Circuit) (x : ℕ → ℕ) (T U : Draws) where
  pub record InsUsed (i : ℕ) : Type 0 where
    pub got_ins : ins_got R s C x T i ≡ ins_got R s C x U i
    pub parts_are : ins_parts R C x T i ≡ ins_parts R C x U i

  ins_used : (i : ℕ) → ((t : Site) → ins_tape C T t i ≡ ins_tape C U t i) → InsUsed i
  unfolding ins_tape ins_got ins_parts
  ins_used zero e = record { got_ins = refl; parts_are = refl }
  ins_used (suc i) e =
      let o = C.owner i in
      let h : (t : Site) → (ins_tape C T t i ≡ ins_tape C U t i) × (if_own t o (T.in1 i ∷ T.in2 i ∷ []) ≡ if_own t o (U.in1 i ∷ U.in2 i ∷ [])) =
      λ t. split_end _ _ _ _ (own_length t o (seen t o) _ _ refl) (e t) in
      let k : InsUsed i = ins_used i (λ t. (h t).0) in
      let ab : (T.in1 i ≡ U.in1 i) × (T.in2 i ≡ U.in2 i) = two _ _ _ _ (own_agree o o _ _ refl (h o).1) in
      record {
        got_ins = ap₂ ◌++◌ k.got_ins (ap₂ (λ (a b : ℕ). got s o (mine s (share R o (x i) a b))) ab.0 ab.1);
        parts_are = ap₂ ◌++◌ k.parts_are (ap₂ (λ (a b : ℕ). share R o (x i) a b ∷ []) ab.0 ab.1);
      }

  pub record GatesUsed (g : ℕ) : Type 0 where
    pub got_gates : gates_got R s C x T g ≡ gates_got R s C x U g
    pub parts_are : parts R C x T g ≡ parts R C x U g

  pub record GateUsed (k : Gate) (ps : List Parts) (a b a' b' : Site → ℕ) : Type 0 where
    pub sent : if_deals k (to_site3 R s (λ t. product_of R t k ps) a b) ≡ if_deals k (to_site3 R s (λ t. product_of R t k ps) a' b')
    pub made : gate_parts R a b k ps ≡ gate_parts R a' b' k ps

  module _ (ps : List Parts) (a b a' b' : Site → ℕ) where
    deals_used : (k : Gate) → ((t : Site) → ◌≡◌ {A = List ℕ} (a t ∷ b t ∷ []) (a' t ∷ b' t ∷ [])) → GateUsed k ps a b a' b'
    deals_used k e =
        let ea : a ≡ a' = fun_ext (λ t. (two _ _ _ _ (e t)).0) in
        let eb : b ≡ b' = fun_ext (λ t. (two _ _ _ _ (e t)).1) in
        record {
          sent = ap₂ (λ (y z : Site → ℕ). if_deals k (to_site3 R s (λ t. product_of R t k ps) y z)) ea eb;
          made = ap₂ (λ (y z : Site → ℕ). gate_parts R y z k ps) ea eb;
        }

    gate_used : (k : Gate) → ((t : Site) → if_deals k (a t ∷ b t ∷ []) ≡ if_deals k (a' t ∷ b' t ∷ [])) → GateUsed k ps a b a' b'
    unfolding if_deals gate_parts
    gate_used (XOR i j) e = record { sent = refl; made = refl }
    gate_used (AND i j) e = deals_used (AND i j) e
    gate_used (OR i j) e = deals_used (OR i j) e
    gate_used (NOT i) e = record { sent = refl; made = refl }

  gates_used : (g : ℕ) → ((t : Site) → tape C T t g ≡ tape C U t g) → GatesUsed g
  unfolding tape gates_got parts
  gates_used zero e =
      let k : InsUsed C.ins = ins_used C.ins e in
      record { got_gates = k.got_ins; parts_are = k.parts_are }
  gates_used (suc g) e =
      let h : (t : Site) → (tape C T t g ≡ tape C U t g) × (if_deals (C.gate g) (T.g1 g t ∷ T.g2 g t ∷ []) ≡ if_deals (C.gate g) (U.g1 g t ∷ U.g2 g t ∷ [])) =
      λ t. split_end _ _ _ _ (deals_length (C.gate g) _ _ refl) (e t) in
      let k : GatesUsed g = gates_used g (λ t. (h t).0) in
      let q : GateUsed (C.gate g) (parts R C x T g) (T.g1 g) (T.g2 g) (U.g1 g) (U.g2 g) =
      gate_used (parts R C x T g) (T.g1 g) (T.g2 g) (U.g1 g) (U.g2 g) (C.gate g) (λ t. (h t).1) in
      record {
        got_gates = ap₂ ◌++◌ k.got_gates
            (q.sent ∙ ap (λ ps. if_deals (C.gate g) (to_site3 R s (λ t. product_of R t (C.gate g) ps) (U.g1 g) (U.g2 g))) k.parts_are);
        parts_are = ap₂ (λ l p. l ++ (p ∷ [])) k.parts_are (q.made ∙ ap (gate_parts R (U.g1 g) (U.g2 g) (C.gate g)) k.parts_are);
      }

  module _ (e : (t : Site) → tape C T t C.gates ≡ tape C U t C.gates) where
    pub parts_used : parts R C x T C.gates ≡ parts R C x U C.gates
    parts_used = (gates_used C.gates e).parts_are

    all_used : (n : ℕ) → all_got R s C x T n ≡ all_got R s C x U n
    unfolding all_got
    all_used zero = (gates_used C.gates e).got_gates
    all_used (suc o) =
        ap₂ ◌++◌ (all_used o) (ap (λ ps. of (get_or ps (C.out o) no_parts) (prev s) ∷ of (get_or ps (C.out o) no_parts) (prev s) ∷ []) parts_used)

    outs_used : (n : ℕ) → seen_totals R s C x T n ≡ seen_totals R s C x U n
    unfolding seen_totals
    outs_used zero = refl
    outs_used (suc o) = ap₂ ◌++◌ (outs_used o) (ap (λ ps. total R (get_or ps (C.out o) no_parts) ∷ []) parts_used)

    pub view_used : seen_view R s C x T ≡ seen_view R s C x U
    unfolding seen_view
    view_used = ap₂ ◌++◌ (ap₂ ◌++◌ (ap (λ l. own_ins s C x C.ins ++ l) (e s)) (all_used C.outs)) (outs_used C.outs)
