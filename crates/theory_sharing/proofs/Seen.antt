-- A site's view from the published parts: the form in which the laws of re-taping are proved. ViewLaws.antt ties it to specs/View.antt.
--     got s t p          what a deal of t's brings to s on the line: nothing if it is its own
--     all_got            what the line brings to s
--     seen_totals        the opened values
--     seen_view          own inputs, own tape, what the line brings, the opened values
-- Assumes nothing.
use mathlib.Core.Path.{◌≡◌}
use mathlib.Core.Bool.{cond}
use mathlib.Core.List.{List, [], ◌∷◌, ◌++◌}
use Prim.Native.Nat.{ℕ, zero, suc}
use Rattle.theory_sharing.specs.Ops.{Ops}
use Rattle.theory_sharing.specs.Sites.{Site, s1, s2, s3, next, prev, is, of}
use Rattle.theory_sharing.specs.Circuit.{Circuit, Draws}
use Rattle.theory_sharing.specs.Order.{if_deals}
use Rattle.theory_sharing.specs.Published.{total, share, product_of, parts, out_parts}
use Rattle.theory_sharing.specs.Steps.{Pair}
use Rattle.theory_sharing.specs.Tapes.{tape}
use Rattle.theory_sharing.specs.View.{own_ins}
use Rattle.theory_sharing.specs.Retape.{mine}
use Rattle.theory_sharing.proofs.SiteLaws.{is_itself, is_behind, is_before}

unfoldable pub got : Site → Site → Pair → List ℕ
got s t p = cond (is s t) [] (p.0 ∷ p.1 ∷ [])

pub got_itself : (s : Site) (p : Pair) → got s s p ≡ []
unfolding got
got_itself s p = rw (is_itself s)

pub got_behind : (s : Site) (p : Pair) → got s (next s) p ≡ p.0 ∷ p.1 ∷ []
unfolding got
got_behind s p = rw (is_behind s)

pub got_before : (s : Site) (p : Pair) → got s (prev s) p ≡ p.0 ∷ p.1 ∷ []
unfolding got
got_before s p = rw (is_before s)

module _ (R : Ops) where
  -- what a deal of site t's brings to s, of a value by site and draws by site
  abbrev pub to_site : Site → (Site → ℕ) → (Site → ℕ) → (Site → ℕ) → Site → List ℕ
  to_site s v a b t = got s t (mine s (share R t (v t) (a t) (b t)))

  abbrev pub to_site3 : Site → (Site → ℕ) → (Site → ℕ) → (Site → ℕ) → List ℕ
  to_site3 s v a b = to_site s v a b s1 ++ to_site s v a b s2 ++ to_site s v a b s3

  module _ (s : Site) (C : Circuit) (x : ℕ → ℕ) (T : Draws) where
    unfoldable pub ins_got : ℕ → List ℕ
    ins_got zero = []
    ins_got (suc i) = ins_got i ++ got s (C.owner i) (mine s (share R (C.owner i) (x i) (T.in1 i) (T.in2 i)))

    unfoldable pub gates_got : ℕ → List ℕ
    gates_got zero = ins_got C.ins
    gates_got (suc g) = gates_got g ++ if_deals (C.gate g) (to_site3 s (λ t. product_of R t (C.gate g) (parts R C x T g)) (T.g1 g) (T.g2 g))

    unfoldable pub all_got : ℕ → List ℕ
    all_got zero = gates_got C.gates
    all_got (suc o) = all_got o ++ (of (out_parts R C x T o) (prev s) ∷ of (out_parts R C x T o) (prev s) ∷ [])

    unfoldable pub seen_totals : ℕ → List ℕ
    seen_totals zero = []
    seen_totals (suc o) = seen_totals o ++ (total R (out_parts R C x T o) ∷ [])

    unfoldable pub seen_view : List ℕ
    seen_view = own_ins s C x C.ins ++ tape C T s C.gates ++ all_got C.outs ++ seen_totals C.outs
