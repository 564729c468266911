-- Own inputs, as the code writes them.
--     own_none, own_room, own_end    the loop
--     own_yes, own_no                its turn at an input that is the site's own, and at one that is not
-- Assumes nothing.
use mathlib.Core.Path.{◌≡◌, refl, sym, ap, ◌∙◌}
use mathlib.Core.Bool.{Bool, true, false, cond}
use mathlib.Core.List.{List, [], ◌∷◌, ◌++◌, append-nil}
use Prim.Native.Nat.{ℕ, zero, suc, ◌+◌, ◌<◌, ◌≤◌}
use native.Mathlib.Omega.{arith}
use native.Mathlib.Numerals.{add-one}
use native.Mathlib.Nat.{le_antisymm, add-zero}
use lib.ListN.{length, get_or, set}
use Rattle.theory_sharing.specs.Sites.{Site, is, if_own}
use Rattle.theory_sharing.specs.Circuit.{Circuit, owned, all_owned}
use Rattle.theory_sharing.specs.Store.{fill}
use Rattle.theory_sharing.specs.View.{own_ins}
use Rattle.theory_sharing.proofs.StoreLaws.{fill_one, fill_all}
use Rattle.theory_sharing.proofs.ViewLaws.{own_many}
use Rattle.theory_calls.specs.File.{circuit}
use Rattle.theory_calls.specs.Calls.{at_wire}
use Rattle.file_header.specs.declared.Counts.{Counts}
use Rattle.file_header.specs.Opened.{Opened}
use Rattle.run_passes.proofs.PassLaws.{owned_room}
use Rattle.view_inputs.proofs.InsLaws.{one_or_none}

-- a value written where it is the site's own
abbrev put_own : Bool → ℕ → ℕ → List ℕ → List ℕ
put_own true p v l = set l p v
put_own false p v l = l

own_by : (b : Bool) (old done : List ℕ) (p v : ℕ) → length done ≡ p → p + cond b 1 0 ≤ length old
    → put_own b p v (fill old done) ≡ fill old (done ++ cond b (v ∷ []) [])
own_by true old done p v e h = fill_one old done p v e (omega arith)
own_by false old done p v e h = ap (fill old) (sym (append-nil done))

owned_few : (f : ℕ → Site) (s : Site) (n : ℕ) → owned f s n ≤ n
unfolding owned
owned_few f s zero = omega arith
owned_few f s (suc n) = let m = owned_few f s n in let d = one_or_none (is s (f n)) in omega arith

module _ (f xs old : List ℕ) (s : Site) (c : Counts) (op : Opened f c) (lo : length old ≡ all_owned (circuit f) s) where
  abbrev C : Circuit
  C = circuit f

  abbrev own : ℕ → ℕ
  own k = cond (is s (C.owner k)) 1 0

  pub own_room : (k p r : ℕ) → k < c.inputs → p ≡ owned C.owner s k → r ≡ length old → true ≡ is s (C.owner k) → (p < r) × (p ≤ 65536)
  own_room k p r h e q y =
      let i = op.ins_are in let few = op.few_inputs in let a = owned_room C.owner s k C.ins (omega arith) in let b = owned_few C.owner s k in
      let o : 1 ≡ own k = ap (λ (b : Bool). cond b 1 0) y in
      (omega arith, omega arith)

  own_law : (k p : ℕ) (l : List ℕ) → k < c.inputs → l ≡ fill old (own_ins s C (at_wire xs) k) → p ≡ owned C.owner s k
      → (put_own (is s (C.owner k)) p (get_or xs k 0) l ≡ fill old (own_ins s C (at_wire xs) (k + 1))) × (p + own k ≡ owned C.owner s (k + 1))
  unfolding own_ins owned if_own
  own_law k p l h el ep =
      let i = op.ins_are in let a = owned_room C.owner s k C.ins (omega arith) in (
        ap (put_own (is s (C.owner k)) p (get_or xs k 0)) el ∙ own_by (is s (C.owner k)) old (own_ins s C (at_wire xs) k) p (get_or xs k 0) (own_many s C (at_wire xs) k ∙ sym ep) (omega arith)
            ∙ ap (λ (m : ℕ). fill old (own_ins s C (at_wire xs) m)) (sym (add-one k)),
        ap (λ (m : ℕ). m + own k) ep ∙ ap (owned C.owner s) (sym (add-one k)),
      )

  -- one more input, the site's own or another's
  pub own_yes : (k p v : ℕ) (l : List ℕ) → k < c.inputs → l ≡ fill old (own_ins s C (at_wire xs) k) → p ≡ owned C.owner s k → v ≡ get_or xs k 0 → true ≡ is s (C.owner k)
      → (set l p v ≡ fill old (own_ins s C (at_wire xs) (k + 1))) × (p + 1 ≡ owned C.owner s (k + 1))
  own_yes k p v l h el ep ev y =
      let q = own_law k p l h el ep in
      ((λ i. put_own (y i) p (ev i) l) ∙ q.0, ap (λ (b : Bool). p + cond b 1 0) y ∙ q.1)

  pub own_no : (k p : ℕ) (l : List ℕ) → k < c.inputs → l ≡ fill old (own_ins s C (at_wire xs) k) → p ≡ owned C.owner s k → false ≡ is s (C.owner k)
      → (l ≡ fill old (own_ins s C (at_wire xs) (k + 1))) × (p ≡ owned C.owner s (k + 1))
  own_no k p l h el ep y =
      let q = own_law k p l h el ep in
      (ap (λ (b : Bool). put_own b p (get_or xs k 0) l) y ∙ q.0, sym (add-zero p) ∙ ap (λ (b : Bool). p + cond b 1 0) y ∙ q.1)

  pub own_end : (k : ℕ) (l : List ℕ) → l ≡ fill old (own_ins s C (at_wire xs) k) → k ≤ c.inputs → c.inputs ≤ k → l ≡ own_ins s C (at_wire xs) C.ins
  own_end k l e a b =
      e ∙ ap (λ (m : ℕ). fill old (own_ins s C (at_wire xs) m)) (le_antisymm a b ∙ op.ins_are)
      ∙ fill_all old (own_ins s C (at_wire xs) C.ins) (own_many s C (at_wire xs) C.ins ∙ sym lo)

pub own_none : (s : Site) (C : Circuit) (x : ℕ → ℕ) (old : List ℕ) → (old ≡ fill old (own_ins s C x 0)) × (0 ≡ owned C.owner s 0)
unfolding own_ins owned fill
own_none s C x old = (refl, refl)
