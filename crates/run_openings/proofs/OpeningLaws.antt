-- What the proofs of the openings cite.
--     stopped, stopped_with    a site objects: at which output, by which sites, with which transcript
--     went_on                  none does
--     ended, ended_with        none did
--     told_stop, told_none     what the answer of the first pass says
-- Assumes nothing.
use mathlib.Core.Path.{◌≡◌, refl, sym, ap, ◌∙◌}
use mathlib.Core.Bool.{Bool, true, false, not, cond}
use mathlib.Core.List.{List}
use Prim.Native.Nat.{ℕ, suc, ◌+◌, ◌<◌, ◌≤◌, min}
use native.Mathlib.Omega.{arith}
use native.Mathlib.Nat.{le_refl, min-eq_left, min-eq_right}
use lib.Dec.{eqb, ltb}
use borrow.Author.Tests.{lt-ltb, le-ltb, ltb-true, ltb-false, eq-eqb, ne_eqb}
use Rattle.std.specs.Prelude.{Option, Some, None}
use Rattle.theory_sharing.proofs.FirstLaws.{Clear, found, passed, ended as never}
use Rattle.file_parts.specs.Loop.{up_to}
use Rattle.file_parts.proofs.LoopLaws.{turn}
use Rattle.run_openings.specs.declared.Stop.{Stop}
use Rattle.run_openings.specs.Mirror.{objected, first_objected, stop_at, stop_by}

module _ (sites : ℕ → ℕ) where
  -- at k
  is_first : (k o m : ℕ) → Clear (objected sites) k → k < o → m ≡ sites k → (m ≡ 0 → ⊥) → k ≡ first_objected sites o
  is_first k o m clear h e g =
      let hit : not (eqb (sites k) 0) ≡ true = rw (← e, ne_eqb m 0 g) in
      found (objected sites) k o true clear h (sym hit) refl

  pub stopped : (k o m : ℕ) → Clear (objected sites) k → k < o → m ≡ sites k → (m ≡ 0 → ⊥) → Some (record { output = k; sites = m }) ≡ stop_by sites o
  stopped k o m clear h e g =
      let t = lt-ltb k o h in
      ap (λ (n : ℕ). Some (record { output = k; sites = n })) e
      ∙ sym (ap (λ (b : Bool). cond b (Some (record { output = k; sites = sites k })) None) t)
      ∙ ap (stop_at sites o) (is_first k o m clear h e g)

  pub went_on : (k m : ℕ) → Clear (objected sites) k → m ≡ sites k → m ≡ 0 → Clear (objected sites) (k + 1)
  went_on k m clear e g =
      let miss : not (eqb (sites k) 0) ≡ false = rw (← e, eq-eqb m 0 g) in
      passed (objected sites) k false clear (sym miss) refl

  no_first : (k o : ℕ) → Clear (objected sites) k → k ≤ o → o ≤ k → o ≡ first_objected sites o
  no_first k o = never (objected sites) k o

  pub ended : (k o : ℕ) → Clear (objected sites) k → k ≤ o → o ≤ k → None ≡ stop_by sites o
  ended k o clear a b =
      sym (ap (λ (t : Bool). cond t (Some (record { output = o; sites = sites o })) None) (le-ltb o o (le_refl o)))
      ∙ ap (stop_at sites o) (no_first k o clear a b)

  module _ (f : ℕ → List ℕ → List ℕ) (tr : List ℕ) where
    pub stopped_with : (k o m : ℕ) (x y : List ℕ) → Clear (objected sites) k → k < o → m ≡ sites k → (m ≡ 0 → ⊥) → x ≡ up_to f tr k → y ≡ f k x
        → y ≡ up_to f tr (min (suc (first_objected sites o)) o)
    stopped_with k o m x y clear h e g p q =
        turn f tr k x y p q ∙ ap (up_to f tr) (let z : k + 1 ≡ suc k = omega arith in z ∙ sym (min-eq_left h) ∙ ap (λ (n : ℕ). min (suc n) o) (is_first k o m clear h e g))

    pub ended_with : (k o : ℕ) (x : List ℕ) → Clear (objected sites) k → k ≤ o → o ≤ k → x ≡ up_to f tr k → x ≡ up_to f tr (min (suc (first_objected sites o)) o)
    ended_with k o x clear a b p =
        p ∙ ap (up_to f tr) (let z : k ≡ o = omega arith in let m : o ≤ suc o = omega arith in z ∙ sym (min-eq_right m) ∙ ap (λ (n : ℕ). min (suc n) o) (no_first k o clear a b))

  -- what the answer says
  pub told_stop : (o : ℕ) (v : Stop) → Some v ≡ stop_by sites o
      → (v.output ≡ first_objected sites o) × ((v.sites ≡ sites (first_objected sites o)) × (first_objected sites o < o))
  told_stop o v = go (ltb (first_objected sites o) o) refl
    where
      go : (t : Bool) → ltb (first_objected sites o) o ≡ t → Some v ≡ cond t (Some (record { output = first_objected sites o; sites = sites (first_objected sites o) })) None
          → (v.output ≡ first_objected sites o) × ((v.sites ≡ sites (first_objected sites o)) × (first_objected sites o < o))
      go true e q =
          let z : v ≡ record { output = first_objected sites o; sites = sites (first_objected sites o) } = cc in
          (ap (λ (s : Stop). s.output) z, (ap (λ (s : Stop). s.sites) z, ltb-true _ _ e))
      go false e q = cc

  pub told_none : (o : ℕ) → None ≡ stop_by sites o → o ≤ first_objected sites o
  told_none o = go (ltb (first_objected sites o) o) refl
    where
      go : (t : Bool) → ltb (first_objected sites o) o ≡ t
          → ◌≡◌ {A = Option Stop} None (cond t (Some (record { output = first_objected sites o; sites = sites (first_objected sites o) })) None) → o ≤ first_objected sites o
      go true e q = cc
      go false e q = ltb-false _ _ e
