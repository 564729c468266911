-- 13, as the code goes through it, is theory_calls' row.
--     own_place, opened_place, no_place   the place of 13, by the first of each test
--     own_fault, opened_fault, no_fault   which is the row's fault
-- Assumes nothing.
use mathlib.Core.Path.{◌≡◌, refl, sym, ap, ap₂, ◌∙◌, subst}
use Rattle.std.specs.Prelude.{Option, None, Some}
use mathlib.Core.Bool.{Bool, true, false, not}
use mathlib.Core.List.{List}
use Prim.Native.Nat.{ℕ, ◌+◌, ◌*◌, ◌-◌, ◌<◌, ◌≤◌}
use native.Mathlib.Omega.{arith}
use lib.ListN.{length, get_or, take, get_or-append}
use lib.Seq.{get_or-take, get_or-append-add}
use lib.Dec.{eqb, ltb}
use borrow.Author.Tests.{lt-ltb, le-ltb, ltb-true, ltb-false}
use Rattle.theory_sharing.specs.Sites.{Site}
use Rattle.theory_sharing.specs.Circuit.{Circuit, wires}
use Rattle.theory_sharing.specs.First.{first}
use Rattle.theory_sharing.proofs.FirstLaws.{first_at, first_none, first_hit, first_before}
use Rattle.theory_calls.specs.File.{output_at, circuit}
use Rattle.theory_calls.specs.Checks.{fault}
use Rattle.theory_calls.specs.Plain.{plain, plain_out}
use Rattle.theory_calls.specs.Calls.{both_plain_of}
use Rattle.theory_calls.specs.AtBits.{row_differs, both_plain}
use Rattle.theory_calls.proofs.PlainLaws.{plain_length}
use Rattle.theory_calls.proofs.RowLaws.{differs}
use Rattle.check_refusal.specs.Found.{some_below}
use Rattle.check_refusal.proofs.FoundLaws.{some_is, none_is, some_found, none_found}
use Rattle.check_tests.specs.declared.Site.{Site as Seated}
use Rattle.check_tests.specs.Seat.{seat, number_of}
use Rattle.check_tests.proofs.SeatLaws.{seat_is}
use Rattle.file_header.specs.declared.Counts.{Counts}
use Rattle.file_parts.specs.Checked.{Checked}
use Rattle.retape_differs.specs.Mirror.{own_differs, opened_differs}

-- the place of 13
module _ (f x y : List ℕ) (s : Site) (c : Counts) (ck : Checked f c) where
  abbrev C : Circuit
  C = circuit f

  abbrev bad : ℕ → Bool
  bad = differs s C x y

  abbrev Own : ℕ → Type 0
  Own i = i ≡ first (own_differs f s x y) c.inputs

  own_is : (p : ℕ) → p < C.ins → bad p ≡ own_differs f s x y p
  unfolding own_differs
  own_is p h = rw (lt-ltb p C.ins h)

  -- no own input before place i
  own_clear : (i : ℕ) → Own i → (k : ℕ) → k < i → k < C.ins → bad k ≡ false
  own_clear i e k h l = own_is k l ∙ first_before (own_differs f s x y) c.inputs k (subst (λ (z : ℕ). k < z) e h)

  pub own_place : (i : ℕ) → Own i → i < c.inputs → i ≡ first bad (C.ins + C.outs)
  own_place i e h =
      let n = ck.opened.ins_are in
      let l : i < C.ins = omega arith in
      let m : first (own_differs f s x y) c.inputs < c.inputs = subst (λ (z : ℕ). z < c.inputs) e h in
      sym (first_at bad i (C.ins + C.outs) (λ k q. own_clear i e k q (omega arith)) (omega arith)
      (own_is i l ∙ ap (own_differs f s x y) e ∙ first_hit (own_differs f s x y) c.inputs m))

  module _ (room : List ℕ) (hr : take (2 * (c.inputs + c.gates)) room ≡ both_plain C x y) where
    abbrev Opened : ℕ → Type 0
    Opened j = j ≡ first (opened_differs f c.inputs c.gates room) c.outputs

    first_value : (w : ℕ) → w < wires C → get_or room w 0 ≡ get_or (plain C x) w 0
    unfolding both_plain_of
    first_value w h =
        let i = ck.opened.ins_are in let g = ck.opened.gates_are in let l = plain_length C x in
        sym (get_or-take (2 * (c.inputs + c.gates)) room w 0 (omega arith)) ∙ ap (λ (z : List ℕ). get_or z w 0) hr ∙ get_or-append (plain C x) (plain C y) 0 w (omega arith)

    second_value : (w : ℕ) → w < wires C → get_or room (c.inputs + c.gates + w) 0 ≡ get_or (plain C y) w 0
    unfolding both_plain_of
    second_value w h =
        let i = ck.opened.ins_are in let g = ck.opened.gates_are in let l = plain_length C x in
        let e : c.inputs + c.gates + w ≡ length (plain C x) + w = omega arith in
        sym (get_or-take (2 * (c.inputs + c.gates)) room (c.inputs + c.gates + w) 0 (omega arith)) ∙ ap₂ (λ (z : List ℕ) (m : ℕ). get_or z m 0) hr e
        ∙ get_or-append-add (plain C x) (plain C y) w 0

    opened_is : (o : ℕ) → o < C.outs → bad (C.ins + o) ≡ opened_differs f c.inputs c.gates room o
    unfolding opened_differs
    opened_is o h =
        let n = ck.opened.outs_are in
        let i = ck.opened.ins_are in let g = ck.opened.gates_are in
        let w : output_at f c.inputs c.gates o ≡ C.out o = (λ j. output_at f (i j) (g j) o) in
        let b : C.out o < wires C = subst (λ (z : ℕ). z < wires C) w (let k = ck.outputs o (omega arith) in omega arith) in
        let d : C.ins + o - C.ins ≡ o = omega arith in
        rw (le-ltb (C.ins + o) C.ins (omega arith))
        (ap (λ (z : ℕ). not (eqb (plain_out C x z) (plain_out C y z))) d
        ∙ sym (ap₂ (λ (u v : ℕ). not (eqb u v)) (first_value (C.out o) b) (second_value (C.out o) b))
        ∙ ap (λ (z : ℕ). not (eqb (get_or room z 0) (get_or room (c.inputs + c.gates + z) 0))) (sym w))

    module _ (i : ℕ) (ei : Own i) (hi : c.inputs ≤ i) (j : ℕ) (ej : Opened j) where
      -- nothing before output j
      before : (k : ℕ) → k < C.ins + j → k < C.ins + C.outs → bad k ≡ false
      before k h m = go (ltb k C.ins) refl
        where
          go : (b : Bool) → ltb k C.ins ≡ b → bad k ≡ false
          go true q = let l : k < C.ins = ltb-true _ _ q in let n = ck.opened.ins_are in own_clear i ei k (omega arith) l
          go false q =
              let l : C.ins ≤ k = ltb-false _ _ q in
              let e : k ≡ C.ins + (k - C.ins) = omega arith in
              let t : k - C.ins < j = omega arith in
              ap bad e ∙ opened_is (k - C.ins) (omega arith)
              ∙ first_before (opened_differs f c.inputs c.gates room) c.outputs (k - C.ins) (subst (λ (z : ℕ). k - C.ins < z) ej t)

      pub opened_place : j < c.outputs → c.inputs + j ≡ first bad (C.ins + C.outs)
      opened_place h =
          let n = ck.opened.outs_are in
          let m : first (opened_differs f c.inputs c.gates room) c.outputs < c.outputs = subst (λ (z : ℕ). z < c.outputs) ej h in
          ap (λ (z : ℕ). z + j) ck.opened.ins_are
          ∙ sym (first_at bad (C.ins + j) (C.ins + C.outs) (λ k q. before k q (omega arith)) (omega arith)
          (opened_is j (omega arith) ∙ ap (opened_differs f c.inputs c.gates room) ej ∙ first_hit (opened_differs f c.inputs c.gates room) c.outputs m))

      pub no_place : c.outputs ≤ j → C.ins + C.outs ≡ first bad (C.ins + C.outs)
      no_place h = let n = ck.opened.outs_are in sym (first_none bad (C.ins + C.outs) (λ k l. before k (omega arith) l))

-- so the place of 13 is the row's fault
module _ (f x y : List ℕ) (site : Seated) (c : Counts) (ck : Checked f c) where
  abbrev all : ℕ
  all = (circuit f).ins + (circuit f).outs

  abbrev place : ℕ
  place = fault (row_differs (circuit f) (number_of site) x y)

  abbrev own : ℕ
  own = first (own_differs f (seat site) x y) c.inputs

  place_is : place ≡ first (differs (seat site) (circuit f) x y) all
  unfolding fault
  place_is = ap (λ (s : Site). first (differs s (circuit f) x y) all) (sym (seat_is site))

  at_place : (i : ℕ) → i ≡ first (differs (seat site) (circuit f) x y) all → i < c.inputs + c.outputs → Some i ≡ some_below place (c.inputs + c.outputs)
  at_place i e h = some_is i (c.inputs + c.outputs) h ∙ ap (λ (k : ℕ). some_below k (c.inputs + c.outputs)) (e ∙ sym place_is)

  pub own_fault : (i : ℕ) → Some i ≡ some_below own c.inputs → Some i ≡ some_below place (c.inputs + c.outputs)
  own_fault i e =
      let q = some_found i own c.inputs e in let l : i < c.inputs = omega arith in
      at_place i (own_place f x y (seat site) c ck i q.0 l) (omega arith)

  module _ (room : List ℕ) (hr : take (2 * (c.inputs + c.gates)) room ≡ both_plain (circuit f) x y) (hi : ◌≡◌ {A = Option ℕ} None (some_below own c.inputs)) where
    abbrev opened : ℕ
    opened = first (opened_differs f c.inputs c.gates room) c.outputs

    pub opened_fault : (j : ℕ) → Some j ≡ some_below opened c.outputs → Some (c.inputs + j) ≡ some_below place (c.inputs + c.outputs)
    opened_fault j e =
        let q = some_found j opened c.outputs e in let l : j < c.outputs = omega arith in
        at_place (c.inputs + j) (opened_place f x y (seat site) c ck room hr own refl (none_found own c.inputs hi) j q.0 l) (omega arith)

    pub no_fault : ◌≡◌ {A = Option ℕ} None (some_below opened c.outputs) → ◌≡◌ {A = Option ℕ} None (some_below place (c.inputs + c.outputs))
    no_fault e =
        let p = no_place f x y (seat site) c ck room hr own refl (none_found own c.inputs hi) opened refl (none_found opened c.outputs e) in
        let q = place_is in let i = ck.opened.ins_are in let o = ck.opened.outs_are in
        none_is place (c.inputs + c.outputs) (omega arith)
