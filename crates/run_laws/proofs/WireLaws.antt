-- The document's wires by number, which no order of gates changes.
--     operands             what holds of each operand, mapped
--     gate_is, told_is     a gate's wire and its bits, of wires in a list and of wires by number
--     gate_like, told_like     they depend on the operands only
--     wire_at, wires_in    a wire of a run is there from its own step on; an input's
--     wires_make           a gate's is what the gate makes of its operands'
--     wires_told           and tells
use mathlib.Core.Path.{◌≡◌, refl, sym, ap, ap₂, ◌∙◌}
use mathlib.Core.Logic.{⊎_elim}
use mathlib.Core.List.{List, [], ◌∷◌, ◌++◌}
use Prim.Native.Nat.{ℕ, zero, suc, ◌+◌, ◌≤◌, ◌<◌}
use native.Mathlib.Omega.{arith}
use native.Mathlib.Nat.{eq-or-lt_of_le}
use lib.ListN.{length, get_or, get_or-append}
use Rattle.theory_sharing.specs.Ops.{Ops}
use Rattle.theory_sharing.specs.Sites.{Site}
use Rattle.theory_sharing.specs.Circuit.{Gate, XOR, AND, OR, NOT, Circuit, Draws, Errors}
use Rattle.theory_sharing.specs.Published.{deal}
use Rattle.theory_sharing.specs.Steps.{Wire, no_wire, add_wire, flip, mul_wire, deals, delivered3, in_wire, gate_wire, gate_delivered}
use Rattle.theory_sharing.specs.Run.{ins_after, after}
use Rattle.theory_sharing.proofs.RunLaws.{grown_at, ins_many, after_length}
use Rattle.run_laws.specs.Places.{Operands, gate_by, told_by, wire_of}

pub operands : {P Q : ℕ → Type 0} → ((a : ℕ) → P a → Q a) → (k : Gate) → Operands P k → Operands Q k
operands f (XOR a b) p = (f a p.0, f b p.1)
operands f (AND a b) p = (f a p.0, f b p.1)
operands f (OR a b) p = (f a p.0, f b p.1)
operands f (NOT a) p = f a p

module _ (R : Ops) (e : ℕ → ℕ) (α β : Site → ℕ) where
  pub gate_is : (k : Gate) (ws : List Wire) → gate_wire R e α β k ws ≡ gate_by R e α β k (λ a. get_or ws a no_wire)
  unfolding gate_wire gate_by
  gate_is (XOR a b) ws = refl
  gate_is (AND a b) ws = refl
  gate_is (OR a b) ws = refl
  gate_is (NOT a) ws = refl

  pub told_is : (k : Gate) (ws : List Wire) → gate_delivered R e α β k ws ≡ told_by R e α β k (λ a. get_or ws a no_wire)
  unfolding gate_delivered told_by
  told_is (XOR a b) ws = refl
  told_is (AND a b) ws = refl
  told_is (OR a b) ws = refl
  told_is (NOT a) ws = refl

  module _ (U W : ℕ → Wire) where
    pub gate_like : (k : Gate) → Operands (λ a. U a ≡ W a) k → gate_by R e α β k U ≡ gate_by R e α β k W
    unfolding gate_by
    gate_like (XOR a b) p = ap₂ (add_wire R) p.0 p.1
    gate_like (AND a b) p = ap₂ (mul_wire R e α β) p.0 p.1
    gate_like (OR a b) p = ap₂ (λ x y. flip R (mul_wire R e α β (flip R x) (flip R y))) p.0 p.1
    gate_like (NOT a) p = ap (flip R) p

    pub told_like : (k : Gate) → Operands (λ a. U a ≡ W a) k → told_by R e α β k U ≡ told_by R e α β k W
    unfolding told_by
    told_like (XOR a b) p = refl
    told_like (AND a b) p = ap₂ (λ x y. delivered3 R e (deals R α β x y)) p.0 p.1
    told_like (OR a b) p = ap₂ (λ x y. delivered3 R e (deals R α β (flip R x) (flip R y))) p.0 p.1
    told_like (NOT a) p = refl

module _ (R : Ops) (C : Circuit) (x : ℕ → ℕ) (T : Draws) (E : Errors) where
  abbrev W : ℕ → Wire
  W = wire_of R C x T E

  abbrev made : ℕ → List Wire
  made g = gate_wire R (E.on_gate g) (T.g1 g) (T.g2 g) (C.gate g) (after R C x T E g) ∷ []

  grows : (g : ℕ) → after R C x T E (suc g) ≡ after R C x T E g ++ made g
  unfolding after
  grows g = refl

  -- a wire is there from its own step on
  stays : (m g w : ℕ) → g ≤ m → w < C.ins + g → get_or (after R C x T E m) w no_wire ≡ get_or (after R C x T E g) w no_wire
  stays zero g w h q = ap (λ (k : ℕ). get_or (after R C x T E k) w no_wire) (let e : 0 ≡ g = omega arith in e)
  stays (suc m) g w h q =
      ⊎_elim (λ e. ap (λ (k : ℕ). get_or (after R C x T E k) w no_wire) (sym e))
      (λ b. let l = after_length R C x T E m in
      ap (λ (z : List Wire). get_or z w no_wire) (grows m) ∙ get_or-append (after R C x T E m) (made m) no_wire w (omega arith) ∙ stays m g w (omega arith) q)
      (eq-or-lt_of_le h)

  pub wire_at : (g w : ℕ) → g ≤ C.gates → w < C.ins + g → get_or (after R C x T E g) w no_wire ≡ W w
  wire_at g w h q = sym (stays C.gates g w h q)

  wire_made : (g : ℕ) → g < C.gates → W (C.ins + g) ≡ gate_wire R (E.on_gate g) (T.g1 g) (T.g2 g) (C.gate g) (after R C x T E g)
  wire_made g h =
      let l = after_length R C x T E g in
      ap (λ (m : ℕ). get_or (after R C x T E C.gates) m no_wire) (let e : C.ins + g ≡ length (after R C x T E g) + 0 = omega arith in e)
      ∙ grown_at (after R C x T E) made no_wire grows g C.gates h 0 (omega arith)

  module _ (g : ℕ) (h : g < C.gates) (o : Operands (λ a. a < C.ins + g) (C.gate g)) where
    here : Operands (λ a. get_or (after R C x T E g) a no_wire ≡ W a) (C.gate g)
    here = operands (λ a q. wire_at g a (omega arith) q) (C.gate g) o

    pub wires_make : W (C.ins + g) ≡ gate_by R (E.on_gate g) (T.g1 g) (T.g2 g) (C.gate g) W
    wires_make =
        wire_made g h ∙ gate_is R (E.on_gate g) (T.g1 g) (T.g2 g) (C.gate g) (after R C x T E g) ∙ gate_like R (E.on_gate g) (T.g1 g) (T.g2 g) _ W (C.gate g) here

    pub wires_told : gate_delivered R (E.on_gate g) (T.g1 g) (T.g2 g) (C.gate g) (after R C x T E g) ≡ told_by R (E.on_gate g) (T.g1 g) (T.g2 g) (C.gate g) W
    wires_told =
        told_is R (E.on_gate g) (T.g1 g) (T.g2 g) (C.gate g) (after R C x T E g) ∙ told_like R (E.on_gate g) (T.g1 g) (T.g2 g) _ W (C.gate g) here

  in_made : ℕ → List Wire
  in_made i = in_wire R (E.on_input i) (C.owner i) (deal R (x i) (T.in1 i) (T.in2 i)) ∷ []

  in_grows : (i : ℕ) → ins_after R C x T E (suc i) ≡ ins_after R C x T E i ++ in_made i
  unfolding ins_after in_made
  in_grows i = refl

  pub wires_in : (i : ℕ) → i < C.ins → W i ≡ in_wire R (E.on_input i) (C.owner i) (deal R (x i) (T.in1 i) (T.in2 i))
  unfolding after in_made
  wires_in i h =
      let l = ins_many R C x T E i in
      sym (wire_at 0 i (omega arith) (omega arith))
      ∙ ap (λ (m : ℕ). get_or (ins_after R C x T E C.ins) m no_wire) (let e : i ≡ length (ins_after R C x T E i) + 0 = omega arith in e)
      ∙ grown_at (ins_after R C x T E) in_made no_wire in_grows i C.ins h 0 (omega arith)
