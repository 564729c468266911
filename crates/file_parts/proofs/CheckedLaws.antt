-- What an accepted circuit's gates and outputs keep.
--     operands_lower           both numbers of a good gate are lower wires, NOT's second too
--     kind_good                the kind of a good gate is one of the four
--     owner_known, kind_known, gate_lower    so of the owners and the gates that are stored
--     gate_is, wire_is         what is stored is the circuit's
-- Assumes nothing.
use mathlib.Core.Path.{◌≡◌, refl, sym, ap}
use mathlib.Core.Bool.{Bool, true, false, ◌&&◌, cond, true≢false}
use mathlib.Core.List.{List}
use Prim.Native.Nat.{ℕ, ◌+◌, ◌<◌, ◌≤◌}
use native.Mathlib.Omega.{arith}
use lib.Dec.{leb, ltb, eqb}
use borrow.Author.Tests.{ltb-true, leb-true, eqb-true}
use Rattle.theory_calls.specs.File.{kind_at, first_at, second_at, owner_at, output_at, gate_of, circuit}
use Rattle.theory_calls.specs.Checks.{good_gate}
use Rattle.file_header.specs.declared.Counts.{Counts}
use Rattle.file_parts.specs.Checked.{Checked}

pub both : (x y : Bool) → (x && y) ≡ true → (x ≡ true) × (y ≡ true)
both true y e = (refl, e)
both false y e = absurd (true≢false (sym e))

pub operands_lower : (kind a b w : ℕ) → good_gate kind a b w ≡ true → (a < w) × (b < w)
unfolding good_gate
operands_lower kind a b w e =
    let p = both ((leb 1 kind && leb kind 4) && ltb a w) (cond (eqb kind 3) (eqb b 0) (ltb b w)) e in
    let l : a < w = ltb-true a w (both (leb 1 kind && leb kind 4) (ltb a w) p.0).1 in
    (l, go (eqb kind 3) l p.1)
  where
    go : (t : Bool) → a < w → cond t (eqb b 0) (ltb b w) ≡ true → b < w
    go true l q = let z : b ≡ 0 = eqb-true b 0 q in omega arith
    go false l q = ltb-true b w q

between : (x l : ℕ) → (leb 1 x && leb x l) ≡ true → (1 ≤ x) × (x ≤ l)
between x l e = let p = both (leb 1 x) (leb x l) e in (leb-true 1 x p.0, leb-true x l p.1)

-- a good gate's kind is one of the four
pub kind_good : (kind a b w : ℕ) → good_gate kind a b w ≡ true → (1 ≤ kind) × (kind ≤ 4)
unfolding good_gate
kind_good kind a b w e =
    let p = both ((leb 1 kind && leb kind 4) && ltb a w) (cond (eqb kind 3) (eqb b 0) (ltb b w)) e in
    between kind 4 (both (leb 1 kind && leb kind 4) (ltb a w) p.0).0

module _ (s : List ℕ) (c : Counts) (z : Checked s c) (k : ℕ) where
  -- the owner of an input is one of the three
  pub owner_known : k < c.inputs → (1 ≤ owner_at s k) × (owner_at s k ≤ 3)
  owner_known h = between _ 3 (z.owners k h)

  -- a gate's kind is one of the four, and its operands are lower wires
  pub kind_known : k < c.gates → (1 ≤ kind_at s c.inputs k) × (kind_at s c.inputs k ≤ 4)
  kind_known h = kind_good _ _ _ _ (z.gates k h)

  pub gate_lower : k < c.gates → (first_at s c.inputs k < c.inputs + k) × (second_at s c.inputs k < c.inputs + k)
  gate_lower h = operands_lower _ _ _ _ (z.gates k h)

  -- what is stored is the circuit's
  pub gate_is : gate_of (kind_at s c.inputs k) (first_at s c.inputs k) (second_at s c.inputs k) ≡ (circuit s).gate k
  gate_is = ap (λ (n : ℕ). gate_of (kind_at s n k) (first_at s n k) (second_at s n k)) z.opened.ins_are

  pub wire_is : output_at s c.inputs c.gates k ≡ (circuit s).out k
  wire_is = λ i. output_at s (z.opened.ins_are i) (z.opened.gates_are i) k
