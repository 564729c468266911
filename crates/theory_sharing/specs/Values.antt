-- The value of every wire by the group's own operations, with no sharing: what the parts of a wire add up to.
-- At bits it is the plain Boolean value (theory_calls, proofs/PlainLaws.antt); a list that grows at its end, one value a wire.
--     value_gate     of one gate, from the values before it
--     values C x g   of the inputs and the first g gates
use Rattle.std.specs.Prelude.{List, [], ◌∷◌, ◌++◌, ℕ, zero, suc, get_or}
use Rattle.theory_sharing.specs.Ops.{Ops}
use Rattle.theory_sharing.specs.Circuit.{Gate, XOR, AND, OR, NOT, Circuit}

module _ (R : Ops) where
  open R use {add, mul}

  unfoldable pub value_gate : Gate → List ℕ → ℕ
  value_gate (XOR a b) vs = add (get_or vs a 0) (get_or vs b 0)
  value_gate (AND a b) vs = mul (get_or vs a 0) (get_or vs b 0)
  value_gate (OR a b) vs = add (mul (add (get_or vs a 0) 1) (add (get_or vs b 0) 1)) 1
  value_gate (NOT a) vs = add (get_or vs a 0) 1

  unfoldable pub value_inputs : (ℕ → ℕ) → ℕ → List ℕ
  value_inputs x zero = []
  value_inputs x (suc i) = value_inputs x i ++ (x i ∷ [])

  unfoldable pub values : Circuit → (ℕ → ℕ) → ℕ → List ℕ
  values C x zero = value_inputs x C.ins
  values C x (suc g) = values C x g ++ (value_gate (C.gate g) (values C x g) ∷ [])
