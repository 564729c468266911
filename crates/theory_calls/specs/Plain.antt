-- The plain Boolean value of every wire, as a reader of Booleans expects it.
--     bit, byte          "A bit is one byte, 0 or 1."
--     plain_gate         xor, and, or, not
--     plain_values       the inputs, then the gates by number
--     plain C xs         the values of all W wires under inputs xs, as bytes
-- That OR by flips equals OR, and that these are the values that the sharing computes with, is proofs/PlainLaws.antt.
use Rattle.std.specs.Prelude.{Bool, true, false, not, ◌&&◌, ◌||◌, List, [], ◌∷◌, ◌++◌, map, ℕ, zero, suc, get_or}
use Rattle.std.specs.Bool.{xor}
use Rattle.theory_sharing.specs.Circuit.{Gate, XOR, AND, OR, NOT, Circuit}

unfoldable pub bit : ℕ → Bool
bit zero = false
bit (suc n) = true

unfoldable pub byte : Bool → ℕ
byte true = 1
byte false = 0

unfoldable pub plain_gate : Gate → List Bool → Bool
plain_gate (XOR a b) vs = xor (get_or vs a false) (get_or vs b false)
plain_gate (AND a b) vs = get_or vs a false && get_or vs b false
plain_gate (OR a b) vs = get_or vs a false || get_or vs b false
plain_gate (NOT a) vs = not (get_or vs a false)

-- 01: "Inputs are I bytes in wire order."
unfoldable pub plain_inputs : List ℕ → ℕ → List Bool
plain_inputs xs zero = []
plain_inputs xs (suc i) = plain_inputs xs i ++ (bit (get_or xs i 0) ∷ [])

-- 01: "gate g makes wire I+g"
unfoldable pub plain_values : Circuit → List ℕ → ℕ → List Bool
plain_values C xs zero = plain_inputs xs C.ins
plain_values C xs (suc g) = plain_values C xs g ++ (plain_gate (C.gate g) (plain_values C xs g) ∷ [])

unfoldable pub plain : Circuit → List ℕ → List ℕ
plain C xs = map byte (plain_values C xs C.gates)

-- the plain value of an output
abbrev pub plain_out : Circuit → List ℕ → ℕ → ℕ
plain_out C xs o = get_or (plain C xs) (C.out o) 0
