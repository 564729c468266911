-- Plain Boolean values are the values that the sharing computes with.
--     byte_or           OR by flips is OR
--     byte_bit          a byte that is 0 or 1 is the byte of its bit
--     plain_is          the plain values of all wires, as bytes
--     plain_length      there are W of them;  inputs_length, values_length: of the first so many
-- Assumes nothing.
use mathlib.Core.Path.{◌≡◌, refl, sym, ap, ap₂, ◌∙◌}
use mathlib.Core.Bool.{Bool, true, false, not, ◌&&◌, ◌||◌, xor}
use mathlib.Core.List.{List, [], ◌∷◌, ◌++◌, map}
use Prim.Native.Nat.{ℕ, zero, suc, ◌+◌, ◌<◌}
use native.Mathlib.Omega.{arith}
use lib.ListN.{length, get_or, length-append, length-map, get_or-map}
use lib.Bits.{bit_xor, bit_and}
use Rattle.theory_sharing.specs.Ops.{bits}
use Rattle.theory_sharing.specs.Circuit.{Gate, XOR, AND, OR, NOT, Circuit, wires}
use Rattle.theory_sharing.specs.Values.{value_gate, value_inputs, values}
use Rattle.theory_sharing.proofs.Parts.{map_snoc}
use Rattle.theory_calls.specs.Plain.{bit, byte, plain_gate, plain_inputs, plain_values, plain}
use Rattle.theory_calls.specs.Calls.{at_wire}

pub byte_xor : (a b : Bool) → byte (xor a b) ≡ bit_xor (byte a) (byte b)
unfolding byte xor
byte_xor true true = refl
byte_xor true false = refl
byte_xor false true = refl
byte_xor false false = refl

pub byte_and : (a b : Bool) → byte (a && b) ≡ bit_and (byte a) (byte b)
unfolding byte
byte_and true true = refl
byte_and true false = refl
byte_and false true = refl
byte_and false false = refl

pub byte_not : (a : Bool) → byte (not a) ≡ bit_xor (byte a) 1
unfolding byte
byte_not true = refl
byte_not false = refl

-- 01, step 5: "flip part 1 of both operands, AND, flip part 1 of the result"
pub byte_or : (a b : Bool) → byte (a || b) ≡ bit_xor (bit_and (bit_xor (byte a) 1) (bit_xor (byte b) 1)) 1
unfolding byte
byte_or true true = refl
byte_or true false = refl
byte_or false true = refl
byte_or false false = refl

pub byte_bit : (n : ℕ) → n < 2 → byte (bit n) ≡ n
unfolding byte bit
byte_bit zero h = refl
byte_bit (suc zero) h = refl
byte_bit (suc (suc n)) h = absurd (omega arith)

look : (vs : List Bool) (w : ℕ) → byte (get_or vs w false) ≡ get_or (map byte vs) w 0
unfolding byte
look vs w = sym (get_or-map byte vs w false)

gate_is : (k : Gate) (vs : List Bool) → byte (plain_gate k vs) ≡ value_gate bits k (map byte vs)
unfolding plain_gate value_gate
gate_is (XOR i j) vs = byte_xor (get_or vs i false) (get_or vs j false) ∙ ap₂ bit_xor (look vs i) (look vs j)
gate_is (AND i j) vs = byte_and (get_or vs i false) (get_or vs j false) ∙ ap₂ bit_and (look vs i) (look vs j)
gate_is (OR i j) vs =
    byte_or (get_or vs i false) (get_or vs j false)
    ∙ ap₂ (λ (a b : ℕ). bit_xor (bit_and (bit_xor a 1) (bit_xor b 1)) 1) (look vs i) (look vs j)
gate_is (NOT i) vs = byte_not (get_or vs i false) ∙ ap (λ (a : ℕ). bit_xor a 1) (look vs i)

module _ (C : Circuit) (xs : List ℕ) (h : (k : ℕ) → get_or xs k 0 < 2) where
  inputs_are : (i : ℕ) → map byte (plain_inputs xs i) ≡ value_inputs bits (at_wire xs) i
  unfolding plain_inputs value_inputs
  inputs_are zero = refl
  inputs_are (suc i) =
      map_snoc byte (plain_inputs xs i) _ ∙ ap₂ (λ l v. l ++ (v ∷ [])) (inputs_are i) (byte_bit (get_or xs i 0) (h i))

  values_are : (g : ℕ) → map byte (plain_values C xs g) ≡ values bits C (at_wire xs) g
  unfolding plain_values values
  values_are zero = inputs_are C.ins
  values_are (suc g) =
      map_snoc byte (plain_values C xs g) _
      ∙ ap₂ (λ l v. l ++ (v ∷ [])) (values_are g) (gate_is (C.gate g) (plain_values C xs g) ∙ ap (value_gate bits (C.gate g)) (values_are g))

  pub plain_is : plain C xs ≡ values bits C (at_wire xs) C.gates
  unfolding plain
  plain_is = values_are C.gates

module _ (C : Circuit) (xs : List ℕ) where
  pub inputs_length : (i : ℕ) → length (plain_inputs xs i) ≡ i
  unfolding plain_inputs
  inputs_length zero = refl
  inputs_length (suc i) = length-append (plain_inputs xs i) _ ∙ (let k = inputs_length i in omega arith)

  pub values_length : (g : ℕ) → length (plain_values C xs g) ≡ C.ins + g
  unfolding plain_values
  values_length zero = let k = inputs_length C.ins in omega arith
  values_length (suc g) = length-append (plain_values C xs g) _ ∙ (let k = values_length g in omega arith)

  pub plain_length : length (plain C xs) ≡ wires C
  unfolding plain
  plain_length = length-map (plain_values C xs C.gates) byte ∙ values_length C.gates
