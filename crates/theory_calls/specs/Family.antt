-- A family of numbers that are shared: what the calls on a circuit, inputs, tapes and a line hang on beside the circuit's counts.
--     Family         operations, gates, the test of a slice's numbers, what the slices' type says of them, plain values
--     bit_family     01's bits
--     circuit_with F the circuit that a file holds
--     Fitting F l    every number of a slice is as the slices' type says
--     Numbers F l n  a slice of the wanted length, whose numbers are the family's;  Bits: at bits
--     out_of F       the plain value of an output
-- What a family must satisfy is no definition but a law: proofs/FamilyLaws.antt.
use Rattle.std.specs.Prelude.{◌≡◌, Bool, ◌&&◌, cond, List, ℕ, ◌<◌, length, get_or, leb, ltb, eqb}
use Rattle.theory_sharing.specs.Ops.{Ops, bits}
use Rattle.theory_sharing.specs.Circuit.{Gate, Circuit}
use Rattle.theory_calls.specs.File.{inputs_of, gates_of, outputs_of, gate_of, circuit_by}
use Rattle.theory_calls.specs.Plain.{plain}

pub record Family : Type 1 where
  pub ops : Ops  -- sum, difference and product
  pub good_kind : ℕ → ℕ → ℕ → ℕ → Bool  -- 5: whether a gate's kind, first and second are good at a wire
  pub gate_of : ℕ → ℕ → ℕ → Gate  -- what a gate's three numbers mean
  pub fine : ℕ → Bool  -- 7, 8, 9, 12: whether a number passes in a slice
  pub Fits : ℕ → Type 0  -- what the slices' type says of each number; of bits nothing is asked
  pub Small : ℕ → Type 0  -- the numbers that are shared
  pub plain : Circuit → List ℕ → List ℕ  -- the plain values of all wires under inputs

-- 5: "unknown kind, operand not a lower wire, or NOT with second not 0 | gate number"
unfoldable pub good_gate : ℕ → ℕ → ℕ → ℕ → Bool
good_gate kind a b w = (leb 1 kind && leb kind 4) && ltb a w && cond (eqb kind 3) (eqb b 0) (ltb b w)

abbrev pub bit_family : Family
bit_family = record {
  ops = bits;
  good_kind = good_gate;
  gate_of = gate_of;
  fine = λ n. leb n 1;
  Fits = λ n. Unit {0};
  Small = λ n. n < 2;
  plain = plain;
}

abbrev pub circuit_with : Family → List ℕ → Circuit
circuit_with F f = circuit_by F.gate_of f (inputs_of f) (gates_of f) (outputs_of f)

abbrev pub Fitting : Family → List ℕ → Type 0
Fitting F l = (k : ℕ) → F.Fits (get_or l k 0)

-- a slice of the wanted length, each number one that is shared
pub record Numbers (F : Family) (l : List ℕ) (want : ℕ) : Type 0 where
  pub long : length l ≡ want
  pub small : (k : ℕ) → F.Small (get_or l k 0)

-- each byte 0 or 1
abbrev pub Bits : List ℕ → ℕ → Type 0
Bits l want = Numbers bit_family l want

abbrev pub out_of : Family → Circuit → List ℕ → ℕ → ℕ
out_of F C xs o = get_or (F.plain C xs) (C.out o) 0
