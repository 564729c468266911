-- The circuit file as a function of its bytes.
--     le16, le32            "All numbers are little-endian."
--     size                  the length that the counts ask for
--     kind_at, first_at, second_at, owner_at, output_at    the stored numbers as they stand, by number
--     site_of, gate_of      what an owner's byte and a gate's three numbers mean
--     circuit_by, circuit   the circuit that a file holds, by counts and by its own
-- A byte beyond the end reads 0. Nothing here asks that the file is good: that is Checks.antt.
use Rattle.std.specs.Prelude.{List, ℕ, zero, suc, ◌+◌, ◌*◌, get_or}
use Rattle.theory_sharing.specs.Sites.{Site, s1, s2, s3}
use Rattle.theory_sharing.specs.Circuit.{Gate, XOR, AND, OR, NOT, Circuit}

unfoldable pub le16 : List ℕ → ℕ → ℕ
le16 f at = get_or f at 0 + 256 * get_or f (at + 1) 0

unfoldable pub le32 : List ℕ → ℕ → ℕ
le32 f at = le16 f at + 65536 * le16 f (at + 2)

-- 01: "The header is eight u32 fields": at 4, 8, 12 "I inputs, G gates, O outputs"
abbrev pub inputs_of : List ℕ → ℕ
inputs_of f = le32 f 4

abbrev pub gates_of : List ℕ → ℕ
gates_of f = le32 f 8

abbrev pub outputs_of : List ℕ → ℕ
outputs_of f = le32 f 12

-- 01: "owners at 32, gates at 32+I, outputs at 32+I+6G, length 32+I+6G+2O"
abbrev pub gates_start : ℕ → ℕ
gates_start i = 32 + i

abbrev pub outputs_start : ℕ → ℕ → ℕ
outputs_start i g = 32 + i + 6 * g

unfoldable pub size : ℕ → ℕ → ℕ → ℕ
size i g o = 32 + i + 6 * g + 2 * o

-- 01: "Owners: I bytes", "Gates: G records of three u16, kind, first, second", "Outputs: O u16 wire numbers"
unfoldable pub owner_at : List ℕ → ℕ → ℕ
owner_at f k = get_or f (32 + k) 0

unfoldable pub kind_at : List ℕ → ℕ → ℕ → ℕ
kind_at f i k = le16 f (gates_start i + 6 * k)

unfoldable pub first_at : List ℕ → ℕ → ℕ → ℕ
first_at f i k = le16 f (gates_start i + 6 * k + 2)

unfoldable pub second_at : List ℕ → ℕ → ℕ → ℕ
second_at f i k = le16 f (gates_start i + 6 * k + 4)

unfoldable pub output_at : List ℕ → ℕ → ℕ → ℕ → ℕ
output_at f i g k = le16 f (outputs_start i g + 2 * k)

-- 01: "each 1, 2 or 3". Any other number is refused (4) before a site is asked for; it reads as 3.
unfoldable pub site_of : ℕ → Site
site_of zero = s3
site_of (suc zero) = s1
site_of (suc (suc zero)) = s2
site_of (suc (suc (suc n))) = s3

-- 01: "Kinds: 1 XOR, 2 AND, 3 NOT (second is 0 and reads nothing), 4 OR." Any other kind is refused (5); it reads as OR.
unfoldable pub gate_of : ℕ → ℕ → ℕ → Gate
gate_of zero a b = OR a b
gate_of (suc zero) a b = XOR a b
gate_of (suc (suc zero)) a b = AND a b
gate_of (suc (suc (suc zero))) a b = NOT a
gate_of (suc (suc (suc (suc n)))) a b = OR a b

-- a file read by given counts, a gate's three numbers meaning what a family says
abbrev pub circuit_by : (ℕ → ℕ → ℕ → Gate) → List ℕ → ℕ → ℕ → ℕ → Circuit
circuit_by meaning f i g o = record {
  ins = i;
  gates = g;
  outs = o;
  owner = λ k. site_of (owner_at f k);
  gate = λ k. meaning (kind_at f i k) (first_at f i k) (second_at f i k);
  out = λ k. output_at f i g k;
}

abbrev pub circuit : List ℕ → Circuit
circuit f = circuit_by gate_of f (inputs_of f) (gates_of f) (outputs_of f)
