-- Whole numbers modulo m, a family beside bits, with gates of kind 1, the sum, and 2, the product. No public call is one of it: it
-- shows that what is stated over a family asks for no bits.
--     addm, subm, mulm      sums, differences and products that wrap at m;  modulo m: the three
--     number_gate, number_gate_of    5: which gates are good; what a gate's three numbers mean
--     modulo_family m       no number is tested, the slices' type says that each is below m; plain values by the operations themselves
use Rattle.std.specs.Prelude.{Bool, true, ◌&&◌, cond, ℕ, ◌+◌, ◌-◌, ◌*◌, ◌%◌, ◌<◌, get_or, leb, ltb, eqb}
use Rattle.theory_sharing.specs.Ops.{Ops}
use Rattle.theory_sharing.specs.Circuit.{Gate, XOR, AND}
use Rattle.theory_sharing.specs.Values.{values}
use Rattle.theory_calls.specs.Family.{Family}

module _ (m : ℕ) where
  unfoldable pub addm : ℕ → ℕ → ℕ
  addm a b = (a + b) % m

  unfoldable pub subm : ℕ → ℕ → ℕ
  subm a b = (a + (m - b % m)) % m

  unfoldable pub mulm : ℕ → ℕ → ℕ
  mulm a b = a * b % m

  abbrev pub modulo : Ops
  modulo = record { add = addm; sub = subm; mul = mulm }

unfoldable pub number_gate : ℕ → ℕ → ℕ → ℕ → Bool
number_gate kind a b w = (leb 1 kind && leb kind 2) && ltb a w && ltb b w

-- any other kind is refused (5); it reads as the product
unfoldable pub number_gate_of : ℕ → ℕ → ℕ → Gate
number_gate_of kind a b = cond (eqb kind 1) (XOR a b) (AND a b)

abbrev pub modulo_family : ℕ → Family
modulo_family m = record {
  ops = modulo m;
  good_kind = number_gate;
  gate_of = number_gate_of;
  fine = λ n. true;
  Fits = λ n. n < m;
  Small = λ n. n < m;
  plain = λ C xs. values (modulo m) C (λ k. get_or xs k 0) C.gates;
}
