-- The numbers that are shared, as far as a definition sees them: three operations.
--     Ops     a sum, a difference and a product on numbers
--     bits    xor, xor and and: "a secret bit is the exclusive or of three parts"
-- What the operations must satisfy is no definition but a law: proofs/Group.antt. Bits are the instance that runs; whatever else
-- has these three operations and those laws (numbers modulo m: crates/theory_modulo) shares every definition and every law here.
use Rattle.std.specs.Prelude.{ℕ}
use Rattle.std.specs.Int.Bits.{bit_xor, bit_and}

pub record Ops : Type 0 where
  pub add : ℕ → ℕ → ℕ
  pub sub : ℕ → ℕ → ℕ
  pub mul : ℕ → ℕ → ℕ

-- 01: "A bit is one byte, 0 or 1.": sums and differences of bits are xor, their product is and.
abbrev pub bits : Ops
bits = record { add = bit_xor; sub = bit_xor; mul = bit_and }
