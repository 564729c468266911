use borrow.Author.Rules.{rules}
use mathlib.Core.Path.{refl}
use Prim.Native.Nat.{◌+◌, ◌*◌, ◌/◌, ◌^◌}
use native.Mathlib.Nat.{lt_of_le_of_lt}
use lib.Bits.{bit_and, and_le_r}
use lib.Dec.{lit<}
use Rattle.plain.specs.Mirror.{kind_value}
use Rattle.plain.proofs.gate_value.Goals as goal

pub overflow_shr-result : goal.overflow_shr-result
overflow_shr-result c = let a = c.args in let h = and_le_r (4 * a.kind + a.x + 2 * a.y) 31 in search rules

pub overflow_cast-result : goal.overflow_cast-result
overflow_cast-result c = let a = c.args in record { fits = lt_of_le_of_lt (and_le_r (_ / 2 ^ bit_and (4 * a.kind + a.x + 2 * a.y) 31) 1) (lit< tt) }

pub returns : goal.returns
unfolding kind_value
returns c = refl
