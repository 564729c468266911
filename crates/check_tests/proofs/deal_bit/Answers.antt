use borrow.Author.Rules.{rules}
use native.Mathlib.Nat.{le_trans, lt_of_le_of_lt}
use lib.Bits.{and_le_r}
use lib.Dec.{lit<, lit≤}
use Rattle.check_tests.proofs.TestLaws.{even_kind}
use Rattle.check_tests.proofs.deal_bit.Goals as goal

pub overflow_cast-result : goal.overflow_cast-result
overflow_cast-result c = record { fits = lt_of_le_of_lt (and_le_r c.args.kind _) (lit< tt) }

pub overflow_sub-result : goal.overflow_sub-result
overflow_sub-result c = le_trans (and_le_r c.args.kind _) (lit≤ tt)

pub returns : goal.returns
returns c = (even_kind _ c.requires, search rules)
