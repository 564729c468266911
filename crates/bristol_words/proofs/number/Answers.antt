use borrow.Author.Rules.{rules}
use native.Mathlib.Omega.{arith}
use Rattle.bristol_words.proofs.NumberLaws.{no_number, start_read, small_read, stop_read, next_read, all_read}
use Rattle.bristol_words.proofs.number.Goals as goal
use Rattle.std.proofs.lemmas.Bool.Decides.{nat_tests}

pub returns-then-is_empty-word : goal.returns-then-is_empty-word
returns-then-is_empty-word c = no_number _ (λ h. grind (arith, nat_tests))

pub loop-b-init : goal.loop-b-init
loop-b-init c = start_read _ (search rules)

pub returns-then-not-is_ascii_digit : goal.returns-then-not-is_ascii_digit
returns-then-not-is_ascii_digit c = stop_read _ _ _ (search rules) (search rules) c.loop-b.invariant (λ h g. grind (arith, nat_tests))

pub overflow_mul-value : goal.overflow_mul-value
overflow_mul-value c = let s = small_read _ _ _ (search rules) (search rules) c.loop-b.invariant in omega arith

pub overflow_add-value : goal.overflow_add-value
overflow_add-value c = let s = small_read _ _ _ (search rules) (search rules) c.loop-b.invariant in omega arith

pub loop-b-preserved : goal.loop-b-preserved
loop-b-preserved c = next_read _ _ _ (search rules) (search rules) c.loop-b.invariant (search rules) (search rules)

pub returns : goal.returns
returns c = all_read _ _ _ (search rules) c.loop-b.invariant
