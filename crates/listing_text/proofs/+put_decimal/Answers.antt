-- A function that calls itself: each goal is stated with the measure t, and answered in a line.
use Rattle.std.proofs.Common.{arith}
use Rattle.theory_calls.proofs.Digits.{one_digit, more_digits}
use Rattle.listing_text.proofs.DigitLaws.{put_small, put_more}
use Rattle.listing_text.proofs.+put_decimal.Goals as goal

pub bounds-text-at : goal.bounds-text-at
bounds-text-at t c = let l = one_digit _ c.if-n-le9.true in omega arith

pub returns-then-n-le9-clause-text_after : goal.returns-then-n-le9-clause-text_after
returns-then-n-le9-clause-text_after t c = let e = put_small _ _ _ c.if-n-le9.true (let l = one_digit _ c.if-n-le9.true in omega arith) in e.0

pub returns-then-n-le9-clause-value : goal.returns-then-n-le9-clause-value
returns-then-n-le9-clause-value t c = let l = one_digit _ c.if-n-le9.true in omega arith

pub put_decimal-end-requires : goal.put_decimal-end-requires
put_decimal-end-requires t c = let l = more_digits _ c.if-n-le9.false in omega arith

pub bounds-text-end : goal.bounds-text-end
bounds-text-end t c = let l = more_digits _ c.if-n-le9.false in omega arith

pub overflow_add-result-2 : goal.overflow_add-result-2
overflow_add-result-2 t c = let l = more_digits _ c.if-n-le9.false in record { fits = omega arith }

pub returns : goal.returns
returns t c =
    let e = put_more _ _ _ _ _ c.if-n-le9.false (c.put_decimal-end.ensures.text_after, c.put_decimal-end.ensures.value) (let l = more_digits _ c.if-n-le9.false in omega arith) in
    record { text_after = e.0; value = e.1 }
