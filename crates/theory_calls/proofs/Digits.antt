-- What holds of decimal numbers, and how long a listing's text is.
--     decimal_small, decimal_more    a number of one digit; of more: those of its tenth, and the last
--     decimal_length                 a number below ten to the k has at most k digits
--     one_digit, more_digits         the same of their number
--     line_out, lines_length         an output's line has at most 10 bytes
--     digits_few                     the four numbers of a text have at most 16 digits
--     text_short                     a text has at most 2,610, so a buffer of 2,624 holds it
-- Assumes nothing.
use mathlib.Core.Path.{◌≡◌, refl, ap, ◌∙◌}
use mathlib.Core.Bool.{Bool, true, false, cond}
use mathlib.Core.List.{[], ◌∷◌, ◌++◌}
use Prim.Native.Nat.{ℕ, zero, suc, ◌+◌, ◌*◌, ◌/◌, ◌%◌, ◌^◌, ◌<◌, ◌≤◌}
use native.Mathlib.Nat.{div-add-mod', pow-suc}
use native.Mathlib.Omega.{arith}
use lib.Dec.{leb}
use lib.ListN.{length, length-append}
use borrow.Author.Tests.{le-leb, lt-leb, leb-true, leb-false}
use Rattle.theory_sharing.specs.Circuit.{Circuit}
use Rattle.theory_sharing.specs.Traffic.{table_total}
use Rattle.theory_calls.specs.Listing.{digits, decimal, word_inputs, word_gates, word_outputs, word_bits, word_out, word_end, space, LF, out_lines, good_text}

tenth : (n k : ℕ) → n ≤ suc k → n / 10 ≤ k
tenth n k h = let e = div-add-mod' n 10 in omega arith

-- what of the fuel is more than needed changes nothing
fuel : (k m n : ℕ) → n ≤ k → n ≤ m → digits k n ≡ digits m n
unfolding digits
fuel zero zero n h g = refl
fuel zero (suc m) zero h g = refl
fuel (suc k) zero zero h g = refl
fuel zero (suc m) (suc n) h g = absurd (omega arith)
fuel (suc k) zero (suc n) h g = absurd (omega arith)
fuel (suc k) (suc m) n h g =
    ap (λ z. cond (leb n 9) ((48 + n) ∷ []) (z ++ ((48 + n % 10) ∷ []))) (fuel k m (n / 10) (tenth n k h) (tenth n m g))

pub decimal_small : (n : ℕ) → n ≤ 9 → decimal n ≡ (48 + n) ∷ []
unfolding decimal digits
decimal_small zero h = refl
decimal_small (suc k) h = rw (le-leb (suc k) 9 h)

pub decimal_more : (n : ℕ) → 9 < n → decimal n ≡ decimal (n / 10) ++ ((48 + n % 10) ∷ [])
unfolding decimal digits
decimal_more zero h = absurd (omega arith)
decimal_more (suc k) h =
    rw (lt-leb (suc k) 9 h) (ap (λ z. z ++ ((48 + suc k % 10) ∷ [])) (fuel k (suc k / 10) (suc k / 10) (tenth (suc k) k (omega arith)) (omega arith)))

-- the room that a number takes
pub one_digit : (n : ℕ) → n ≤ 9 → length (decimal n) ≡ 1
one_digit n h = ap length (decimal_small n h)

pub more_digits : (n : ℕ) → 9 < n → length (decimal n) ≡ length (decimal (n / 10)) + 1
more_digits n h = ap length (decimal_more n h) ∙ length-append (decimal (n / 10)) ((48 + n % 10) ∷ [])

below : (n p : ℕ) → n < p * 10 → n / 10 < p
below n p h = let e = div-add-mod' n 10 in omega arith

pub decimal_length : (k n : ℕ) → n < 10 ^ suc k → length (decimal n) ≤ suc k
decimal_length zero n h = let l = one_digit n (omega arith) in omega arith
decimal_length (suc k) n h = by_cases (leb n 9) refl (decimal_length k (n / 10) (below n (10 ^ suc k) (rw pow-suc at h)))
  where
    by_cases : (t : Bool) → leb n 9 ≡ t → length (decimal (n / 10)) ≤ suc k → length (decimal n) ≤ suc (suc k)
    by_cases true e s = let l = one_digit n (leb-true _ _ e) in omega arith
    by_cases false e s = let l = more_digits n (leb-false _ _ e) in omega arith

-- an output's line: its number below 1,000, and one digit
pub line_out : (o b : ℕ) → o < 1000 → b ≤ 9 → length (word_out ++ decimal o ++ space ++ decimal b ++ LF) ≤ 10
line_out o b h g =
    let k : length (word_out ++ decimal o ++ space ++ decimal b ++ LF) ≡ length word_out + length (decimal o) + 1 + length (decimal b) + 1 = simp length-append in
    let a : length (decimal o) ≤ 3 = decimal_length 2 o h in
    let d = one_digit b g in
    omega arith

module _ (shown : ℕ → ℕ) (n : ℕ) (one : (o : ℕ) → o < n → shown o ≤ 9) (few : n ≤ 256) where
  pub lines_length : (k : ℕ) → k ≤ n → length (out_lines shown k) ≤ 10 * k
  unfolding out_lines
  lines_length zero h = omega arith
  lines_length (suc k) h =
      let i = lines_length k (omega arith) in
      let a = line_out k (shown k) (omega arith) (one k h) in
      let e = length-append (out_lines shown k) (word_out ++ decimal k ++ space ++ decimal (shown k) ++ LF) in
      omega arith

-- the digits of a circuit's counts and of its traffic total
pub digits_few : (i g o t : ℕ) → i ≤ 1024 → g ≤ 3072 → o ≤ 256 → t ≤ 41728 → length (decimal i) + length (decimal g) + length (decimal o) + length (decimal t) ≤ 16
digits_few i g o t hi hg ho ht =
    let a : length (decimal i) ≤ 4 = decimal_length 3 i (omega arith) in
    let b : length (decimal g) ≤ 4 = decimal_length 3 g (omega arith) in
    let c : length (decimal o) ≤ 3 = decimal_length 2 o (omega arith) in
    let d : length (decimal t) ≤ 5 = decimal_length 4 t (omega arith) in
    omega arith

pub text_short : (C : Circuit) (shown : ℕ → ℕ) → C.ins ≤ 1024 → C.gates ≤ 3072 → C.outs ≤ 256 → table_total C ≤ 41728
    → ((o : ℕ) → o < C.outs → shown o ≤ 9) → length (good_text C shown) ≤ 2610
unfolding good_text
text_short C shown hi hg ho ht one =
    let d = digits_few C.ins C.gates C.outs (table_total C) hi hg ho ht in
    let l = lines_length shown C.outs one ho C.outs (omega arith) in
    let k : length (word_inputs ++ decimal C.ins ++ word_gates ++ decimal C.gates ++ word_outputs ++ decimal C.outs ++ LF
    ++ word_bits ++ decimal (table_total C) ++ LF ++ out_lines shown C.outs ++ word_end ++ LF)
    ≡ 7 + length (decimal C.ins) + 7 + length (decimal C.gates) + 9 + length (decimal C.outs) + 1 + 5 + length (decimal (table_total C)) + 1 + length (out_lines shown C.outs) + 3 + 1
    = simp length-append (omega arith) in
    omega arith
