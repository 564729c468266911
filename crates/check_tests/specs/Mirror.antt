-- What the tests compute. No public contract cites these: laws tie them to the calls of theory_calls.
--     bad_owner, bad_gate, bad_output, above, wrong_size    the tests of 4, 5, 6, of 7, 8, 9, 12, and of 10
--     job_place             14 on a job's length and numbers
--     deals                 1 for a kind that deals
use Rattle.std.specs.Prelude.{Bool, not, cond, ◌&&◌, List, ℕ, ◌+◌, get_or, leb, ltb, eqb}
use Rattle.theory_calls.specs.File.{kind_at, first_at, second_at, owner_at, output_at}
use Rattle.theory_calls.specs.Checks.{one_to_three, good_gate}

unfoldable pub bad_owner : List ℕ → ℕ → Bool
bad_owner s k = not (one_to_three (owner_at s k))

unfoldable pub bad_kind : ℕ → ℕ → ℕ → ℕ → Bool
bad_kind kind a b w = not (good_gate kind a b w)

unfoldable pub bad_gate : List ℕ → ℕ → ℕ → Bool
bad_gate s i k = bad_kind (kind_at s i k) (first_at s i k) (second_at s i k) (i + k)

unfoldable pub bad_output : List ℕ → ℕ → ℕ → ℕ → Bool
bad_output s i g k = not (ltb (output_at s i g k) (i + g))

unfoldable pub above : List ℕ → ℕ → Bool
above s k = not (leb (get_or s k 0) 1)

unfoldable pub wrong_size : List ℕ → List ℕ → ℕ → Bool
wrong_size ls ws k = not (eqb (get_or ls k 0) (get_or ws k 0))

-- 14, on the job's length and its four numbers
unfoldable pub job_place : ℕ → ℕ → ℕ → ℕ → ℕ → ℕ
job_place n a b c d =
    cond (leb n 41520 && eqb a n) (cond (eqb b 16) (cond (leb 16 c && leb c n) (cond (leb c d && leb d n) 13 12) 8) 4) 0

-- 1 for a kind that deals: any but XOR and NOT
unfoldable pub deals : ℕ → ℕ
deals kind = cond (eqb kind 1) 0 (cond (eqb kind 3) 0 1)
