-- What an inner check answers, as a verdict and as a place. No public contract cites these.
--     found          the answer of some checks as the first refusal in their order, or none
--     some_below     a place below a bound, or none where it is not below
use Rattle.std.specs.Prelude.{cond, ℕ, ltb, Option, None, Some, Result, Ok, Err}
use Rattle.theory_calls.specs.Checks.{Verdict, accepted, refuses}
use Rattle.check_refusal.specs.declared.Refusal.{Refusal}
use Rattle.check_refusal.specs.Number.{number_of, place_of}

abbrev pub found : {A : Type 0} → Result A Refusal → Verdict
found (Ok a) = accepted
found (Err e) = refuses (number_of e) (place_of e)

abbrev pub some_below : ℕ → ℕ → Option ℕ
some_below k n = cond (ltb k n) (Some k) None
