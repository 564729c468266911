-- What the slices' checks compute. No public contract cites these: laws tie them to the calls of theory_calls.
--     Under             no byte before a place is above a number
--     Faults            7, 8, 9 or 12 on a slice of bits: none, or what a refusal that is lent makes of the fault's place
--     sizes_checks      10 of buffers, by the length of each and the one that it should have
use Rattle.std.specs.Prelude.{◌≡◌, List, [], ◌∷◌, ℕ, ◌+◌, ◌<◌, ◌≤◌, get_or, map, Option, Some, None, Result, MatchResult}
use Rattle.theory_calls.specs.Checks.{Refusal as Row, refusal, row_buffer, fault}
use Rattle.theory_calls.specs.AtBits.{bits_row}
use Rattle.check_refusal.specs.declared.Refusal.{Refusal}
use Rattle.check_refusal.specs.Found.{some_below}

abbrev pub Under : List ℕ → ℕ → ℕ → Type 0
Under s m n = (k : ℕ) → k < n → get_or s k 0 ≤ m

abbrev pub Faults : (ℕ → Refusal → Type 0) → List ℕ → ℕ → Result (Unit {0}) Refusal → Type 0
Faults makes s want r =
    MatchResult r
    (λ _. ◌≡◌ {A = Option ℕ} None (some_below (fault (bits_row s want)) (want + 1)))
    (λ e. (k : ℕ) × (Some k ≡ some_below (fault (bits_row s want)) (want + 1)) × makes k e)

abbrev pub sizes_checks : List (ℕ × ℕ) → List Row
sizes_checks bs = refusal 10 (row_buffer (map (λ b. b.0) bs) (map (λ b. b.1) bs)) ∷ []
