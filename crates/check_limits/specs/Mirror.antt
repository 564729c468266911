-- What the test of the limits computes. No public contract cites it: a law in file_header ties it to the calls of theory_calls.
--     large_place     "I, G or O too large, tested so | 0, 1 or 2"; none where none is
--     Within          what none says
use Rattle.std.specs.Prelude.{cond, ℕ, ◌≤◌, leb, Option, None, Some}

unfoldable pub large_place : ℕ → ℕ → ℕ → Option ℕ
large_place i g o = cond (leb i 1024) (cond (leb g 3072) (cond (leb o 256) None (Some 2)) (Some 1)) (Some 0)

abbrev pub Within : Option ℕ → ℕ → ℕ → ℕ → Type 0
Within None i g o = (i ≤ 1024) × (g ≤ 3072) × (o ≤ 256)
Within (Some p) i g o = Unit {0}
