-- What the inner functions of the new tapes compute. No public contract cites these.
--     span_of      where a site's tape stands in the slice, from the lengths of the first two and of all;  span_in: in a circuit's tapes
use Rattle.std.specs.Prelude.{ℕ, ◌+◌}
use Rattle.theory_sharing.specs.Sites.{Site, s1, s2, s3}
use Rattle.theory_sharing.specs.Circuit.{Circuit}
use Rattle.theory_sharing.specs.Tapes.{tape_length}
use Rattle.theory_calls.specs.Checks.{tapes_want}
use Rattle.std.specs.declared.ops.Range.{Range}

-- 01: "Tapes stand in one slice, site 1's first"
abbrev pub span_of : Site → ℕ → ℕ → ℕ → Range ℕ
span_of s1 a b all = record { start = 0; end = a }
span_of s2 a b all = record { start = a; end = a + b }
span_of s3 a b all = record { start = a + b; end = all }

abbrev pub span_in : Circuit → Site → Range ℕ
span_in C s = span_of s (tape_length C s1) (tape_length C s2) (tapes_want C)
