-- What re-taping checks behind its circuit and in front of 13, by the lengths of its buffers. No public contract cites it.
use Rattle.std.specs.Prelude.{List, [], ◌∷◌, ◌++◌, ℕ}
use Rattle.theory_calls.specs.File.{inputs_of, circuit}
use Rattle.theory_calls.specs.Checks.{Refusal, refusal, row_site, row_buffer}
use Rattle.theory_calls.specs.AtBits.{bits_row}
use Rattle.theory_calls.specs.Calls.{retape_wants}
use Rattle.check_given.specs.Mirror.{slices_checks}

abbrev pub retape_checks : List ℕ → List ℕ → List ℕ → List ℕ → ℕ → ℕ → ℕ → List Refusal
retape_checks f x t y s n r =
    slices_checks f x t
    ++ (refusal 11 (row_site s) ∷ refusal 10 (row_buffer (n ∷ r ∷ []) (retape_wants (circuit f))) ∷ refusal 12 (bits_row y (inputs_of f)) ∷ [])
