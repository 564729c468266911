-- What the inner functions of the calls lean on. No public contract cites these.
--     counts_of        the counts that stand in a file
--     slices_checks    7 and 8 of a circuit's inputs and tapes
--     run_checks       what a run checks behind its circuit, by the lengths of its buffers
use Rattle.std.specs.Prelude.{List, [], ◌∷◌, ◌++◌, ℕ}
use Rattle.theory_calls.specs.File.{inputs_of, gates_of, outputs_of, circuit}
use Rattle.theory_calls.specs.Checks.{Refusal, refusal, row_buffer, tapes_want, line_want}
use Rattle.theory_calls.specs.AtBits.{bits_row}
use Rattle.theory_calls.specs.Calls.{run_wants}
use Rattle.file_header.specs.declared.Counts.{Counts}

abbrev pub counts_of : List ℕ → Counts
counts_of f = record { inputs = inputs_of f; gates = gates_of f; outputs = outputs_of f }

abbrev pub slices_checks : List ℕ → List ℕ → List ℕ → List Refusal
slices_checks f x t = refusal 7 (bits_row x (inputs_of f)) ∷ refusal 8 (bits_row t (tapes_want (circuit f))) ∷ []

abbrev pub run_checks : List ℕ → List ℕ → List ℕ → List ℕ → ℕ → ℕ → ℕ → List Refusal
run_checks f x t l o r s =
    slices_checks f x t ++ (refusal 9 (bits_row l (line_want (circuit f))) ∷ refusal 10 (row_buffer (o ∷ r ∷ s ∷ []) (run_wants (circuit f))) ∷ [])
