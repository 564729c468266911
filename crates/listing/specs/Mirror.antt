-- What the inner functions of the listing lean on and say. No public contract cites these.
--     Fit                             what checks 7 and 8 leave of a counted circuit's inputs and tapes
--     text_on, says_good              the text; the answer and the buffer where nothing is refused
--     text_check, says                10; of a job's three parts
use Rattle.std.specs.Prelude.{◌≡◌, List, [], ◌∷◌, ◌++◌, ℕ, length}
use Rattle.theory_sharing.specs.Ops.{bits}
use Rattle.theory_sharing.specs.Circuit.{no_errors}
use Rattle.theory_sharing.specs.Run.{opened_at}
use Rattle.theory_sharing.specs.Tapes.{read}
use Rattle.theory_sharing.specs.Store.{fill}
use Rattle.theory_calls.specs.File.{circuit}
use Rattle.theory_calls.specs.Answer.{good, refused, After}
use Rattle.theory_calls.specs.Checks.{Refusal, refusal, row_buffer, tapes_want, Verdict, accepted, refuses, verdict}
use Rattle.theory_calls.specs.AtBits.{circuit_checks}
use Rattle.theory_calls.specs.Calls.{at_wire, text_bytes}
use Rattle.theory_calls.specs.Listing.{good_text}
use Rattle.theory_calls.specs.Statements.{Bits}
use Rattle.file_counts.specs.declared.Counted.{Counted}
use Rattle.check_given.specs.Mirror.{slices_checks}

pub record Fit (k : Counted) (x t : List ℕ) : Type 0 where
  pub in_x : Bits x k.circuit.counts.inputs
  pub in_t : length t ≡ tapes_want (circuit k.circuit.file.now)

-- the text of a job's parts
abbrev pub text_on : List ℕ → List ℕ → List ℕ → List ℕ
text_on f x t = good_text (circuit f) (λ o. (opened_at bits (circuit f) (at_wire x) (read (circuit f) t) no_errors o).at1)

abbrev pub says_good : List ℕ → List ℕ → List ℕ → List ℕ → After
says_good f x t b = record { answer = good (length (text_on f x t) ∷ []); returned = []; lent = fill b (text_on f x t) ∷ [] }

-- 10, of the one buffer
abbrev pub text_check : List ℕ → List Refusal
text_check b = refusal 10 (row_buffer (length b ∷ []) (text_bytes ∷ [])) ∷ []

unfoldable pub judged : List ℕ → List ℕ → List ℕ → List ℕ → Verdict → After
judged f x t b accepted = says_good f x t b
judged f x t b (refuses n p) = record { answer = refused n p; returned = []; lent = b ∷ [] }

abbrev pub says : List ℕ → List ℕ → List ℕ → List ℕ → After
says f x t b = judged f x t b (verdict (circuit_checks f ++ (slices_checks f x t ++ text_check b)))
