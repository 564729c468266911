-- The lengths of all slices and buffers that go with a circuit, as the calls' own checks ask for them.
--     sized f a    where check's answer is a; all 0 where it is no good circuit
use Rattle.std.specs.Prelude.{[], ◌∷◌, List, ℕ, get_or}
use Rattle.theory_sharing.specs.Circuit.{Circuit, wires}
use Rattle.theory_calls.specs.File.{circuit}
use Rattle.theory_calls.specs.Answer.{Answer as Said, good, abort, refused}
use Rattle.theory_calls.specs.Checks.{tapes_want, line_want}
use Rattle.theory_calls.specs.Calls.{run_wants, view_wants, retape_wants}
use Rattle.door_answers.specs.declared.SizesAnswer.{SizesAnswer}

-- 7 and 12 want `inputs`, 8 `tapes`, 9 `line`; 10 wants the others, by buffer number
abbrev pub sizes_of : Circuit → SizesAnswer
sizes_of C = record {
  number = 0;
  place = 0;
  inputs = C.ins;
  tapes = tapes_want C;
  line = line_want C;
  values = wires C;
  outputs = get_or (run_wants C) 0 0;
  transcript = get_or (run_wants C) 1 0;
  store = get_or (run_wants C) 2 0;
  view = get_or (view_wants C 1) 0 0 ∷ get_or (view_wants C 2) 0 0 ∷ get_or (view_wants C 3) 0 0 ∷ [];
  room = get_or (retape_wants C) 1 0;
}

abbrev pub no_sizes : ℕ → ℕ → SizesAnswer
no_sizes n p = record {
  number = n;
  place = p;
  inputs = 0;
  tapes = 0;
  line = 0;
  values = 0;
  outputs = 0;
  transcript = 0;
  store = 0;
  view = 0 ∷ 0 ∷ 0 ∷ [];
  room = 0;
}

unfoldable pub sized : List ℕ → Said → SizesAnswer
sized f (good vs) = sizes_of (circuit f)
sized f (abort o m) = no_sizes 100 o
sized f (refused n p) = no_sizes n p
