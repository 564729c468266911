-- What Checks.antt and Calls.antt say for a family, at bits, under names of its own: for the contracts and laws of code. No public contract
-- cites these.
--     bits_row, row_gate, row_differs    lines of the table of refusals;  circuit_checks: 1 to 6
--     ran                                what a run does where nothing is refused
--     both_plain, work_room              what re-taping lays down
--     ran_on .. room_on                  what calls leave, by a file and its slices
use Rattle.std.specs.Prelude.{List, ℕ}
use Rattle.theory_sharing.specs.Ops.{bits}
use Rattle.theory_sharing.specs.Circuit.{Circuit, Draws, Errors, no_errors}
use Rattle.theory_sharing.specs.Run.{after, gates_delivered, outputs}
use Rattle.theory_sharing.specs.Tapes.{read}
use Rattle.theory_sharing.specs.Line.{errors}
use Rattle.theory_sharing.specs.Store.{store}
use Rattle.theory_sharing.specs.View.{view_from}
use Rattle.theory_sharing.specs.Retape.{new_tapes}
use Rattle.theory_calls.specs.File.{site_of, circuit}
use Rattle.theory_calls.specs.Answer.{After}
use Rattle.theory_calls.specs.Family.{bit_family}
use Rattle.theory_calls.specs.Checks.{Row, Refusal, numbers_row, row_gate_of, row_differs_of, file_checks}
use Rattle.theory_calls.specs.Calls.{at_wire, unrefused, ran_of, both_plain_of, work_room_of}

abbrev pub bits_row : List ℕ → ℕ → Row
bits_row l want = numbers_row bit_family l want

abbrev pub row_gate : List ℕ → Row
row_gate f = row_gate_of bit_family f

abbrev pub row_differs : Circuit → ℕ → List ℕ → List ℕ → Row
row_differs C s x y = row_differs_of bit_family C s x y

abbrev pub circuit_checks : List ℕ → List Refusal
circuit_checks f = file_checks bit_family f

abbrev pub ran : Circuit → (ℕ → ℕ) → Draws → Errors → List ℕ → List ℕ → After
ran C x T E outs tr = unrefused (ran_of bits C x T E outs tr)

abbrev pub both_plain : Circuit → List ℕ → List ℕ → List ℕ
both_plain = both_plain_of bit_family

abbrev pub work_room : Circuit → List ℕ → List ℕ → List ℕ → ℕ → List ℕ
work_room = work_room_of bit_family

-- ---- by a file and its slices, for contracts
-- what a run on a line does and leaves: its answer with the buffers, its store, its delivered bits before the openings
abbrev pub ran_on : (file inputs tapes line outs transcript : List ℕ) → After
ran_on f x t l outs tr = ran (circuit f) (at_wire x) (read (circuit f) t) (errors (circuit f) l) outs tr

abbrev pub store_on : (file inputs tapes line : List ℕ) → List ℕ
store_on f x t l = store (after bits (circuit f) (at_wire x) (read (circuit f) t) (errors (circuit f) l) (circuit f).gates)

abbrev pub told_on : (file inputs tapes line : List ℕ) → List ℕ
told_on f x t l = gates_delivered bits (circuit f) (at_wire x) (read (circuit f) t) (errors (circuit f) l) (circuit f).gates

-- on a clean line: its store, its outputs, a site's view of it, the tapes that give the site that view by other inputs
abbrev pub clean_store : (file inputs tapes : List ℕ) → List ℕ
clean_store f x t = store (after bits (circuit f) (at_wire x) (read (circuit f) t) no_errors (circuit f).gates)

abbrev pub clean_outputs : (file inputs tapes : List ℕ) → List ℕ
clean_outputs f x t = outputs bits (circuit f) (at_wire x) (read (circuit f) t) no_errors (circuit f).outs

abbrev pub view_on : (file inputs tapes : List ℕ) → ℕ → List ℕ
view_on f x t s = view_from bits (site_of s) (circuit f) (at_wire x) t

abbrev pub tapes_on : (file inputs tapes second : List ℕ) → ℕ → List ℕ
tapes_on f x t y s = new_tapes bits (site_of s) (circuit f) (at_wire x) (at_wire y) t

abbrev pub room_on : (file inputs tapes second : List ℕ) → ℕ → List ℕ
room_on f x t y s = work_room (circuit f) x t y s
