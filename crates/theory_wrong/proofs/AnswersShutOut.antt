-- No wrong answer of specs/WrongReads.antt and specs/WrongRuns.antt meets the statement of its call, which is that what is left is what the call
-- does (`traffic_of` says it in three equations, of the table, the number and the place). Found by computing each call: one theorem over all rows.
-- Those of specs/WrongTexts.antt: TextsShutOut.antt.
--     NoneOf, none_by           something holds of none of a list; found by a test
--     Met                       a wrong answer is what its call does
--     wrong_answers_shut_out    of none in both lists
--     told_apart                by numbers: unlike_lists, lists of numbers that differ somewhere; joined, lists one after the other
--     unlike_does, tells        the test of a row, by all numbers of what is left (said_numbers: of an answer), and that it tells
-- Assumes nothing.
use mathlib.Core.Path.{◌≡◌, refl, sym, ap, ◌∙◌}
use mathlib.Core.Bool.{Bool, true, false, cond, true≢false}
use mathlib.Core.List.{List, [], ◌∷◌, ◌++◌, map}
use Prim.Native.Nat.{ℕ}
use lib.ListN.{get_or, drop}
use lib.Dec.{eqb}
use borrow.Author.Tests.{eq-eqb}
use Rattle.theory_sharing.specs.Sites.{is, if_own}
use Rattle.theory_sharing.specs.Circuit.{dealing, ands, owned}
use Rattle.theory_sharing.specs.Values.{value_gate, value_inputs, values}
use Rattle.theory_sharing.specs.Order.{if_deals, ins_routes, gates_routes, routes, pick}
use Rattle.theory_sharing.specs.Published.{mul_parts, gate_parts, ins_parts, parts}
use Rattle.theory_sharing.specs.Steps.{objecting, copies, delivered, in_wire, delivered3, mix, gate_wire, gate_delivered, six, opened}
use Rattle.theory_sharing.specs.First.{first}
use Rattle.theory_sharing.specs.Run.{ins_after, after, ins_delivered, gates_delivered, output, out_delivered, objects, stop, opens_delivered, made, transcript, opened_at, outputs}
use Rattle.theory_sharing.specs.Tapes.{tape_length, draws, ins_tape, tape}
use Rattle.theory_sharing.specs.Line.{at_input, at_gate, at_output, errors}
use Rattle.theory_sharing.specs.Store.{side, store, fill}
use Rattle.theory_sharing.specs.View.{own_ins, seen_outs, view_from}
use Rattle.theory_sharing.specs.Retape.{next_shares, shift, retape, new_tapes}
use Rattle.theory_sharing.specs.Traffic.{input_adds, gate_adds, output_adds, sum, entry, traffic_table, add_row, add_up}
use Rattle.theory_calls.specs.File.{le16, le32, size, owner_at, kind_at, first_at, second_at, output_at, site_of, gate_of}
use Rattle.theory_calls.specs.Plain.{bit, byte, plain_gate, plain_inputs, plain_values, plain}
use Rattle.theory_calls.specs.Checks.{tested, row_owner, good_gate, row_gate_of, row_output, fault, verdict}
use Rattle.theory_calls.specs.Listing.{digits, decimal, out_lines, good_text}
use Rattle.theory_calls.specs.Calls.{CheckOf, TrafficOf, PlainOf, RunOf, ViewOf, RetapeOf, Listing, ran_of, both_plain_of, work_room_of, settle, does, Open, GateAt, OwnerAt, OutputAt}
use Rattle.theory_calls.specs.Answer.{Answer, good, abort, refused, After}
use Rattle.theory_wrong.specs.WrongReads.{Wrong, wrong_reads}
use Rattle.theory_wrong.specs.WrongRuns.{wrong_runs}

-- something holds of none of a list; none, where a test tells so of each
module _ {ℓ} {A : Type ℓ} (P : A → Type 0) where
  unfoldable pub NoneOf : List A → Type 0
  NoneOf [] = Unit {0}
  NoneOf (x ∷ xs) = (¬ P x) × NoneOf xs

  pub none_by : (test : A → Bool) → ((x : A) → test x ≡ true → ¬ P x) → (l : List A) → map test l ≡ map (λ (x : A). true) l → NoneOf l
  unfolding NoneOf
  none_by test tells [] h = tt
  none_by test tells (x ∷ xs) h = (tells x (ap (λ (l : List Bool). get_or l 0 false) h), none_by test tells xs (ap (drop 1) h))

-- a wrong answer is what its call does
abbrev pub Met : Wrong → Type 0
Met w = w.gives ≡ does w.call

unfoldable pub unlike_lists : List ℕ → List ℕ → Bool
unlike_lists [] [] = false
unlike_lists [] (y ∷ ys) = true
unlike_lists (x ∷ xs) [] = true
unlike_lists (x ∷ xs) (y ∷ ys) = cond (eqb x y) (unlike_lists xs ys) true

alike : (l : List ℕ) → unlike_lists l l ≡ false
unfolding unlike_lists
alike [] = refl
alike (x ∷ xs) = rw (eq-eqb x x refl) (alike xs)

-- two things that some numbers of theirs tell apart
pub told_apart : {A : Type 0} (f : A → List ℕ) (x y : A) → unlike_lists (f x) (f y) ≡ true → ¬ (x ≡ y)
told_apart {A = A} f x y d e = true≢false (sym d ∙ ap (λ (z : A). unlike_lists (f z) (f y)) e ∙ alike (f y))

unfoldable pub said_numbers : Answer → List ℕ
said_numbers (good vs) = 0 ∷ vs
said_numbers (abort o m) = 1 ∷ o ∷ m ∷ []
said_numbers (refused n p) = 2 ∷ n ∷ p ∷ []

unfoldable pub joined : List (List ℕ) → List ℕ
joined [] = []
joined (l ∷ ls) = l ++ joined ls

-- all numbers of what is left, one after the other
abbrev numbers : After → List ℕ
numbers a = said_numbers a.answer ++ (joined a.returned ++ joined a.lent)

abbrev pub unlike_does : Wrong → Bool
unlike_does w = unlike_lists (numbers w.gives) (numbers (does w.call))

pub tells : (w : Wrong) → unlike_does w ≡ true → ¬ Met w
tells w = told_apart numbers w.gives (does w.call)

-- every row
pub wrong_answers_shut_out : NoneOf Met (wrong_reads ++ wrong_runs)
unfolding is if_own dealing ands owned value_gate value_inputs values if_deals ins_routes gates_routes routes pick mul_parts gate_parts ins_parts parts objecting copies delivered in_wire delivered3 mix gate_wire gate_delivered six opened first ins_after after ins_delivered gates_delivered output out_delivered objects stop opens_delivered made transcript opened_at outputs tape_length draws ins_tape tape at_input at_gate at_output errors side store fill own_ins seen_outs view_from next_shares shift retape new_tapes input_adds gate_adds output_adds sum entry traffic_table add_row add_up le16 le32 size owner_at kind_at first_at second_at output_at site_of gate_of bit byte plain_gate plain_inputs plain_values plain tested row_owner good_gate row_gate_of row_output fault verdict digits decimal out_lines good_text ran_of both_plain_of work_room_of settle does CheckOf TrafficOf RunOf ViewOf PlainOf RetapeOf Listing Open GateAt OwnerAt OutputAt unlike_lists said_numbers joined
wrong_answers_shut_out = none_by Met unlike_does tells (wrong_reads ++ wrong_runs) refl
