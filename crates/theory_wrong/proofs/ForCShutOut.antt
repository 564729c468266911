-- No wrong struct for C meets the statement of its export. Found by computing the call.
--     Told, tolds_shut_out           of plain values, run, view and re-taping: specs/WrongForC.antt
--     Same, structs_shut_out         of the others, where a struct is all that goes out
-- Assumes nothing.
use mathlib.Core.Path.{◌≡◌, refl}
use mathlib.Core.Bool.{Bool, true, false, ◌||◌}
use mathlib.Core.List.{List, [], ◌∷◌}
use Prim.Native.Nat.{ℕ}
use Rattle.theory_sharing.specs.Sites.{is, if_own}
use Rattle.theory_sharing.specs.Circuit.{dealing, ands, owned}
use Rattle.theory_sharing.specs.Values.{value_gate, value_inputs, values}
use Rattle.theory_sharing.specs.Order.{if_deals, ins_routes, gates_routes, routes, pick}
use Rattle.theory_sharing.specs.Published.{mul_parts, gate_parts, ins_parts, parts}
use Rattle.theory_sharing.specs.Steps.{objecting, copies, delivered, in_wire, delivered3, mix, gate_wire, gate_delivered, six, opened}
use Rattle.theory_sharing.specs.First.{first}
use Rattle.theory_sharing.specs.Run.{ins_after, after, ins_delivered, gates_delivered, output, out_delivered, objects, stop, opens_delivered, made, transcript, opened_at, outputs}
use Rattle.theory_sharing.specs.Tapes.{tape_length, draws, ins_tape, tape}
use Rattle.theory_sharing.specs.Line.{at_input, at_gate, at_output, errors}
use Rattle.theory_sharing.specs.Store.{side, store, fill}
use Rattle.theory_sharing.specs.View.{own_ins, seen_outs, view_from}
use Rattle.theory_sharing.specs.Retape.{next_shares, shift, retape, new_tapes}
use Rattle.theory_sharing.specs.Traffic.{input_adds, gate_adds, output_adds, sum, entry, traffic_table, add_row, add_up}
use Rattle.theory_calls.specs.File.{le16, le32, size, owner_at, kind_at, first_at, second_at, output_at, site_of, gate_of}
use Rattle.theory_calls.specs.Plain.{bit, byte, plain_gate, plain_inputs, plain_values, plain}
use Rattle.theory_calls.specs.Checks.{tested, row_owner, good_gate, row_gate_of, row_output, fault, verdict}
use Rattle.theory_calls.specs.Listing.{digits, decimal, out_lines, good_text}
use Rattle.theory_calls.specs.Calls.{CheckOf, TrafficOf, PlainOf, RunOf, ViewOf, RetapeOf, Listing, ran_of, both_plain_of, work_room_of, settle, does, Open, GateAt, OwnerAt, OutputAt}
use Rattle.theory_calls.specs.Answer.{number_of, place_of}
use Rattle.door_answers.specs.declared.Answer.{Answer}
use Rattle.door_answers.specs.Told.{sites_of, value_of, told, Tells}
use Rattle.door_answers.specs.Sizes.{sized}
use Rattle.theory_wrong.specs.WrongForC.{WrongTold, wrong_tolds, WrongStruct, wrong_structs}
use Rattle.theory_wrong.proofs.AnswersShutOut.{NoneOf, none_by, unlike_lists, joined, told_apart}

-- a wrong struct, with the buffers, is what its call does
abbrev pub Told : WrongTold → Type 0
Told w = Tells w.gives w.leaves w.call

abbrev three : Answer → List ℕ
three a = a.number ∷ a.place ∷ a.sites ∷ []

abbrev unlike_told : WrongTold → Bool
unlike_told w =
    unlike_lists (three w.gives) (three (told (does w.call).answer)) || unlike_lists (joined w.leaves) (joined (does w.call).lent)

either : (a b : Bool) {X Y : Type 0} → (a ≡ true → ¬ X) → (b ≡ true → ¬ Y) → (a || b) ≡ true → ¬ (X × Y)
either true b f g h p = f refl p.0
either false b f g h p = g h p.1

tells : (w : WrongTold) → unlike_told w ≡ true → ¬ Told w
tells w =
    either _ _ (told_apart three w.gives (told (does w.call).answer)) (told_apart joined w.leaves (does w.call).lent)

pub tolds_shut_out : NoneOf Told wrong_tolds
unfolding is if_own dealing ands owned value_gate value_inputs values if_deals ins_routes gates_routes routes pick mul_parts gate_parts ins_parts parts objecting copies delivered in_wire delivered3 mix gate_wire gate_delivered six opened first ins_after after ins_delivered gates_delivered output out_delivered objects stop opens_delivered made transcript opened_at outputs tape_length draws ins_tape tape at_input at_gate at_output errors side store fill own_ins seen_outs view_from next_shares shift retape new_tapes input_adds gate_adds output_adds sum entry traffic_table add_row add_up le16 le32 size owner_at kind_at first_at second_at output_at site_of gate_of bit byte plain_gate plain_inputs plain_values plain tested row_owner good_gate row_gate_of row_output fault verdict digits decimal out_lines good_text ran_of both_plain_of work_room_of settle does CheckOf TrafficOf RunOf ViewOf PlainOf RetapeOf Listing Open GateAt OwnerAt OutputAt unlike_lists joined sites_of number_of place_of
tolds_shut_out = none_by Told unlike_told tells wrong_tolds refl

-- a wrong struct is what its statement says
abbrev pub Same : WrongStruct → Type 0
Same w = w.gives ≡ w.right

abbrev unlike_struct : WrongStruct → Bool
unlike_struct w = unlike_lists (w.numbers w.gives) (w.numbers w.right)

differ : (w : WrongStruct) → unlike_struct w ≡ true → ¬ Same w
differ w = told_apart w.numbers w.gives w.right

pub structs_shut_out : NoneOf Same wrong_structs
unfolding is if_own dealing ands owned value_gate value_inputs values if_deals ins_routes gates_routes routes pick mul_parts gate_parts ins_parts parts objecting copies delivered in_wire delivered3 mix gate_wire gate_delivered six opened first ins_after after ins_delivered gates_delivered output out_delivered objects stop opens_delivered made transcript opened_at outputs tape_length draws ins_tape tape at_input at_gate at_output errors side store fill own_ins seen_outs view_from next_shares shift retape new_tapes input_adds gate_adds output_adds sum entry traffic_table add_row add_up le16 le32 size owner_at kind_at first_at second_at output_at site_of gate_of bit byte plain_gate plain_inputs plain_values plain tested row_owner good_gate row_gate_of row_output fault verdict digits decimal out_lines good_text ran_of both_plain_of work_room_of settle does CheckOf TrafficOf RunOf ViewOf PlainOf RetapeOf Listing Open GateAt OwnerAt OutputAt unlike_lists joined sites_of number_of place_of value_of sized
structs_shut_out = none_by Same unlike_struct differ wrong_structs refl
