-- K1 to K12 of 01, computed: one theorem over the list of rows.
use mathlib.Core.Path.{◌≡◌, refl}
use mathlib.Core.List.{map}
use Rattle.theory_sharing.specs.Sites.{is, if_own}
use Rattle.theory_sharing.specs.Circuit.{dealing, ands, owned}
use Rattle.theory_sharing.specs.Values.{value_gate, value_inputs, values}
use Rattle.theory_sharing.specs.Order.{if_deals, ins_routes, gates_routes, routes, pick}
use Rattle.theory_sharing.specs.Published.{mul_parts, gate_parts, ins_parts, parts}
use Rattle.theory_sharing.specs.Steps.{objecting, copies, delivered, in_wire, delivered3, mix, gate_wire, gate_delivered, six, opened}
use Rattle.theory_sharing.specs.First.{first}
use Rattle.theory_sharing.specs.Run.{ins_after, after, ins_delivered, gates_delivered, output, out_delivered, objects, stop, opens_delivered, made, transcript, opened_at, outputs}
use Rattle.theory_sharing.specs.Tapes.{tape_length, draws, ins_tape, tape}
use Rattle.theory_sharing.specs.Line.{at_input, at_gate, at_output, errors}
use Rattle.theory_sharing.specs.Store.{side, store, fill}
use Rattle.theory_sharing.specs.View.{own_ins, seen_outs, view_from}
use Rattle.theory_sharing.specs.Retape.{next_shares, shift, retape, new_tapes}
use Rattle.theory_sharing.specs.Traffic.{input_adds, gate_adds, output_adds, sum, entry, traffic_table, add_row, add_up}
use Rattle.theory_calls.specs.File.{le16, le32, size, owner_at, kind_at, first_at, second_at, output_at, site_of, gate_of}
use Rattle.theory_calls.specs.Plain.{bit, byte, plain_gate, plain_inputs, plain_values, plain}
use Rattle.theory_calls.specs.Checks.{tested, row_owner, good_gate, row_gate_of, row_output, fault, verdict}
use Rattle.theory_calls.specs.Listing.{digits, decimal, out_lines, good_text}
use Rattle.theory_calls.specs.Calls.{CheckOf, TrafficOf, RunOf, ViewOf, RetapeOf, Listing, ran_of, both_plain_of, work_room_of, settle, does}
use Rattle.theory_demands.specs.Marked.{Row, rows}

-- every row's call does what is wanted
pub marked : map (λ (r : Row). does r.call) rows ≡ map (λ (r : Row). r.wanted) rows
unfolding is if_own dealing ands owned value_gate value_inputs values if_deals ins_routes gates_routes routes pick mul_parts gate_parts ins_parts parts objecting copies delivered in_wire delivered3 mix gate_wire gate_delivered six opened first ins_after after ins_delivered gates_delivered output out_delivered objects stop opens_delivered made transcript opened_at outputs tape_length draws ins_tape tape at_input at_gate at_output errors side store fill own_ins seen_outs view_from next_shares shift retape new_tapes input_adds gate_adds output_adds sum entry traffic_table add_row add_up le16 le32 size owner_at kind_at first_at second_at output_at site_of gate_of bit byte plain_gate plain_inputs plain_values plain tested row_owner good_gate row_gate_of row_output fault verdict digits decimal out_lines good_text ran_of both_plain_of work_room_of settle does CheckOf TrafficOf RunOf ViewOf RetapeOf Listing
marked = refl
