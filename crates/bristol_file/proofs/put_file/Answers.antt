use native.Mathlib.Omega.{arith}
use Rattle.bristol_file.proofs.WholeFile.{seat_widths, seat_total, file_put, few_gates, gates_cut}
use Rattle.bristol_file.proofs.put_file.Goals as goal

pub put_owners-b-requires-clause-widths : goal.put_owners-b-requires-clause-widths
put_owners-b-requires-clause-widths c = seat_widths _ _ _ _ _ c.next_word-values.ensures c.requires.seated

pub put_owners-b-requires-clause-room_long : goal.put_owners-b-requires-clause-room_long
put_owners-b-requires-clause-room_long c = let e = seat_total _ _ _ _ _ c.next_word-values.ensures c.requires.seated in omega arith

pub put_bytes-c-requires : goal.put_bytes-c-requires
put_bytes-c-requires c =
    let cut = gates_cut c.args.t.made c.args.gates.now c.requires.few.gates c.requires.gates_long in
    let e = seat_total _ _ _ _ _ c.next_word-values.ensures c.requires.seated in
    omega arith

pub put_outputs-requires-clause-room_long : goal.put_outputs-requires-clause-room_long
put_outputs-requires-clause-room_long c =
    let cut = gates_cut c.args.t.made c.args.gates.now c.requires.few.gates c.requires.gates_long in
    let e = seat_total _ _ _ _ _ c.next_word-values.ensures c.requires.seated in
    omega arith

pub returns : goal.returns
returns c =
    let e =
    file_put _ _ _ _ _ c.next_word-values.ensures c.requires.seated c.args.map.now c.args.gates.now (few_gates _ c.args.gates.now c.requires.few.gates c.requires.gates_long) _ _ _ _ _ _ _ _ _
    (c.put_header-a.ensures.room_after, c.put_header-a.ensures.value) (c.put_owners-b.ensures.room_after, c.put_owners-b.ensures.value)
    (c.put_bytes-c.ensures.to_after, c.put_bytes-c.ensures.value) (c.put_outputs.ensures.room_after, c.put_outputs.ensures.value) in
    record { room_after = e.0; value = e.1 }
