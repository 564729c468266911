-- Wrong programs told by what they answer: those of the call on a Bristol Fashion text. What a row is: WrongReads.antt.
--     text_room           a room of 20,000 bytes
--     two_gates           "2 1 0 1 2 XOR" and "2 1 0 1 2 AND": wire 2 is written twice
--     beyond              "1 1 0 2 NOP" behind the one gate that is said
--     downwards           "2 1 0 1 3 XOR" and "2 1 0 3 2 AND": the second gate writes the lower wire
--     wide_text           1,025 inputs
--     wrong_texts         the rows
use Rattle.std.specs.Prelude.{List, [], ◌∷◌, ◌++◌, ℕ}
use Rattle.bristol_text.specs.Call.{FromBristol}
use Rattle.theory_demands.specs.Marked.{untouched}
use Rattle.theory_demands.specs.MarkedTexts.{headed, xor_line, four_gates, four_file, two_owners, writes, refuses_text}
use Rattle.theory_wrong.specs.WrongReads.{Wrong}

abbrev pub text_room : List ℕ
text_room = untouched 20000

abbrev pub two_gates : List ℕ
two_gates = headed 2 3 (xor_line ++ (50 ∷ 32 ∷ 49 ∷ 32 ∷ 48 ∷ 32 ∷ 49 ∷ 32 ∷ 50 ∷ 32 ∷ 65 ∷ 78 ∷ 68 ∷ 10 ∷ []))

abbrev pub beyond : List ℕ
beyond = headed 1 3 (xor_line ++ (49 ∷ 32 ∷ 49 ∷ 32 ∷ 48 ∷ 32 ∷ 50 ∷ 32 ∷ 78 ∷ 79 ∷ 80 ∷ []))

abbrev pub downwards : List ℕ
downwards =
    headed 2 4 (50 ∷ 32 ∷ 49 ∷ 32 ∷ 48 ∷ 32 ∷ 49 ∷ 32 ∷ 51 ∷ 32 ∷ 88 ∷ 79 ∷ 82 ∷ 10 ∷ 50 ∷ 32 ∷ 49 ∷ 32 ∷ 48 ∷ 32 ∷ 51 ∷ 32 ∷ 50 ∷ 32 ∷ 65 ∷ 78 ∷ 68 ∷ 10 ∷ [])

abbrev pub wide_text : List ℕ
wide_text = 48 ∷ 32 ∷ 49 ∷ 48 ∷ 50 ∷ 53 ∷ 10 ∷ 49 ∷ 32 ∷ 49 ∷ 48 ∷ 50 ∷ 53 ∷ 10 ∷ 49 ∷ 32 ∷ 49 ∷ 10 ∷ []

-- EQW makes a gate, AND of its wire with itself, and takes a number of its own.
-- bristol_wires: `let e = entry(map, t.ins, x);` → `let p = ours(map, t.ins, x);`
-- bristol_wires: `put_entry(map, z, e);` → `enter_gate(map, gates, t, 2, p, p, z);`
-- bristol_wires: `t.gated(t.made)` → `t.gated(more(t.made))`
abbrev pub eqw_makes_a_gate : Wrong
eqw_makes_a_gate = record {
  call = FromBristol four_gates two_owners text_room;
  gives = writes 62 (
      -- 62 bytes; 2 inputs, 4 gates, 2 outputs; offsets 32, 34, 58
      62 ∷ 0 ∷ 0 ∷ 0 ∷ 2 ∷ 0 ∷ 0 ∷ 0 ∷ 4 ∷ 0 ∷ 0 ∷ 0 ∷ 2 ∷ 0 ∷ 0 ∷ 0 ∷ 32 ∷ 0 ∷ 0 ∷ 0 ∷ 34 ∷ 0 ∷ 0 ∷ 0 ∷ 58 ∷ 0 ∷ 0 ∷ 0 ∷ 0 ∷ 0 ∷ 0 ∷ 0
      -- owners 1, 2
      ∷ 1 ∷ 2
      -- XOR 0 1, AND 2 2, AND 0 3, NOT 4
      ∷ 1 ∷ 0 ∷ 0 ∷ 0 ∷ 1 ∷ 0 ∷ 2 ∷ 0 ∷ 2 ∷ 0 ∷ 2 ∷ 0 ∷ 2 ∷ 0 ∷ 0 ∷ 0 ∷ 3 ∷ 0 ∷ 3 ∷ 0 ∷ 4 ∷ 0 ∷ 0 ∷ 0
      -- outputs 4, 5
      ∷ 4 ∷ 0 ∷ 5 ∷ 0 ∷ []) text_room;
}

-- A wire that is written twice passes.
-- bristol_wires: `if (a != 0) & (b != 0) & (c == 0) {` → `if (a != 0) & (b != 0) & (c == c) {`
abbrev pub written_twice_passes : Wrong
written_twice_passes = record {
  call = FromBristol two_gates two_owners text_room;
  gives = writes 48 (
      -- 48 bytes; 2 inputs, 2 gates, 1 output; offsets 32, 34, 46
      48 ∷ 0 ∷ 0 ∷ 0 ∷ 2 ∷ 0 ∷ 0 ∷ 0 ∷ 2 ∷ 0 ∷ 0 ∷ 0 ∷ 1 ∷ 0 ∷ 0 ∷ 0 ∷ 32 ∷ 0 ∷ 0 ∷ 0 ∷ 34 ∷ 0 ∷ 0 ∷ 0 ∷ 46 ∷ 0 ∷ 0 ∷ 0 ∷ 0 ∷ 0 ∷ 0 ∷ 0
      -- owners 1, 2
      ∷ 1 ∷ 2
      -- XOR 0 1, AND 0 1
      ∷ 1 ∷ 0 ∷ 0 ∷ 0 ∷ 1 ∷ 0 ∷ 2 ∷ 0 ∷ 0 ∷ 0 ∷ 1 ∷ 0
      -- output 3
      ∷ 3 ∷ 0 ∷ []) text_room;
}

-- Lines are counted from 0.
-- bristol_pass: `pass.lines += 1;` → `pass.lines += 0;`
-- bristol_pass: `t = bristol_wires::after(t, Some(line.says));` → `t = bristol_wires::after(t, Some(line.says)); pass.lines += 1;`
-- bristol_pass: `continue;` → `pass.lines += 1; continue;`
abbrev pub lines_counted_from_0 : Wrong
lines_counted_from_0 = record {
  call = FromBristol (headed 1 3 (51 ∷ 32 ∷ 49 ∷ 32 ∷ 48 ∷ 32 ∷ 49 ∷ 32 ∷ 49 ∷ 32 ∷ 50 ∷ 32 ∷ 77 ∷ 65 ∷ 78 ∷ 68 ∷ 10 ∷ [])) two_owners text_room;
  gives = refuses_text 16 3 text_room;
}

-- Another gate word on a line beyond the gates said is told as such a word.
-- bristol_wires: `_ if t.left == 0 => Err(Refusal::TextLine(line)),` → `Says::Other => Err(Refusal::GateWord(line)), _ if t.left == 0 => Err(Refusal::TextLine(line)),`
abbrev pub unknown_word_beyond_the_gates : Wrong
unknown_word_beyond_the_gates = record {
  call = FromBristol beyond two_owners text_room;
  gives = refuses_text 16 5 text_room;
}

-- INV passes with 2 1, as XOR and AND do.
-- bristol_lines: `(Some(GateWord::And), 2, 1)` → `(Some(GateWord::And | GateWord::Inv), 2, 1)`
abbrev pub inv_reads_two : Wrong
inv_reads_two = record {
  -- "2 1 0 1 2 INV"
  call = FromBristol (headed 1 3 (50 ∷ 32 ∷ 49 ∷ 32 ∷ 48 ∷ 32 ∷ 49 ∷ 32 ∷ 50 ∷ 32 ∷ 73 ∷ 78 ∷ 86 ∷ 10 ∷ [])) two_owners text_room;
  gives = writes 42 (
      -- 42 bytes; 2 inputs, 1 gate, 1 output; offsets 32, 34, 40
      42 ∷ 0 ∷ 0 ∷ 0 ∷ 2 ∷ 0 ∷ 0 ∷ 0 ∷ 1 ∷ 0 ∷ 0 ∷ 0 ∷ 1 ∷ 0 ∷ 0 ∷ 0 ∷ 32 ∷ 0 ∷ 0 ∷ 0 ∷ 34 ∷ 0 ∷ 0 ∷ 0 ∷ 40 ∷ 0 ∷ 0 ∷ 0 ∷ 0 ∷ 0 ∷ 0 ∷ 0
      -- owners 1, 2
      ∷ 1 ∷ 2
      -- AND 0 1
      ∷ 2 ∷ 0 ∷ 0 ∷ 0 ∷ 1 ∷ 0
      -- output 2
      ∷ 2 ∷ 0 ∷ []) text_room;
}

-- A wire that equals the wire count passes: "2 1 0 1 3 XOR" of three wires, and then the output is never written.
-- bristol_lines: `if wire >= wires {` → `if wire > wires {`
abbrev pub wire_at_the_count : Wrong
wire_at_the_count = record {
  call = FromBristol (headed 1 3 (50 ∷ 32 ∷ 49 ∷ 32 ∷ 48 ∷ 32 ∷ 49 ∷ 32 ∷ 51 ∷ 32 ∷ 88 ∷ 79 ∷ 82 ∷ 10 ∷ [])) two_owners text_room;
  gives = refuses_text 17 4 text_room;
}

-- INV becomes XOR of its wire with itself, which is 0.
-- bristol_wires: `enter_gate(map, gates, t, 3, p, 0, z);` → `enter_gate(map, gates, t, 1, p, p, z);`
abbrev pub inv_as_xor_with_itself : Wrong
inv_as_xor_with_itself = record {
  call = FromBristol four_gates two_owners text_room;
  gives = writes 56 (
      -- 56 bytes; 2 inputs, 3 gates, 2 outputs; offsets 32, 34, 52
      56 ∷ 0 ∷ 0 ∷ 0 ∷ 2 ∷ 0 ∷ 0 ∷ 0 ∷ 3 ∷ 0 ∷ 0 ∷ 0 ∷ 2 ∷ 0 ∷ 0 ∷ 0 ∷ 32 ∷ 0 ∷ 0 ∷ 0 ∷ 34 ∷ 0 ∷ 0 ∷ 0 ∷ 52 ∷ 0 ∷ 0 ∷ 0 ∷ 0 ∷ 0 ∷ 0 ∷ 0
      -- owners 1, 2
      ∷ 1 ∷ 2
      -- XOR 0 1, AND 0 2, XOR 3 3
      ∷ 1 ∷ 0 ∷ 0 ∷ 0 ∷ 1 ∷ 0 ∷ 2 ∷ 0 ∷ 0 ∷ 0 ∷ 2 ∷ 0 ∷ 1 ∷ 0 ∷ 3 ∷ 0 ∷ 3 ∷ 0
      -- outputs 3, 4
      ∷ 3 ∷ 0 ∷ 4 ∷ 0 ∷ []) text_room;
}

-- Gates stand by the number of the wire that they write: the AND of wires 0 and 3, which writes 2, before the XOR that writes 3.
-- bristol_wires: `put_gate(gates, t.made, kind, a, b);` → `put_gate(gates, z - t.ins, kind, a, b);`
-- bristol_wires: `put_entry(map, z, t.next_entry());` → `put_entry(map, z, z as u16 + 1);`
abbrev pub gates_by_wire_number : Wrong
gates_by_wire_number = record {
  call = FromBristol downwards two_owners text_room;
  gives = writes 48 (
      -- 48 bytes; 2 inputs, 2 gates, 1 output; offsets 32, 34, 46
      48 ∷ 0 ∷ 0 ∷ 0 ∷ 2 ∷ 0 ∷ 0 ∷ 0 ∷ 2 ∷ 0 ∷ 0 ∷ 0 ∷ 1 ∷ 0 ∷ 0 ∷ 0 ∷ 32 ∷ 0 ∷ 0 ∷ 0 ∷ 34 ∷ 0 ∷ 0 ∷ 0 ∷ 46 ∷ 0 ∷ 0 ∷ 0 ∷ 0 ∷ 0 ∷ 0 ∷ 0
      -- owners 1, 2
      ∷ 1 ∷ 2
      -- AND 0 3, XOR 0 1
      ∷ 2 ∷ 0 ∷ 0 ∷ 0 ∷ 3 ∷ 0 ∷ 1 ∷ 0 ∷ 0 ∷ 0 ∷ 1 ∷ 0
      -- output 3
      ∷ 3 ∷ 0 ∷ []) text_room;
}

-- Outputs are the lowest wires.
-- bristol_file: `for w in t.wires - t.outs..t.wires {` → `for w in t.wires - t.wires..t.outs {`
abbrev pub outputs_the_lowest : Wrong
outputs_the_lowest = record {
  call = FromBristol (headed 1 3 xor_line) two_owners text_room;
  gives = writes 42 (
      -- 42 bytes; 2 inputs, 1 gates, 1 output; offsets 32, 34, 40
      42 ∷ 0 ∷ 0 ∷ 0 ∷ 2 ∷ 0 ∷ 0 ∷ 0 ∷ 1 ∷ 0 ∷ 0 ∷ 0 ∷ 1 ∷ 0 ∷ 0 ∷ 0 ∷ 32 ∷ 0 ∷ 0 ∷ 0 ∷ 34 ∷ 0 ∷ 0 ∷ 0 ∷ 40 ∷ 0 ∷ 0 ∷ 0 ∷ 0 ∷ 0 ∷ 0 ∷ 0
      -- owners 1, 2
      ∷ 1 ∷ 2
      -- XOR 0 1
      ∷ 1 ∷ 0 ∷ 0 ∷ 0 ∷ 1 ∷ 0
      -- output 0
      ∷ 0 ∷ 0 ∷ []) text_room;
}

-- 4 comes after 2: no owner for a value of 1,025 wires.
-- bristol_checks: `if let Some(place) = owners_fault(owners, t.values) {` → `if let (Some(place), None) = (owners_fault(owners, t.values), check_limits::too_large(t.ins, t.made, t.outs)) {`
abbrev pub four_behind_two : Wrong
four_behind_two = record {
  call = FromBristol wide_text [] text_room;
  gives = refuses_text 2 0 text_room;
}

-- The byte behind the file is cleared.
-- bristol: `Ok(bristol_file::put_numbered(room, text, pass.seat, owners, &numbering))` → `let n = bristol_file::put_numbered(room, text, pass.seat, owners, &numbering); room[n] = 0; Ok(n)`
abbrev pub byte_behind_the_file_cleared : Wrong
byte_behind_the_file_cleared = record {
  call = FromBristol four_gates two_owners text_room;
  gives = writes 56 (four_file ++ (0 ∷ [])) text_room;
}

-- The room is looked at last: it is empty, and line 1 has a number of six digits.
-- bristol: `if room.len() != 20000 {` → `if 20000 != 20000 {`
-- bristol: `Ok(bristol_file::put_numbered(` → `if room.len() != 20000 { return Err(Refusal::Buffer(0)); } Ok(bristol_file::put_numbered(`
abbrev pub ten_last : Wrong
ten_last = record {
  call = FromBristol (48 ∷ 48 ∷ 48 ∷ 48 ∷ 48 ∷ 49 ∷ 32 ∷ 51 ∷ 10 ∷ []) [] [];
  gives = refuses_text 15 1 [];
}

abbrev pub wrong_texts : List Wrong
wrong_texts =
    eqw_makes_a_gate
    ∷ written_twice_passes
    ∷ lines_counted_from_0
    ∷ unknown_word_beyond_the_gates
    ∷ inv_reads_two
    ∷ wire_at_the_count
    ∷ inv_as_xor_with_itself
    ∷ gates_by_wire_number
    ∷ outputs_the_lowest
    ∷ four_behind_two
    ∷ byte_behind_the_file_cleared
    ∷ ten_last
    ∷ []
