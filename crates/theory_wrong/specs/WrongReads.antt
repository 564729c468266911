-- Wrong programs told by what they answer. Each is a change of the code that keeps its shape; `gives` is what the changed program answers and
-- leaves on the call beside it, and no such answer meets the call's statement: proofs/AnswersShutOut.antt.
--     Wrong                          a call, and what a wrong program gives
--     gated k a b, owned_by a b      K's circuit with another gate, of kind k on a and b; with other owners
--     two_outputs                    two inputs, of sites 1 and 2, each an output; no gate
--     wrong_reads                    those of the reader, the check, plain values, traffic and listing; of run, view and re-taping: WrongRuns.antt
use Rattle.std.specs.Prelude.{List, [], ◌∷◌, ◌++◌, ℕ, take, drop, set}
use Rattle.theory_calls.specs.Answer.{good, refused, After}
use Rattle.theory_sharing.specs.Store.{fill}
use Rattle.theory_calls.specs.Calls.{Call, Open, GateAt, OwnerAt, OutputAt, Check, Plain, Traffic, Listing}
use Rattle.theory_demands.specs.Marked.{K_file, K_with, K_job, untouched, stopped_with, good_with, good_returns}

pub record Wrong : Type 0 where
  pub call : Call
  pub gives : After

abbrev pub gated : ℕ → ℕ → ℕ → List ℕ
gated k a b = take 34 K_file ++ (k ∷ 0 ∷ a ∷ 0 ∷ b ∷ 0 ∷ 2 ∷ 0 ∷ [])

abbrev pub owned_by : ℕ → ℕ → List ℕ
owned_by a b = take 32 K_file ++ (a ∷ b ∷ drop 34 K_file)

abbrev pub two_outputs : List ℕ
two_outputs =
    (38 ∷ 0 ∷ 0 ∷ 0 ∷ 2 ∷ 0 ∷ 0 ∷ 0 ∷ 0 ∷ 0 ∷ 0 ∷ 0 ∷ 2 ∷ 0 ∷ 0 ∷ 0
    ∷ 32 ∷ 0 ∷ 0 ∷ 0 ∷ 34 ∷ 0 ∷ 0 ∷ 0 ∷ 34 ∷ 0 ∷ 0 ∷ 0 ∷ 0 ∷ 0 ∷ 0 ∷ 0 ∷ []) ++ (1 ∷ 2 ∷ 0 ∷ 0 ∷ 1 ∷ 0 ∷ [])

-- The place of field 24 given for field 20.
-- file_header: `return Err(Refusal::Header(20));` → `return Err(Refusal::Header(24));`
abbrev pub field_24_for_20 : Wrong
field_24_for_20 = record {
  call = Open (set K_file 20 35);
  gives = stopped_with (refused 3 24) [];
}

-- The slice's length is not compared with field 0.
-- file_header: `if len != f.length as usize {` → `if len != len {`
abbrev pub length_not_compared : Wrong
length_not_compared = record {
  call = Open (K_file ++ (0 ∷ []));
  gives = stopped_with (good (2 ∷ 1 ∷ 1 ∷ [])) [];
}

-- A gate number that is too large comes back as the place, and not the count.
-- file_parts: `return Err(Refusal::Gate(self.counts.gates));` → `return Err(Refusal::Gate(k));`
abbrev pub gate_place_is_the_number : Wrong
gate_place_is_the_number = record {
  call = GateAt K_file 7;
  gives = stopped_with (refused 5 7) [];
}

-- First and second of a gate exchanged.
-- file_parts: `file_numbers::u16_at(self.file, at + 2),` → `file_numbers::u16_at(self.file, at + 9),`
-- file_parts: `file_numbers::u16_at(self.file, at + 4),` → `file_numbers::u16_at(self.file, at + 2),`
-- file_parts: `file_numbers::u16_at(self.file, at + 9),` → `file_numbers::u16_at(self.file, at + 4),`
abbrev pub operands_exchanged : Wrong
operands_exchanged = record {
  call = GateAt K_file 0;
  gives = stopped_with (good (2 ∷ 1 ∷ 0 ∷ [])) [];
}

-- The owner of the input before.
-- file_parts: `self.file[32 + k]` → `self.file[31 + k]`
abbrev pub owner_one_before : Wrong
owner_one_before = record {
  call = OwnerAt K_file 1;
  gives = stopped_with (good (1 ∷ [])) [];
}

-- An input number that is too large is refused with a gate's number.
-- file_parts: `return Err(Refusal::Owner(self.counts.inputs));` → `return Err(Refusal::Gate(self.counts.inputs));`
abbrev pub owner_refused_as_a_gate : Wrong
owner_refused_as_a_gate = record {
  call = OwnerAt K_file 7;
  gives = stopped_with (refused 5 2) [];
}

-- Outputs read as if they were one byte each.
-- file_parts: `6 * self.counts.gates + 2 * k,` → `6 * self.counts.gates + 1 * k,`
abbrev pub outputs_of_one_byte : Wrong
outputs_of_one_byte = record {
  call = OutputAt two_outputs 1;
  gives = stopped_with (good (256 ∷ [])) [];
}

-- An output number that is too large gets the count of gates as its place.
-- file_parts: `return Err(Refusal::Output(self.counts.outputs));` → `return Err(Refusal::Output(self.counts.gates));`
abbrev pub output_place_is_the_gates : Wrong
output_place_is_the_gates = record {
  call = OutputAt two_outputs 7;
  gives = stopped_with (refused 6 0) [];
}

-- The place of a bad gate is that of an owners' search which found none: their count.
-- check_circuit: `return Err(Refusal::Gate(gate));` → `return Err(Refusal::Gate(f.counts.inputs));`
abbrev pub gate_fault_at_the_owners_place : Wrong
gate_fault_at_the_owners_place = record {
  call = Check (K_with 0 2);
  gives = stopped_with (refused 5 2) [];
}

-- An operand compared with W instead of with its own wire.
-- check_circuit: `f.counts.inputs + k)` → `f.counts.inputs + f.counts.gates)`
abbrev pub operand_below_w : Wrong
operand_below_w = record {
  call = Check (K_with 0 2);
  gives = stopped_with (good (2 ∷ 1 ∷ 1 ∷ [])) [];
}

-- An owner of 4 passes.
-- check_circuit: `!((1 <= owner) & (owner <= 3))` → `!((1 <= owner) & (owner <= 4))`
abbrev pub owner_four : Wrong
owner_four = record {
  call = Check (owned_by 1 4);
  gives = stopped_with (good (2 ∷ 1 ∷ 1 ∷ [])) [];
}

-- A bad owner is refused with a gate's number.
-- check_circuit: `return Err(Refusal::Owner(input));` → `return Err(Refusal::Gate(input));`
abbrev pub owners_refused_as_gates : Wrong
owners_refused_as_gates = record {
  call = Check (owned_by 1 4);
  gives = stopped_with (refused 5 1) [];
}

-- A buffer of more than W bytes is taken.
-- plain: `if values.len() != c.wires() {` → `if values.len() < c.wires() {`
abbrev pub longer_buffer_passes : Wrong
longer_buffer_passes = record {
  call = Plain K_file (1 ∷ 1 ∷ []) (untouched 4);
  gives = good_with (((1 ∷ 1 ∷ 1 ∷ []) ++ untouched 1) ∷ []);
}

-- OR is computed as XOR.
-- plain: `0xe5860` → `0x65860`
abbrev pub or_as_xor : Wrong
or_as_xor = record {
  call = Plain (gated 4 0 1) (1 ∷ 1 ∷ []) (untouched 3);
  gives = good_with ((1 ∷ 1 ∷ 0 ∷ []) ∷ []);
}

-- A refused file goes out with number 0.
-- traffic: `*number = refusal.number();` → `*number = refusal.place();`
abbrev pub refusal_says_good : Wrong
refusal_says_good = record {
  call = Traffic (K_with 0 2);
  gives = good_returns ((0 ∷ 0 ∷ 0 ∷ []) ∷ (0 ∷ 0 ∷ 0 ∷ []) ∷ (0 ∷ 0 ∷ 0 ∷ []) ∷ []);
}

-- An output adds the comparing copy from k+2 to k instead of the copy from k+1.
-- traffic_entries: `[[0, 0, 1], [1, 0, 0], [0, 1, 0]]` → `[[0, 1, 0], [0, 0, 1], [1, 0, 0]]`
abbrev pub comparing_copy_counted : Wrong
comparing_copy_counted = record {
  call = Traffic K_file;
  gives = good_returns ((0 ∷ 5 ∷ 4 ∷ []) ∷ (4 ∷ 0 ∷ 5 ∷ []) ∷ (3 ∷ 2 ∷ 0 ∷ []) ∷ []);
}

-- An AND or OR adds one bit for each ordered pair instead of two.
-- traffic_entries: `[[0, 2, 2], [2, 0, 2], [2, 2, 0]]` → `[[0, 1, 1], [1, 0, 1], [1, 1, 0]]`
abbrev pub gates_counted_by_half : Wrong
gates_counted_by_half = record {
  call = Traffic K_file;
  gives = good_returns ((0 ∷ 3 ∷ 4 ∷ []) ∷ (4 ∷ 0 ∷ 3 ∷ []) ∷ (1 ∷ 2 ∷ 0 ∷ []) ∷ []);
}

-- A made-up entry: the owner's bits to one other site are left out.
-- traffic_entries: `1 => [[0, 2, 2], [0, 0, 0], [0, 0, 0]],` → `1 => [[0, 2, 0], [0, 0, 0], [0, 0, 0]],`
abbrev pub made_up_entry : Wrong
made_up_entry = record {
  call = Traffic K_file;
  gives = good_returns ((0 ∷ 4 ∷ 3 ∷ []) ∷ (5 ∷ 0 ∷ 4 ∷ []) ∷ (2 ∷ 3 ∷ 0 ∷ []) ∷ []);
}

-- The circuit is read from where the inputs stand, and the inputs from where the circuit does.
-- listing: `list(&job[16..i], &job[i..t], &job[t..], text)` → `list(&job[i..t], &job[16..i], &job[t..], text)`
abbrev pub circuit_and_inputs_exchanged : Wrong
circuit_and_inputs_exchanged = record {
  call = Listing K_job (untouched 2624);
  gives = stopped_with (refused 1 0) (untouched 2624 ∷ []);
}

-- A refused job's number and place change places; at place 0 they stay, as no check has the number 0.
-- listing: `return Err(Refusal::Job(place));` → `return Err(match place { 4 => Refusal::Owner(14), 8 => Refusal::Tapes(14), 12 => Refusal::Second(14), _ => Refusal::Job(place) });`
abbrev pub number_and_place_exchanged : Wrong
number_and_place_exchanged = record {
  call = Listing (set K_job 4 17) (untouched 2624);
  gives = stopped_with (refused 4 14) (untouched 2624 ∷ []);
}

-- The last line is not ended: its LF is left out.
-- listing_text: `b"end\n"` → `b"end"`
abbrev pub end_without_line_end : Wrong
end_without_line_end = record {
  call = Listing K_job (untouched 2624);
  gives = stopped_with (good (46 ∷ [])) (fill (untouched 2624) (
      -- inputs 2 gates 1 outputs 1
      105 ∷ 110 ∷ 112 ∷ 117 ∷ 116 ∷ 115 ∷ 32 ∷ 50 ∷ 32 ∷ 103 ∷ 97 ∷ 116 ∷ 101 ∷ 115 ∷ 32 ∷ 49 ∷ 32 ∷ 111 ∷ 117 ∷ 116 ∷ 112 ∷ 117 ∷ 116 ∷ 115 ∷ 32 ∷ 49 ∷ 10
      -- bits 23
      ∷ 98 ∷ 105 ∷ 116 ∷ 115 ∷ 32 ∷ 50 ∷ 51 ∷ 10
      -- out 0 1
      ∷ 111 ∷ 117 ∷ 116 ∷ 32 ∷ 48 ∷ 32 ∷ 49 ∷ 10
      -- end
      ∷ 101 ∷ 110 ∷ 100 ∷ []) ∷ []);
}

abbrev pub wrong_reads : List Wrong
wrong_reads =
    field_24_for_20
    ∷ length_not_compared
    ∷ gate_place_is_the_number
    ∷ operands_exchanged
    ∷ owner_one_before
    ∷ owner_refused_as_a_gate
    ∷ outputs_of_one_byte
    ∷ output_place_is_the_gates
    ∷ gate_fault_at_the_owners_place
    ∷ operand_below_w
    ∷ owner_four
    ∷ owners_refused_as_gates
    ∷ longer_buffer_passes
    ∷ or_as_xor
    ∷ refusal_says_good
    ∷ comparing_copy_counted
    ∷ gates_counted_by_half
    ∷ made_up_entry
    ∷ circuit_and_inputs_exchanged
    ∷ number_and_place_exchanged
    ∷ end_without_line_end
    ∷ []
