-- T-01, circuits from the public shelf: a theorem for each sentence, about the whole call FromBristol (bristol_text/specs/Call.antt) and the calls of
-- theory_calls/specs/Calls.antt on the file that it writes. What holds of every public call, Demands.antt, holds of it too. Assumes nothing.
use mathlib.Core.Path.{◌≡◌, refl, sym, ap, ap₂, ◌∙◌, subst}
use mathlib.Core.Logic.{◌↔◌}
use mathlib.Core.List.{List, [], ◌∷◌, map, flat_map}
use Prim.Native.Nat.{ℕ, ◌+◌, ◌-◌, ◌*◌, ◌<◌, ◌≤◌}
use native.Mathlib.Omega.{arith}
use lib.ListN.{length, get_or, take, drop, length-append}
use Rattle.theory_calls.specs.File.{size, circuit}
use Rattle.theory_calls.specs.Answer.{good, refused}
use Rattle.theory_calls.specs.Checks.{Refusal}
use Rattle.theory_calls.specs.Refusal.{FirstRefusal}
use Rattle.theory_calls.specs.Calls.{Call, GateAt, OwnerAt, OutputAt, Check, Plain, Run, does, Accepts, buffer}
use Rattle.theory_calls.specs.Statements.{bit_family, Bits, Clean, plain_outs}
use Rattle.bristol_text.specs.Words.{lines}
use Rattle.bristol_text.specs.Lines.{Line, blank, bad, counts, widths, other_word, xor_gate, and_gate, inv_gate, eqw_gate}
use Rattle.bristol_text.specs.Heard.{heard}
use Rattle.bristol_text.specs.Meaning.{text_outs}
use Rattle.bristol_text.specs.Renamed.{renamed, spread, text_file}
use Rattle.bristol_text.specs.Order.{our_gate, our_gates, Takes, Named}
use Rattle.bristol_text.specs.Call.{fault_at, FromBristol}
use Rattle.bristol_text.specs.Good.{Good}
use Rattle.bristol_text.proofs as laws
use Rattle.theory_demands.specs.Public.{text_numbers}
use Rattle.theory_demands.specs.Shelf.{text_inputs, text_outputs, wire_count, gate_lines, adds, without_eqw, text_gates, ours}
use Rattle.theory_demands.proofs.PublicLaws.{text_ordered}
use Rattle.theory_demands.proofs.Demands.{refused_exactly}

module _ (text owners room : List ℕ) where
  abbrev called : Call
  called = FromBristol text owners room

  -- REFUSALS. "10 for the room ..; then, first by line and in this order on one line, 15 .., 16 .., 17 .., each with its line number; then, with the
  -- number of lines, 15 for a missing line, 17 for an output wire never written; then 4 ..; then 2.": the numbers of its checks from first to last, at
  -- each place; that of the lines is the fault of line P,
  pub text_order : (P : ℕ) → map (λ (c : Refusal). c.number P) called.checks ≡ text_numbers (fault_at (lines text) P)
  text_order = text_ordered text owners room

  -- which is 15, 16 or 17 where there is one.
  pub line_faults : (P : ℕ) → ¬ (fault_at (lines text) P ≡ 0) → (15 ≤ fault_at (lines text) P) × (fault_at (lines text) P ≤ 17)
  line_faults = laws.Faults.fault_at_numbers (lines text)

  -- The call is refused by the first of these checks whose condition holds, and by no other:
  pub text_refused_exactly : (N P : ℕ) → ((does called).answer ≡ refused N P) ↔ FirstRefusal called.checks N P
  text_refused_exactly = refused_exactly called

  -- by its first, "10 for the room, place 0", exactly where that has not 20,000 bytes,
  pub refused_for_the_room : (N P : ℕ) → ((r : FirstRefusal called.checks N P) × (r.which ≡ 0)) ↔ ((N ≡ 10) × (P ≡ 0) × ¬ (length room ≡ 20000))
  refused_for_the_room = laws.Faults.room_first text owners room

  -- and by its second, "first by line ..", exactly where the room is as it should be and P is the first line with a fault, which is N.
  -- Lines are counted from 1: 0 is none, and has no fault.
  pub refused_by_line : (N P : ℕ) → ((r : FirstRefusal called.checks N P) × (r.which ≡ 1))
      ↔ ((length room ≡ 20000) × (P ≤ length (lines text)) × (fault_at (lines text) P ≡ N) × ¬ (N ≡ 0) × ((Q : ℕ) → Q < P → fault_at (lines text) Q ≡ 0))
  refused_by_line = laws.Faults.line_first text owners room

  -- A refusal writes nothing.
  pub refused_text_changes_nothing : (N P : ℕ) → (does called).answer ≡ refused N P → (does called).lent ≡ room ∷ []
  refused_text_changes_nothing = laws.WholeCall.refused_writes_nothing text owners room

  -- A call is accepted exactly where the room has its length and the text is good for these owners: no line has a fault, no line is missing, every
  -- output wire is written, an owner 1 to 3 for each input value, "and our limits hold then".
  pub text_accepted_exactly : Accepts called ↔ (Good (lines text) owners × (length room ≡ 20000))
  text_accepted_exactly = (laws.WholeCall.call_good text owners room, λ h. laws.WholeCall.good_call text owners room h.0 h.1)

  -- "the answer is the file's length": one number
  pub accepted_text_answers_a_length : Accepts called → (n : ℕ) × ((does called).answer ≡ good (n ∷ []))
  accepted_text_answers_a_length a = (length (text_file text owners), laws.WholeCall.call_answers text owners room a)

-- how many gates of ours some lines are
one_adds : (f : ℕ → ℕ) (l : Line) → length (our_gate f l) ≡ adds l
unfolding our_gate adds
one_adds f (xor_gate x y z) = refl
one_adds f (and_gate x y z) = refl
one_adds f (inv_gate x z) = refl
one_adds f (eqw_gate x z) = refl
one_adds f blank = refl
one_adds f bad = refl
one_adds f (counts g w) = refl
one_adds f (widths ws) = refl
one_adds f other_word = refl

lines_add : (f : ℕ → ℕ) (ls : List Line) → length (our_gates f ls) ≡ without_eqw ls
unfolding our_gates without_eqw
lines_add f [] = refl
lines_add f (l ∷ ls) = length-append (our_gate f l) (our_gates f ls) ∙ ap₂ (λ (a b : ℕ). a + b) (one_adds f l) (lines_add f ls)

-- THE FILE. Where the call answers n, it is the first n bytes of the room afterwards.
module _ (text owners room : List ℕ) (n : ℕ) (told : (does (FromBristol text owners room)).answer ≡ good (n ∷ [])) where
  abbrev room_after : List ℕ
  room_after = buffer 0 (FromBristol text owners room)

  abbrev file : List ℕ
  file = take n room_after

  good_text : Good (lines text) owners
  good_text = (laws.WholeCall.call_good text owners room (laws.FileCalls.told_accepts text owners room n told)).0

  -- how many gates of ours there are
  many : length (renamed (heard (lines text))).gates ≡ text_gates text
  many = ap length (laws.TextFile.gates_in_order text owners good_text) ∙ lines_add (ours text) (gate_lines text)

  -- what is shown of the file as it is defined holds of those bytes
  so : (P : List ℕ → Type 0) → P (text_file text owners) → P file
  so P h = subst P (sym (laws.FileCalls.told_file text owners room n told)) h

  -- "write our circuit file": to the byte what the definition says is written,
  pub file_is_the_texts : file ≡ text_file text owners
  file_is_the_texts = laws.FileCalls.told_file text owners room n told

  -- "the answer is the file's length", 01's 32+I+6G+2O,
  pub answer_is_the_files_length : (length file ≡ n) × (n ≡ 32 + text_inputs text + 6 * text_gates text + 2 * text_outputs text)
  unfolding size
  answer_is_the_files_length =
      let l = laws.FileCalls.told_length text owners room n told in
      let s = laws.FileCalls.file_size text owners good_text in
      let m = many in
      (so (λ f. length f ≡ n) l, omega arith)

  -- "and the bytes behind stay."
  pub bytes_behind_stay : drop n room_after ≡ drop n room
  bytes_behind_stay = laws.FileCalls.told_behind text owners room n told

  -- The file passes the whole check. Its inputs are the wires of the input values, its gates the gate lines that are no EQW, its outputs the wires of
  -- the output values;
  pub file_is_accepted : (does (Check file)).answer ≡ good (text_inputs text ∷ text_gates text ∷ text_outputs text ∷ [])
  file_is_accepted =
      so (λ f. (does (Check f)).answer ≡ good (text_inputs text ∷ text_gates text ∷ text_outputs text ∷ []))
      (laws.FileCalls.file_checked text owners good_text ∙ ap (λ (g : ℕ). good (text_inputs text ∷ g ∷ text_outputs text ∷ [])) many)

  -- "and our limits hold then."
  pub limits_hold_then : (text_inputs text ≤ 1024) × (text_gates text ≤ 3072) × (text_outputs text ≤ 256)
  limits_hold_then = let w = good_text.within in let m = many in (omega arith, omega arith, omega arith)

  -- THE MEANING. "For all inputs our file has the text's plain outputs, by a definition of the text's own meaning."
  pub file_has_the_texts_outputs : (xs : List ℕ) → plain_outs bit_family (circuit file) xs (circuit file).outs ≡ text_outs text xs
  file_has_the_texts_outputs xs = so (λ f. plain_outs bit_family (circuit f) xs (circuit f).outs ≡ text_outs text xs) (laws.TextFile.same_outputs text owners good_text xs)

  -- So a call for plain values is accepted, on inputs of bits and a buffer with a byte for each wire, and leaves at each output's wire its value in the
  -- text; of these there are O.
  pub plain_call_gives_the_texts_outputs : (xs values : List ℕ) → Bits xs (text_inputs text) → length values ≡ text_inputs text + text_gates text
      → ((does (Plain file xs values)).answer ≡ good [])
      × ((o : ℕ) → o < text_outputs text → get_or (buffer 0 (Plain file xs values)) ((circuit file).out o) 0 ≡ get_or (text_outs text xs) o 0)
      × (length (text_outs text xs) ≡ text_outputs text)
  plain_call_gives_the_texts_outputs xs values b l =
      let m = many in
      let p = laws.FileCalls.file_plain text owners good_text xs values b (omega arith) in (
        so (λ f. (does (Plain f xs values)).answer ≡ good []) p.0,
        so (λ f. (o : ℕ) → o < text_outputs text → get_or (buffer 0 (Plain f xs values)) ((circuit f).out o) 0 ≡ get_or (text_outs text xs) o 0) p.1,
        laws.FileCalls.outs_many text xs,
      )

  -- And a run of the file that is accepted opens, on an undisturbed line, at all three sites to the text's outputs.
  pub clean_run_opens_the_texts_outputs : (xs tapes line outs tr st : List ℕ) → let r = Run file xs tapes line outs tr st in
      Accepts r → Clean line → ((does r).answer ≡ good []) × (buffer 0 r ≡ flat_map (λ (v : ℕ). v ∷ v ∷ v ∷ []) (text_outs text xs))
  clean_run_opens_the_texts_outputs xs tapes line outs tr st =
      so (λ f. let r = Run f xs tapes line outs tr st in
      Accepts r → Clean line → ((does r).answer ≡ good []) × (buffer 0 r ≡ flat_map (λ (v : ℕ). v ∷ v ∷ v ∷ []) (text_outs text xs)))
      (laws.FileCalls.file_opens text owners good_text xs tapes line outs tr st)

  -- GATES AND WIRES. "XOR, AND and INV map to ours in the text's order": gate k is the k-th of them, on our numbers of its wires; EQW is none of them.
  pub gates_stand_in_the_texts_order : (k : ℕ) → k < text_gates text → let g = get_or (our_gates (ours text) (gate_lines text)) k (0, 0, 0) in
      (does (GateAt file k)).answer ≡ good (g.0 ∷ g.1 ∷ g.2 ∷ [])
  gates_stand_in_the_texts_order k l =
      so (λ f. let g = get_or (our_gates (ours text) (gate_lines text)) k (0, 0, 0) in (does (GateAt f k)).answer ≡ good (g.0 ∷ g.1 ∷ g.2 ∷ []))
      (laws.FileCalls.file_gate text owners good_text k (let m = many in omega arith))

  -- "Wires are numbered anew": "Inputs are the lowest wires" and keep their numbers,
  pub inputs_keep_their_numbers : (w : ℕ) → w < text_inputs text → ours text w ≡ w
  inputs_keep_their_numbers = laws.TextFile.inputs_stay text owners good_text

  -- the wire that gate line k writes has the next number of ours, I and one more for each gate of ours before it, but that of an EQW,
  pub wires_take_the_next_number : (k : ℕ) → Takes (ours text) (text_inputs text + without_eqw (take k (gate_lines text))) (get_or (gate_lines text) k blank)
  wires_take_the_next_number k =
      subst (λ (m : ℕ). Takes (ours text) (text_inputs text + m) (get_or (gate_lines text) k blank)) (lines_add (ours text) (take k (gate_lines text)))
      (laws.TextFile.wires_numbered text owners good_text k)

  -- which has the number of the wire that it reads: "EQW renames a wire",
  pub eqw_renames_a_wire : (k x z : ℕ) → get_or (gate_lines text) k blank ≡ eqw_gate x z → ours text z ≡ ours text x
  unfolding Takes
  eqw_renames_a_wire k x z e = subst (Takes (ours text) _) e (wires_take_the_next_number k)

  -- and every number below I + G is that of a written wire of the text.
  pub no_number_is_left_out : (v : ℕ) → v < text_inputs text + text_gates text → Named (heard (lines text)) v
  no_number_is_left_out v l = laws.TextFile.every_number_named text owners good_text v (let m = many in omega arith)

  -- "Read it with an owner for each input value": each once for each wire of the value, in order.
  pub owners_go_by_value : (i : ℕ) → i < text_inputs text → (does (OwnerAt file i)).answer ≡ good (get_or (spread owners (heard (lines text)).ins) i 0 ∷ [])
  owners_go_by_value i l =
      so (λ f. (does (OwnerAt f i)).answer ≡ good (get_or (spread owners (heard (lines text)).ins) i 0 ∷ [])) (laws.FileCalls.file_owner text owners good_text i l)

  -- "outputs the highest": output o is our number of the text's wire W - O + o.
  pub outputs_are_the_highest_wires : (o : ℕ) → o < text_outputs text
      → (does (OutputAt file o)).answer ≡ good (ours text (wire_count text - text_outputs text + o) ∷ [])
  outputs_are_the_highest_wires o l =
      so (λ f. (does (OutputAt f o)).answer ≡ good (ours text (wire_count text - text_outputs text + o) ∷ [])) (laws.FileCalls.file_output text owners good_text o l)
