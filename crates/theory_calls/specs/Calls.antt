-- Document 01's calls: one block for each, that says all of it.
--     Open .. Listing  the calls; what a call is stands in Call.antt, the closed list of all of them in theory_demands/specs/Public.antt
use Rattle.std.specs.Prelude.{cond, List, [], ◌∷◌, ◌++◌, ℕ, ◌+◌, ◌*◌, ◌-◌, length, get_or, take, drop, ltb}
use Rattle.theory_sharing.specs.Ops.{Ops, bits}
use Rattle.theory_sharing.specs.Sites.{of}
use Rattle.theory_sharing.specs.Circuit.{Circuit, Draws, Errors, no_errors, wires, all_ands, all_owned}
use Rattle.theory_sharing.specs.Run.{after, stop, objects, transcript, opened_at, outputs}
use Rattle.theory_sharing.specs.Tapes.{read}
use Rattle.theory_sharing.specs.Line.{errors}
use Rattle.theory_sharing.specs.Store.{side, store, fill}
use Rattle.theory_sharing.specs.Steps.{Wire}
use Rattle.theory_sharing.specs.View.{view_from}
use Rattle.theory_sharing.specs.Retape.{new_tapes}
use Rattle.theory_sharing.specs.Traffic.{traffic_table, no_table}
use Rattle.theory_calls.specs.File.{le32, inputs_of, gates_of, outputs_of, kind_at, first_at, second_at, owner_at, output_at, site_of, circuit}
use Rattle.theory_calls.specs.Family.{Family, bit_family, circuit_with}
use Rattle.theory_calls.specs.Answer.{Outcome, done, stopped, Left}
use Rattle.theory_calls.specs.Checks.{refusal, header_checks, file_checks, inputs_check, tapes_check, line_check, buffers_check, site_check, second_check, differs_check, job_check, row_asked, tapes_want, line_want}
use Rattle.theory_calls.specs.Listing.{good_text}
pub use Rattle.theory_calls.specs.Call.{Call, AtRefusal, unrefused, buffer, changes_nothing, gives_back, but_at, tells, fills, gives, answers}
unfoldable pub use Rattle.theory_calls.specs.Call.{settle, does, Accepts}

-- inputs by wire
abbrev pub at_wire : List ℕ → ℕ → ℕ
at_wire l k = get_or l k 0

abbrev pub counts : List ℕ → List ℕ
counts f = inputs_of f ∷ gates_of f ∷ outputs_of f ∷ []

-- THE READER. "It is opened by checks 1 to 3, and answers the stored numbers as they stand, good or bad."
unfoldable pub Open : (file : List ℕ) → Call
Open file = record {
  checks = header_checks file;
  buffers = [];
  good = tells (counts file);
  at_refusal = changes_nothing;
}

-- "A gate, owner or output number not below its count gets 5, 4 or 6, place that count."
unfoldable pub GateAt : (file : List ℕ) → (n : ℕ) → Call
GateAt file n =
    let i = inputs_of file in
    record {
      checks = header_checks file ++ (refusal 5 (row_asked n (gates_of file)) ∷ []);
      buffers = [];
      good = tells (kind_at file i n ∷ first_at file i n ∷ second_at file i n ∷ []);
      at_refusal = changes_nothing;
    }

unfoldable pub OwnerAt : (file : List ℕ) → (n : ℕ) → Call
OwnerAt file n = record {
  checks = header_checks file ++ (refusal 4 (row_asked n (inputs_of file)) ∷ []);
  buffers = [];
  good = tells (owner_at file n ∷ []);
  at_refusal = changes_nothing;
}

unfoldable pub OutputAt : (file : List ℕ) → (n : ℕ) → Call
OutputAt file n = record {
  checks = header_checks file ++ (refusal 6 (row_asked n (outputs_of file)) ∷ []);
  buffers = [];
  good = tells (output_at file (inputs_of file) (gates_of file) n ∷ []);
  at_refusal = changes_nothing;
}

-- THE WHOLE CIRCUIT CHECKED
unfoldable pub CheckOf : Family → (file : List ℕ) → Call
CheckOf F file = record {
  checks = file_checks F file;
  buffers = [];
  good = tells (counts file);
  at_refusal = changes_nothing;
}

-- TRAFFIC: "a table of sent bits, three senders by three receivers. .. With a refusal the table is all zeros."
unfoldable pub TrafficOf : Family → (file : List ℕ) → Call
TrafficOf F file = record {
  checks = file_checks F file;
  buffers = [];
  good = gives (traffic_table (circuit_with F file));
  at_refusal = gives_back (λ n p. no_table);
}

-- PLAIN VALUES of all wires, into a buffer of W bytes
unfoldable pub PlainOf : Family → (file inputs values : List ℕ) → Call
PlainOf F file inputs values =
    let C = circuit_with F file in
    record {
      checks = file_checks F file ++ (inputs_check F C inputs ∷ buffers_check (values ∷ []) (wires C ∷ []) ∷ []);
      buffers = values ∷ [];
      good = fills (F.plain C inputs ∷ []);
      at_refusal = changes_nothing;
    }

-- 01: "If any site objects at an output, the run ends there as an abort. It gives the output's number and the objecting sites .. The outputs
-- buffer is then unchanged; the transcript holds everything through that opening's six bits and its rest is unchanged; the store is
-- complete. A good run writes 3O bytes, for each output what site 1, 2 and 3 opened."
unfoldable pub ran_of : Ops → Circuit → (ℕ → ℕ) → Draws → Errors → List ℕ → List ℕ → Left Outcome
ran_of R C x T E outs tr =
    let halts = ltb (stop R C x T E) C.outs in
    record {
      answer = cond halts (stopped (stop R C x T E) (objects R C x T E (stop R C x T E))) (done []);
      returned = [];
      lent = cond halts outs (outputs R C x T E C.outs) ∷ fill tr (transcript R C x T E) ∷ store (after R C x T E C.gates) ∷ [];
    }

-- how long the buffers should be
abbrev pub run_wants : Circuit → List ℕ
run_wants C = 3 * C.outs ∷ line_want C ∷ 6 * wires C ∷ []

abbrev pub view_wants : Circuit → ℕ → List ℕ
view_wants C s = (2 * C.ins + all_owned C (site_of s) + 6 * all_ands C + 3 * C.outs) ∷ 6 * wires C ∷ []

abbrev pub retape_wants : Circuit → List ℕ
retape_wants C = tapes_want C ∷ 4 * wires C ∷ []

-- RUN. "Buffers: run 0 outputs, 1 transcript, 2 store"
unfoldable pub RunOf : Family → (file inputs tapes line outputs transcript store : List ℕ) → Call
RunOf F file inputs tapes line outs tr st =
    let C = circuit_with F file in
    record {
      checks = file_checks F file ++ (
          inputs_check F C inputs ∷ tapes_check F C tapes ∷ line_check F C line
          ∷ buffers_check (outs ∷ tr ∷ st ∷ []) (run_wants C) ∷ []);
      buffers = outs ∷ tr ∷ st ∷ [];
      good = ran_of F.ops C (at_wire inputs) (read C tapes) (errors C line) outs tr;
      at_refusal = changes_nothing;
    }

-- VIEW of a site, on a clean line. "view 0 view, 1 store (6W, holding afterwards what a clean run's store holds)"; "11, which comes just
-- before 10, because a view's length hangs on the site"
unfoldable pub ViewOf : Family → (file inputs tapes : List ℕ) → (site : ℕ) → (view store : List ℕ) → Call
ViewOf F file inputs tapes site view st =
    let C = circuit_with F file in
    record {
      checks = file_checks F file ++ (
          inputs_check F C inputs ∷ tapes_check F C tapes ∷ site_check site
          ∷ buffers_check (view ∷ st ∷ []) (view_wants C site) ∷ []);
      buffers = view ∷ st ∷ [];
      good = fills (view_from F.ops (site_of site) C (at_wire inputs) tapes ∷ store (after F.ops C (at_wire inputs) (read C tapes) no_errors C.gates) ∷ []);
      at_refusal = changes_nothing;
    }

-- 01: "a work room of 4W bytes: plain values of all wires under the first inputs, then under the second, then the site's pairs (2W)"
unfoldable pub both_plain_of : Family → Circuit → List ℕ → List ℕ → List ℕ
both_plain_of F C x y = F.plain C x ++ F.plain C y

unfoldable pub work_room_of : Family → Circuit → List ℕ → List ℕ → List ℕ → ℕ → List ℕ
work_room_of F C x t y s = both_plain_of F C x y ++ side (λ (w : Wire). of w (site_of s)) (after F.ops C (at_wire x) (read C t) no_errors C.gates)

-- RE-TAPING. "re-taping 0 new tapes, 1 work room"; "13 leaves the first 2W bytes of the work room filled with both sets of plain values, and
-- its last 2W unchanged"
unfoldable pub RetapeOf : Family → (file inputs tapes second : List ℕ) → (site : ℕ) → (new room : List ℕ) → Call
RetapeOf F file inputs tapes second site new room =
    let C = circuit_with F file in
    record {
      checks = file_checks F file ++ (
          inputs_check F C inputs ∷ tapes_check F C tapes ∷ site_check site
          ∷ buffers_check (new ∷ room ∷ []) (retape_wants C)
          ∷ second_check F C second ∷ differs_check F C site inputs second ∷ []);
      buffers = new ∷ room ∷ [];
      good = fills (new_tapes F.ops (site_of site) C (at_wire inputs) (at_wire second) tapes ∷ work_room_of F C inputs tapes second site ∷ []);
      at_refusal = but_at 13 (new ∷ fill room (both_plain_of F C inputs second) ∷ []);
    }

-- THE CALLS AT BITS: document 01's
abbrev pub Check : (file : List ℕ) → Call
Check = CheckOf bit_family

abbrev pub Traffic : (file : List ℕ) → Call
Traffic = TrafficOf bit_family

abbrev pub Plain : (file inputs values : List ℕ) → Call
Plain = PlainOf bit_family

abbrev pub Run : (file inputs tapes line outputs transcript store : List ℕ) → Call
Run = RunOf bit_family

abbrev pub View : (file inputs tapes : List ℕ) → (site : ℕ) → (view store : List ℕ) → Call
View = ViewOf bit_family

abbrev pub Retape : (file inputs tapes second : List ℕ) → (site : ℕ) → (new room : List ℕ) → Call
Retape = RetapeOf bit_family

-- 01: "the parts run each to the next and the last to the end"
abbrev pub job_file : List ℕ → List ℕ
job_file j = take (le32 j 8 - 16) (drop 16 j)

abbrev pub job_inputs : List ℕ → List ℕ
job_inputs j = take (le32 j 12 - le32 j 8) (drop (le32 j 8) j)

abbrev pub job_tapes : List ℕ → List ℕ
job_tapes j = drop (le32 j 12) j

-- what the text of a listing is written into: the longest has fewer bytes
abbrev pub text_bytes : ℕ
text_bytes = 2624

-- "Line one has the three counts, line two the traffic total; then one line per output, its number and bit; then `end`." All sites open the same
-- bit on a clean line, so the listing shows site 1's.
abbrev pub job_text : List ℕ → List ℕ
job_text job =
    let C = circuit (job_file job) in
    good_text C (λ o. (opened_at bits C (at_wire (job_inputs job)) (read C (job_tapes job)) no_errors o).at1)

-- THE LISTING of a job, in front in a buffer of 2,624 bytes; the answer has the length of its text. "14, which comes first"
unfoldable pub Listing : (job text : List ℕ) → Call
Listing job text =
    let C = circuit (job_file job) in
    record {
      checks = job_check job ∷ file_checks bit_family (job_file job) ++ (
          inputs_check bit_family C (job_inputs job) ∷ tapes_check bit_family C (job_tapes job)
          ∷ buffers_check (text ∷ []) (text_bytes ∷ []) ∷ []);
      buffers = text ∷ [];
      good = record { answer = done (length (job_text job) ∷ []); returned = []; lent = fill text (job_text job) ∷ [] };
      at_refusal = changes_nothing;
    }
