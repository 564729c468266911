-- Wrong programs of the calls for C, told by the struct that they give. proofs/ForCShutOut.antt has that none meets the export's statement.
--     WrongTold            a call that lends buffers, the struct that a wrong export gives, and the buffers as it leaves them
--     wrong_tolds          those of plain values, run, view and re-taping
--     WrongStruct, wrong_structs    those of the others, where a struct is all that goes out
--     small_line, one_site    lengths for K's circuit, and for K's circuit with both inputs of site 1
use Rattle.std.specs.Prelude.{List, [], ◌∷◌, ◌++◌, ℕ, set}
use Rattle.theory_calls.specs.Calls.{Call, Open, GateAt, OwnerAt, OutputAt, Check, Traffic, Plain, View, Listing, does}
use Rattle.theory_demands.specs.Marked.{K_file, K_with, K_job, K_tapes, K_run, K_retape, K_store, untouched}
use Rattle.door_answers.specs.declared.Answer.{Answer}
use Rattle.door_answers.specs.declared.CountsAnswer.{CountsAnswer}
use Rattle.door_answers.specs.declared.GateAnswer.{GateAnswer}
use Rattle.door_answers.specs.declared.OwnerAnswer.{OwnerAnswer}
use Rattle.door_answers.specs.declared.OutputAnswer.{OutputAnswer}
use Rattle.door_answers.specs.declared.TrafficAnswer.{TrafficAnswer}
use Rattle.door_answers.specs.declared.ListingAnswer.{ListingAnswer}
use Rattle.door_answers.specs.declared.SizesAnswer.{SizesAnswer}
use Rattle.door_answers.specs.Told.{told_counts, told_gate, told_owner, told_output, told_traffic, told_listing}
use Rattle.door_answers.specs.Sizes.{sized}
use Rattle.theory_wrong.specs.WrongReads.{owned_by, two_outputs}

pub record WrongTold : Type 0 where
  pub call : Call
  pub gives : Answer
  pub leaves : List (List ℕ)

abbrev answer : ℕ → ℕ → ℕ → Answer
answer n p m = record { number = n; place = p; sites = m }

-- of K4, an abort at output 0 that names site 2: "An abort goes out with a number of the table of refusals."
-- door_replies: `number: 100,` → `number: 13,`
abbrev pub abort_as_refusal : WrongTold
abort_as_refusal = record { call = K_run (20 ∷ []); gives = answer 13 0 2; leaves = (does (K_run (20 ∷ []))).lent }

-- "An abort names its sites where its output belongs."
-- door_replies: `place: output,` → `place: sites,`
abbrev pub abort_place_sites : WrongTold
abort_place_sites = record { call = K_run (20 ∷ []); gives = answer 100 2 2; leaves = (does (K_run (20 ∷ []))).lent }

-- "An abort goes out with its output for the sites and its sites for the output."
-- door_replies: `Ok(Ran::Abort(output, sites)) =>` → `Ok(Ran::Abort(sites, output)) =>`
abbrev pub run_abort : WrongTold
run_abort = record { call = K_run (20 ∷ []); gives = answer 100 2 0; leaves = (does (K_run (20 ∷ []))).lent }

-- "Plain values take the inputs for the file."
-- door_runs: `plain::plain_values(file, inputs, values)` → `plain::plain_values(inputs, file, values)`
abbrev pub plain_file : WrongTold
plain_file = record { call = Plain K_file (1 ∷ 1 ∷ []) (untouched 3); gives = answer 1 0 0; leaves = untouched 3 ∷ [] }

-- "The run writes the transcript where the store belongs, and the store in the transcript."
-- door_runs: `file, inputs, tapes, line, outputs, transcript, store)` → `file, inputs, tapes, line, outputs, store, transcript)`
abbrev pub run_buffers : WrongTold
run_buffers = record { call = K_run []; gives = answer 10 1 0; leaves = untouched 3 ∷ untouched 26 ∷ untouched 18 ∷ [] }

-- "The run takes the tapes for the line and the line for the tapes."
-- door_runs: `file, inputs, tapes, line, outputs, transcript, store)` → `file, inputs, line, tapes, outputs, transcript, store)`
abbrev pub run_tapes_line : WrongTold
run_tapes_line = record { call = K_run []; gives = answer 8 10 0; leaves = untouched 3 ∷ untouched 26 ∷ untouched 18 ∷ [] }

-- "Whichever site asks, site 1 is shown."
-- door_runs: `view::view_of(file, inputs, tapes, site, view, store)` → `view::view_of(file, inputs, tapes, 1, view, store)`
abbrev pub view_site : WrongTold
view_site = record {
  call = View K_file (1 ∷ 1 ∷ []) K_tapes 2 (untouched 14) (untouched 18);
  gives = answer 0 0 0;
  leaves = (1 ∷ 1 ∷ 0 ∷ 1 ∷ 1 ∷ 1 ∷ 0 ∷ 1 ∷ 1 ∷ 1 ∷ 0 ∷ 0 ∷ 0 ∷ 1 ∷ []) ∷ K_store ∷ [];
}

-- "Re-taping goes from the second inputs to the first."
-- door_runs: `file, inputs, tapes, second, site, fresh, room)` → `file, second, tapes, inputs, site, fresh, room)`
abbrev pub retape_back : WrongTold
retape_back = record {
  call = K_retape 3 (1 ∷ 0 ∷ []) (0 ∷ 1 ∷ []);
  gives = answer 0 0 0;
  leaves = (0 ∷ 0 ∷ 1 ∷ 1 ∷ 0 ∷ 1 ∷ 0 ∷ 1 ∷ 1 ∷ 0 ∷ []) ∷ (0 ∷ 1 ∷ 0 ∷ 1 ∷ 0 ∷ 0 ∷ 0 ∷ 1 ∷ 0 ∷ 1 ∷ 0 ∷ 0 ∷ []) ∷ [];
}

-- A refusal of plain values, view or re-taping goes out as a place and a number: of each of them.
-- door_answers: `refused_told(e.number(), e.place())` → `refused_told(e.place(), e.number())`
abbrev pub plain_refusal : WrongTold
plain_refusal = record { call = Plain K_file (1 ∷ 2 ∷ []) (untouched 3); gives = answer 1 7 0; leaves = untouched 3 ∷ [] }

-- door_answers: `refused_told(e.number(), e.place())` → `refused_told(e.place(), e.number())`
abbrev pub view_refusal : WrongTold
view_refusal = record { call = View K_file (1 ∷ 1 ∷ []) K_tapes 4 (untouched 13) (untouched 18); gives = answer 0 11 0; leaves = untouched 13 ∷ untouched 18 ∷ [] }

-- door_answers: `refused_told(e.number(), e.place())` → `refused_told(e.place(), e.number())`
abbrev pub retape_refusal : WrongTold
retape_refusal = record { call = K_retape 3 (1 ∷ 1 ∷ []) (1 ∷ 0 ∷ []); gives = answer 2 13 0; leaves = (does (K_retape 3 (1 ∷ 1 ∷ []) (1 ∷ 0 ∷ []))).lent }

abbrev pub wrong_tolds : List WrongTold
wrong_tolds =
    abort_as_refusal ∷ abort_place_sites ∷ run_abort ∷ plain_file ∷ run_buffers ∷ run_tapes_line ∷ view_site ∷ retape_back ∷ plain_refusal ∷ view_refusal
    ∷ retape_refusal ∷ []

-- "The line is sized for one copy of each opened part."
abbrev pub small_line : SizesAnswer
small_line = record {
  number = 0;
  place = 0;
  inputs = 2;
  tapes = 10;
  line = 23;
  values = 3;
  outputs = 3;
  transcript = 23;
  store = 18;
  view = 14 ∷ 14 ∷ 13 ∷ [];
  room = 12;
}

-- "The view of site 2 is sized by the inputs of site 1."
abbrev pub one_site : SizesAnswer
one_site = record {
  number = 0;
  place = 0;
  inputs = 2;
  tapes = 10;
  line = 26;
  values = 3;
  outputs = 3;
  transcript = 26;
  store = 18;
  view = 15 ∷ 15 ∷ 13 ∷ [];
  room = 12;
}

-- what a wrong export gives where the struct is all that goes out, beside what its statement says; `numbers` are all of a struct's
pub record WrongStruct : Type 1 where
  pub Struct : Type 0
  pub numbers : Struct → List ℕ
  pub gives : Struct
  pub right : Struct

abbrev of_counts : CountsAnswer → CountsAnswer → WrongStruct
of_counts g r = record { Struct = CountsAnswer; numbers = λ z. z.number ∷ z.place ∷ z.inputs ∷ z.gates ∷ z.outputs ∷ []; gives = g; right = r }

abbrev of_gate : GateAnswer → GateAnswer → WrongStruct
of_gate g r = record { Struct = GateAnswer; numbers = λ z. z.number ∷ z.place ∷ z.kind ∷ z.first ∷ z.second ∷ []; gives = g; right = r }

abbrev of_owner : OwnerAnswer → OwnerAnswer → WrongStruct
of_owner g r = record { Struct = OwnerAnswer; numbers = λ z. z.number ∷ z.place ∷ z.owner ∷ []; gives = g; right = r }

abbrev of_output : OutputAnswer → OutputAnswer → WrongStruct
of_output g r = record { Struct = OutputAnswer; numbers = λ z. z.number ∷ z.place ∷ z.wire ∷ []; gives = g; right = r }

abbrev of_traffic : TrafficAnswer → TrafficAnswer → WrongStruct
of_traffic g r = record { Struct = TrafficAnswer; numbers = λ z. z.number ∷ z.place ∷ z.bits; gives = g; right = r }

abbrev of_listing : ListingAnswer → ListingAnswer → WrongStruct
of_listing g r = record { Struct = ListingAnswer; numbers = λ z. z.number ∷ z.place ∷ z.length ∷ []; gives = g; right = r }

abbrev of_sizes : SizesAnswer → SizesAnswer → WrongStruct
of_sizes g r = record {
  Struct = SizesAnswer;
  numbers = λ z. z.number ∷ z.place ∷ z.inputs ∷ z.tapes ∷ z.line ∷ z.values ∷ z.outputs ∷ z.transcript ∷ z.store ∷ z.room ∷ z.view;
  gives = g;
  right = r;
}

-- "Open and check answer the number of outputs where the gates belong."
-- door_answers: `gates: c.gates,` → `gates: c.outputs,`
abbrev pub counts_exchanged : WrongStruct
counts_exchanged = of_counts (record { number = 0; place = 0; inputs = 2; gates = 2; outputs = 2 }) (told_counts (does (Open two_outputs)).answer)

-- "A refusal of open or check goes out as a place and a number."
-- door_answers: `counts_refused(e.number(), e.place())` → `counts_refused(e.place(), e.number())`
abbrev pub counts_refusal : WrongStruct
counts_refusal = of_counts (record { number = 0; place = 5; inputs = 0; gates = 0; outputs = 0 }) (told_counts (does (Check (K_with 0 2))).answer)

-- "Open and check answer the number of outputs where the gates belong.": of the check
-- door_answers: `gates: c.gates,` → `gates: c.outputs,`
abbrev pub check_exchanged : WrongStruct
check_exchanged = of_counts (record { number = 0; place = 0; inputs = 2; gates = 2; outputs = 2 }) (told_counts (does (Check two_outputs)).answer)

-- "A refusal of open or check goes out as a place and a number.": of open
-- door_answers: `counts_refused(e.number(), e.place())` → `counts_refused(e.place(), e.number())`
abbrev pub open_refusal : WrongStruct
open_refusal = of_counts (record { number = 0; place = 3; inputs = 0; gates = 0; outputs = 0 }) (told_counts (does (Open (K_file ++ (0 ∷ [])))).answer)

-- "A gate goes out with its operands exchanged."
-- door_answers: `first: g.first,` → `first: g.second,`
-- door_answers: `second: g.second,` → `second: g.first,`
abbrev pub gate_operands : WrongStruct
gate_operands = of_gate (record { number = 0; place = 0; kind = 2; first = 1; second = 0 }) (told_gate (does (GateAt K_file 0)).answer)

-- "A refused owner goes out as a place and a number."
-- door_answers: `owner_refused(e.number(), e.place())` → `owner_refused(e.place(), e.number())`
abbrev pub owner_refusal : WrongStruct
owner_refusal = of_owner (record { number = 2; place = 4; owner = 0 }) (told_owner (does (OwnerAt K_file 7)).answer)

-- "A refused owner goes out as site 1."
-- door_answers: `owner: 0,` → `owner: 1,`
abbrev pub owner_kept_at_refusal : WrongStruct
owner_kept_at_refusal = of_owner (record { number = 4; place = 2; owner = 1 }) (told_owner (does (OwnerAt K_file 7)).answer)

-- "A refused output goes out as a place and a number."
-- door_answers: `output_refused(e.number(), e.place())` → `output_refused(e.place(), e.number())`
abbrev pub output_refusal : WrongStruct
output_refusal = of_output (record { number = 1; place = 6; wire = 0 }) (told_output (does (OutputAt K_file 7)).answer)

-- "A refused output goes out as wire 1."
-- door_answers: `wire: 0,` → `wire: 1,`
abbrev pub wire_kept_at_refusal : WrongStruct
wire_kept_at_refusal = of_output (record { number = 6; place = 1; wire = 1 }) (told_output (does (OutputAt K_file 7)).answer)

-- "The traffic table goes out with senders and receivers exchanged in its corner."
-- door_answers: `t[0][2],` → `t[2][0],`
abbrev pub table_turned : WrongStruct
table_turned = of_traffic (record { number = 0; place = 0; bits = 0 ∷ 4 ∷ 2 ∷ 5 ∷ 0 ∷ 4 ∷ 2 ∷ 3 ∷ 0 ∷ [] }) (told_traffic (does (Traffic K_file)))

-- "The number of a refused traffic table goes out as its place."
-- door_figures: `&mut number, &mut place)` → `&mut place, &mut number)`
abbrev pub traffic_numbers : WrongStruct
traffic_numbers = of_traffic (record { number = 0; place = 5; bits = 0 ∷ 0 ∷ 0 ∷ 0 ∷ 0 ∷ 0 ∷ 0 ∷ 0 ∷ 0 ∷ [] }) (told_traffic (does (Traffic (K_with 0 2))))

-- A buffer that is too short for a listing goes unnoticed.
-- listing: `return Err(Refusal::Buffer(0));` → `return Ok(0);`
abbrev pub listing_unfit : WrongStruct
listing_unfit = of_listing (record { number = 0; place = 0; length = 0 }) (told_listing (does (Listing K_job [])).answer)

-- A refused listing goes out with the length of a text.
-- door_answers: `length: 0,` → `length: place,`
abbrev pub listing_length : WrongStruct
listing_length = of_listing (record { number = 14; place = 4; length = 4 }) (told_listing (does (Listing (set K_job 4 17) (untouched 2624))).answer)

-- "The line is sized for one copy of each opened part."
-- door_answers: `12 * a + 6 * c.outputs` → `12 * a + 3 * c.outputs`
abbrev pub sizes_openings : WrongStruct
sizes_openings = of_sizes small_line (sized K_file (does (Check K_file)).answer)

-- "The view of site 2 is sized by the inputs of site 1."
-- door_answers: `twice + s2 + gates + opened` → `twice + s1 + gates + opened`
abbrev pub sizes_site : WrongStruct
sizes_site = of_sizes one_site (sized (owned_by 1 1) (does (Check (owned_by 1 1))).answer)

abbrev pub wrong_structs : List WrongStruct
wrong_structs =
    counts_exchanged
    ∷ counts_refusal
    ∷ check_exchanged
    ∷ open_refusal
    ∷ gate_operands
    ∷ owner_refusal
    ∷ owner_kept_at_refusal
    ∷ output_refusal
    ∷ wire_kept_at_refusal
    ∷ table_turned
    ∷ traffic_numbers
    ∷ listing_unfit
    ∷ listing_length
    ∷ sizes_openings
    ∷ sizes_site
    ∷ []
