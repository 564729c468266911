-- The wrong engines of 01's "How far each statement goes", each a definition; proofs/ShutOut.antt shows that it does not meet the promise.
-- Edits of the code that keep its shape make some of them in one way (run_copies' opens_a_fixed_bit, the wrong answer made-up-entry), the others not at all.
--     refuses_everything n p     with this number and place;  refuses_everything_with e: with a refusal of the code
--     writes_nothing             it says Good
--     opens_a_fixed_bit v        v at every output and site; all else is right
--     copies_plain_values        lays, sends: as what parts a gate's wire is laid down, and what is sent at a gate that deals
--     bare, bare_bits            the plainest choice of these two
--     makes_up_a_table           from the three counts alone
use Rattle.std.specs.Prelude.{List, [], ◌∷◌, ◌++◌, ℕ, zero, suc, ◌+◌, ◌*◌, get_or, replicate, Ok, Err}
use Rattle.theory_sharing.specs.Ops.{bits}
use Rattle.theory_sharing.specs.Circuit.{Circuit, none}
use Rattle.theory_sharing.specs.Order.{if_deals}
use Rattle.theory_sharing.specs.Published.{Parts, deal, deal_bits}
use Rattle.theory_sharing.specs.Steps.{Wire, no_wire, hold, six}
use Rattle.theory_sharing.specs.Run.{ins_after, ins_delivered}
use Rattle.theory_sharing.specs.Tapes.{read}
use Rattle.theory_sharing.specs.Line.{errors}
use Rattle.theory_sharing.specs.Store.{fill}
use Rattle.theory_sharing.specs.Store.{store as storing}
use Rattle.theory_calls.specs.Answer.{refused}
use Rattle.theory_calls.specs.File.{inputs_of, gates_of, outputs_of, circuit}
use Rattle.theory_calls.specs.Plain.{plain}
use Rattle.theory_calls.specs.Calls.{Call, Run, buffer, at_wire}
use Rattle.theory_calls.specs.Statements.{bit_family, opened_plain}
use Rattle.check_refusal.specs.declared.Refusal.{Refusal}
use Rattle.run.specs.declared.Ran.TheVariants.{Good}
use Rattle.theory_wrong.specs.Engine.{Lent, Engine, NumberEngine, TableEngine}

-- "an engine that refuses everything"
abbrev pub refuses_everything : ℕ → ℕ → NumberEngine
refuses_everything n p file inputs tapes line b = (refused n p, b)

abbrev pub refuses_everything_with : Refusal → Engine
refuses_everything_with e file inputs tapes line b = (Err e, b)

-- "one that writes nothing"
abbrev pub writes_nothing : Engine
writes_nothing file inputs tapes line b = (Ok Good, b)

-- the call that an engine is to make
abbrev pub asked : (file inputs tapes line : List ℕ) → Lent → Call
asked file inputs tapes line b = Run file inputs tapes line b.outputs b.transcript b.store

-- "one that opens a fixed bit": every share and every bit sent is right
abbrev pub opens_a_fixed_bit : ℕ → Engine
opens_a_fixed_bit v file inputs tapes line b =
    let c = asked file inputs tapes line b in
    (Ok Good, record { outputs = replicate (3 * (circuit file).outs) v; transcript = buffer 1 c; store = buffer 2 c })

-- what is made of a gate by its circuit, the plain values of all wires and its number
abbrev pub FromPlain : Type 0 → Type 0
FromPlain A = Circuit → List ℕ → ℕ → A

-- the wires of the first gates
unfoldable pub gates_laid : FromPlain Parts → Circuit → List ℕ → ℕ → List Wire
gates_laid lays C vs zero = []
gates_laid lays C vs (suc g) = gates_laid lays C vs g ++ (hold (lays C vs g) ∷ [])

-- what is sent at those of them that deal
unfoldable pub gates_sent : FromPlain (List ℕ) → Circuit → List ℕ → ℕ → List ℕ
gates_sent sends C vs zero = []
gates_sent sends C vs (suc g) = gates_sent sends C vs g ++ if_deals (C.gate g) (sends C vs g)

-- what is sent at the openings of wires ws
unfoldable pub opens_sent : Circuit → List Wire → ℕ → List ℕ
opens_sent C ws zero = []
opens_sent C ws (suc o) = opens_sent C ws o ++ six bits none (get_or ws (C.out o) no_wire)

-- "and one that shares the inputs and then copies plain values": the inputs are shared, sent and taken as in step 1. A gate's wire and what
-- is sent for it are made from the circuit and the plain values and from no tape; the line changes nothing there.
abbrev pub copies_plain_values : FromPlain Parts → FromPlain (List ℕ) → Engine
copies_plain_values lays sends file inputs tapes line b =
    let C = circuit file in
    let vs = plain C inputs in
    let ws = ins_after bits C (at_wire inputs) (read C tapes) (errors C line) C.ins ++ gates_laid lays C vs C.gates in
    let ins = ins_delivered bits C (at_wire inputs) (read C tapes) (errors C line) C.ins in (
      Ok Good,
      record {
        outputs = opened_plain bit_family C inputs C.outs;
        transcript = fill b.transcript (ins ++ (gates_sent sends C vs C.gates ++ opens_sent C ws C.outs));
        store = storing ws;
      },
    )

-- the plain value of a gate's wire
abbrev pub gate_value : FromPlain ℕ
gate_value C vs g = get_or vs (C.ins + g) 0

-- part 1 is the value, the others are 0
abbrev pub bare : FromPlain Parts
bare C vs g = record { at1 = gate_value C vs g; at2 = 0; at3 = 0 }

-- site 1 deals the value, the others deal 0, and nobody draws
abbrev pub bare_bits : FromPlain (List ℕ)
bare_bits C vs g = deal_bits (deal bits (gate_value C vs g) 0 0) ++ (deal_bits (deal bits 0 0 0) ++ deal_bits (deal bits 0 0 0))

-- "a made-up traffic table": a fixed one, or whatever else takes no look at the circuit's steps
abbrev pub makes_up_a_table : (ℕ → ℕ → ℕ → List (List ℕ)) → TableEngine
makes_up_a_table table file = (table (inputs_of file) (gates_of file) (outputs_of file), 0, 0)
