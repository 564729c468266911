-- The run of the three sites, for every line: what each holds of every wire, every delivered bit, where it stops.
--     after C x T E g       each site's pair of every wire, after the inputs and the first g gates
--     gates_delivered            the bits delivered so far
--     output, copies_at     the wire of an output; the two copies that each site gets there
--     objects               the sum of the sites that object there
--     stop                  the first output at which a site objects, or O
--     made                  how many outputs are opened, the last one perhaps in vain
--     transcript            the delivered bits of a whole run
--     opened_at, outputs    what the sites open
use Rattle.std.specs.Prelude.{not, List, [], ◌∷◌, ◌++◌, ℕ, zero, suc, min, get_or, eqb}
use Rattle.theory_sharing.specs.Ops.{Ops}
use Rattle.theory_sharing.specs.Sites.{Trio}
use Rattle.theory_sharing.specs.Circuit.{Circuit, Draws, Errors}
use Rattle.theory_sharing.specs.Published.{deal}
use Rattle.theory_sharing.specs.Steps.{Pair, Wire, no_wire, in_wire, delivered, gate_wire, gate_delivered, six, copies, objecting, opened}
use Rattle.theory_sharing.specs.First.{first}

module _ (R : Ops) (C : Circuit) (x : ℕ → ℕ) (T : Draws) (E : Errors) where
  unfoldable pub ins_after : ℕ → List Wire
  ins_after zero = []
  ins_after (suc i) = ins_after i ++ (in_wire R (E.on_input i) (C.owner i) (deal R (x i) (T.in1 i) (T.in2 i)) ∷ [])

  unfoldable pub after : ℕ → List Wire
  after zero = ins_after C.ins
  after (suc g) = after g ++ (gate_wire R (E.on_gate g) (T.g1 g) (T.g2 g) (C.gate g) (after g) ∷ [])

  unfoldable pub ins_delivered : ℕ → List ℕ
  ins_delivered zero = []
  ins_delivered (suc i) = ins_delivered i ++ delivered R (E.on_input i) (deal R (x i) (T.in1 i) (T.in2 i))

  unfoldable pub gates_delivered : ℕ → List ℕ
  gates_delivered zero = ins_delivered C.ins
  gates_delivered (suc g) = gates_delivered g ++ gate_delivered R (E.on_gate g) (T.g1 g) (T.g2 g) (C.gate g) (after g)

  unfoldable pub output : ℕ → Wire
  output o = get_or (after C.gates) (C.out o) no_wire

  unfoldable pub out_delivered : ℕ → List ℕ
  out_delivered o = six R (E.on_output o) (output o)

  abbrev pub copies_at : ℕ → Trio Pair
  copies_at o = copies (out_delivered o)

  unfoldable pub objects : ℕ → ℕ
  objects o = objecting (copies_at o)

  -- 01: "If any site objects at an output, the run ends there as an abort."
  unfoldable pub stop : ℕ
  stop = first (λ (o : ℕ). not (eqb (objects o) 0)) C.outs

  unfoldable pub opens_delivered : ℕ → List ℕ
  opens_delivered zero = gates_delivered C.gates
  opens_delivered (suc o) = opens_delivered o ++ out_delivered o

  -- 01: "the transcript holds everything through that opening's six bits"
  unfoldable pub made : ℕ
  made = min (suc stop) C.outs

  unfoldable pub transcript : List ℕ
  transcript = opens_delivered made

  unfoldable pub opened_at : ℕ → Trio ℕ
  opened_at o = opened R (copies_at o) (output o)

  -- 01: "for each output what site 1, 2 and 3 opened"
  unfoldable pub outputs : ℕ → List ℕ
  outputs zero = []
  outputs (suc o) = outputs o ++ ((opened_at o).at1 ∷ (opened_at o).at2 ∷ (opened_at o).at3 ∷ [])
