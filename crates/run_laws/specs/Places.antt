-- Gates at any places and in any order, on wires by number.
--     Operands          something of each wire that a gate reads
--     moved             a gate, with the places of its operands in the place of their numbers
--     Drawn             what the tapes hold at three places
--     gate_by, told_by  the wire that a gate makes and the bits that it has delivered, of wires by number
--     sent_at           what is sent at an AND or OR
--     gate_at, tell_at  a gate of three sites on the store, and on the transcript
--     puts              the store after k puts: the i'th is wire v i, at place σ (v i)
--     Live              a wire was put, and nothing over it since
--     wire_of, stored   the wires of a run by number; the store after the first k, over whatever was there before
--     as_is             each wire at its own number; wires in order
use Rattle.std.specs.Prelude.{List, [], ◌≡◌, ℕ, zero, suc, ◌+◌, ◌<◌, get_or}
use Rattle.theory_sharing.specs.Ops.{Ops, bits}
use Rattle.theory_sharing.specs.Sites.{Site, Trio, of}
use Rattle.theory_sharing.specs.Circuit.{Gate, XOR, AND, OR, NOT, Circuit, Draws, Errors}
use Rattle.theory_sharing.specs.Steps.{Wire, no_wire, add_wire, flip, mul_wire, deals, delivered3}
use Rattle.theory_sharing.specs.Run.{after}
use Rattle.run_messages.specs.declared.Twelve.{Twelve}
use Rattle.run_steps.specs.Mirror.{add_gate, not_gate, sends, takes, on_lines, put_twelve}
use Rattle.run_laws.specs.Link.{put_wire}

abbrev pub Operands : (ℕ → Type 0) → Gate → Type 0
Operands P (XOR a b) = P a × P b
Operands P (AND a b) = P a × P b
Operands P (OR a b) = P a × P b
Operands P (NOT a) = P a

unfoldable pub moved : (ℕ → ℕ) → Gate → Gate
moved σ (XOR a b) = XOR (σ a) (σ b)
moved σ (AND a b) = AND (σ a) (σ b)
moved σ (OR a b) = OR (σ a) (σ b)
moved σ (NOT a) = NOT (σ a)

-- the draws α and β stand at places t of the tapes
abbrev pub Drawn : List ℕ → Trio ℕ → (Site → ℕ) → (Site → ℕ) → Type 0
Drawn tapes t α β = ((s : Site) → get_or tapes (of t s) 0 ≡ α s) × ((s : Site) → get_or tapes (of t s + 1) 0 ≡ β s)

-- e is the line's error on each bit of the step, α and β the sites' draws
module _ (R : Ops) (e : ℕ → ℕ) (α β : Site → ℕ) where
  unfoldable pub gate_by : Gate → (ℕ → Wire) → Wire
  gate_by (XOR a b) W = add_wire R (W a) (W b)
  gate_by (AND a b) W = mul_wire R e α β (W a) (W b)
  gate_by (OR a b) W = flip R (mul_wire R e α β (flip R (W a)) (flip R (W b)))
  gate_by (NOT a) W = flip R (W a)

  unfoldable pub told_by : Gate → (ℕ → Wire) → List ℕ
  told_by (XOR a b) W = []
  told_by (AND a b) W = delivered3 R e (deals R α β (W a) (W b))
  told_by (OR a b) W = delivered3 R e (deals R α β (flip R (W a)) (flip R (W b)))
  told_by (NOT a) W = []

-- what is sent at an AND (o is 0) or OR (o is 1) of places a and b, from the draws at places t of the tapes
abbrev pub sent_at : Ops → List ℕ → ℕ → Trio ℕ → ℕ → ℕ → ℕ → List ℕ → Twelve
sent_at R tapes n t o a b l = sends R tapes n a b o t.at1 t.at2 t.at3 l

module _ (R : Ops) (tapes : List ℕ) (e : ℕ → ℕ) (n : ℕ) (t : Trio ℕ) where
  -- place w becomes this gate's wire
  unfoldable pub gate_at : ℕ → Gate → List ℕ → List ℕ
  gate_at w (XOR a b) l = add_gate R n a b w l
  gate_at w (AND a b) l = takes R n w 0 (sent_at R tapes n t 0 a b l) (on_lines R e (sent_at R tapes n t 0 a b l)) l
  gate_at w (OR a b) l = takes R n w 1 (sent_at R tapes n t 1 a b l) (on_lines R e (sent_at R tapes n t 1 a b l)) l
  gate_at w (NOT a) l = not_gate R n a w l

  -- and its bits are told, from place at on
  unfoldable pub tell_at : ℕ → Gate → List ℕ → List ℕ → List ℕ
  tell_at at (XOR a b) l tr = tr
  tell_at at (AND a b) l tr = put_twelve at (on_lines R e (sent_at R tapes n t 0 a b l)) tr
  tell_at at (OR a b) l tr = put_twelve at (on_lines R e (sent_at R tapes n t 1 a b l)) tr
  tell_at at (NOT a) l tr = tr

-- the i'th put is wire v i, at its place
module _ (n : ℕ) (σ : ℕ → ℕ) (W : ℕ → Wire) (v : ℕ → ℕ) where
  unfoldable pub puts : ℕ → List ℕ → List ℕ
  puts zero l = l
  puts (suc k) l = put_wire n (σ (v k)) (W (v k)) (puts k l)

-- after k puts: wire a was the i'th, and nothing has been put over it since
pub record Live (n : ℕ) (σ v : ℕ → ℕ) (k a : ℕ) : Type 0 where
  pub fits : σ a < n
  pub when : ℕ
  pub before : when < k
  pub itself : v when ≡ a
  pub kept : (j : ℕ) → when < j → j < k → σ (v j) ≡ σ a → ⊥

-- ---- the wires of a run
abbrev pub as_is : ℕ → ℕ
as_is w = w

-- wire w of a whole run
abbrev pub wire_of : Ops → Circuit → (ℕ → ℕ) → Draws → Errors → ℕ → Wire
wire_of R C x T E w = get_or (after R C x T E C.gates) w no_wire

-- wire w at place σ w, the first k of them, over a store l of whatever was there before
abbrev pub stored : Circuit → (ℕ → ℕ) → Draws → Errors → ℕ → (ℕ → ℕ) → List ℕ → ℕ → List ℕ
stored C x T E n σ l k = puts n σ (wire_of bits C x T E) as_is k l
