-- What the passes over inputs, gates and outputs compute, on a run's state. No public contract cites these: laws tie them to sharing's run.
--     St, st            the store, the transcript and the running places
--     Small             places that a sum does not take past a number's end
--     next_pos          the places after an AND or OR
--     and_on, gate_on   a gate, as the document names it
--     step_by           a gate as a step;  Below, deals, step_on: the wires that it reads, its deals, the state after it
--     Lower             a gate reads lower wires
--     Room, InRoom      there is room for so many more AND and OR gates; for so many inputs
--     own_place, in_pos, input_on    an input: where on its owner's tape its draws stand, the places after it, the state after it
--     inputs_on, gates_on    a state after the first k inputs, and after the first k gates
--     opening           what is delivered at an opening;  open_on, opens_on: the transcript after it, and after the first k
--     objects_on        the sites that object there
--     hand_on, hands_on what is handed over for an output, and for the first k
use Rattle.std.specs.Prelude.{cond, List, ℕ, ◌+◌, ◌*◌, ◌≤◌, ◌<◌, get_or, set, eqb}
use Rattle.theory_sharing.specs.Ops.{bits}
use Rattle.theory_sharing.specs.Circuit.{Gate, XOR, AND, OR, NOT, owned}
use Rattle.theory_sharing.specs.Sites.{Site, s1, s2, s3}
use Rattle.theory_calls.specs.File.{circuit, owner_at}
use Rattle.file_parts.specs.Loop.{up_to}
use Rattle.run_messages.specs.Mirror.{deal_at, line_at, on_line, in_pairs, on_line_six, objects_of, opened_of}
use Rattle.run_steps.specs.Mirror.{add_gate, not_gate, sends, takes, on_lines, put_four, put_twelve, put_held, held_at, put_six}
use Rattle.run_messages.specs.declared.Held.{Held}
use Rattle.run_messages.specs.declared.Three.{Three}
use Rattle.run_steps.specs.declared.Pos.{Pos}
use Rattle.run_passes.specs.declared.Step.{Step}
use Rattle.run_passes.specs.declared.Step.TheVariants.{Add, Flip, Deal}

pub record St : Type 0 where
  pub store : List ℕ
  pub tr : List ℕ
  pub pos : Pos

abbrev pub st : List ℕ → List ℕ → Pos → St
st store tr pos = record { store = store; tr = tr; pos = pos }

abbrev pub placed : ℕ → ℕ → ℕ → ℕ → Pos
placed t1 t2 t3 at = record { t1 = t1; t2 = t2; t3 = t3; at = at }

abbrev pub Small : Pos → Type 0
Small p = (p.t1 ≤ 65536) × (p.t2 ≤ 65536) × (p.t3 ≤ 65536) × (p.at ≤ 65536)

unfoldable pub next_pos : Pos → Pos
next_pos p = placed (p.t1 + 2) (p.t2 + 2) (p.t3 + 2) (p.at + 12)

-- AND (o is 0) and OR (o is 1): what the sites send, what is delivered, what they take
unfoldable pub and_on : List ℕ → List ℕ → ℕ → ℕ → ℕ → ℕ → ℕ → St → St
and_on tapes line n a b w o x =
    let s = sends bits tapes n a b o x.pos.t1 x.pos.t2 x.pos.t3 x.store in
    let g = on_lines bits (line_at line x.pos.at) s in
    st (takes bits n w o s g x.store) (put_twelve x.pos.at g x.tr) (next_pos x.pos)

-- wire w becomes this gate's, of n wires
unfoldable pub gate_on : List ℕ → List ℕ → ℕ → ℕ → Gate → St → St
gate_on tapes line n w (XOR a b) x = st (add_gate bits n a b w x.store) x.tr x.pos
gate_on tapes line n w (AND a b) x = and_on tapes line n a b w 0 x
gate_on tapes line n w (OR a b) x = and_on tapes line n a b w 1 x
gate_on tapes line n w (NOT a) x = st (not_gate bits n a w x.store) x.tr x.pos

-- what the sites do at a gate
abbrev pub step_by : Gate → Step
step_by (XOR a b) = Add a b
step_by (AND a b) = Deal a b 0
step_by (OR a b) = Deal a b 1
step_by (NOT a) = Flip a

abbrev pub step_on : List ℕ → List ℕ → ℕ → ℕ → Step → St → St
step_on tapes line n w (Add a b) x = st (add_gate bits n a b w x.store) x.tr x.pos
step_on tapes line n w (Flip a) x = st (not_gate bits n a w x.store) x.tr x.pos
step_on tapes line n w (Deal a b o) x = and_on tapes line n a b w o x

abbrev pub deals : Step → ℕ
deals (Add a b) = 0
deals (Flip a) = 0
deals (Deal a b o) = 1

abbrev pub Below : Step → ℕ → Type 0
Below (Add a b) w = (a < w) × (b < w)
Below (Flip a) w = a < w
Below (Deal a b o) w = (a < w) × (b < w)

abbrev pub Lower : Gate → ℕ → Type 0
Lower (XOR a b) w = (a < w) × (b < w)
Lower (AND a b) w = (a < w) × (b < w)
Lower (OR a b) w = (a < w) × (b < w)
Lower (NOT a) w = (a < w) × (0 < w)

-- for m more AND and OR gates, in tapes, line and transcript of these lengths
pub record Room (m tapes line tr : ℕ) (pos : Pos) : Type 0 where
  pub one : pos.t1 + 2 * m ≤ tapes
  pub two : pos.t2 + 2 * m ≤ tapes
  pub thr : pos.t3 + 2 * m ≤ tapes
  pub lin : pos.at + 12 * m ≤ line
  pub trn : pos.at + 12 * m ≤ tr
  pub few_tapes : tapes ≤ 65536
  pub few_line : line ≤ 65536

-- for n inputs of these owners
pub record InRoom (f : ℕ → Site) (n tapes line tr : ℕ) (pos : Pos) : Type 0 where
  pub one : pos.t1 + 2 * owned f s1 n ≤ tapes
  pub two : pos.t2 + 2 * owned f s2 n ≤ tapes
  pub thr : pos.t3 + 2 * owned f s3 n ≤ tapes
  pub lin : pos.at + 4 * n ≤ line
  pub trn : pos.at + 4 * n ≤ tr
  pub few_tapes : tapes ≤ 65536
  pub few_line : line ≤ 65536

-- ---- inputs, by the owner's number
unfoldable pub own_place : ℕ → Pos → ℕ
own_place owner p = cond (eqb owner 1) p.t1 (cond (eqb owner 2) p.t2 p.t3)

unfoldable pub in_pos : ℕ → Pos → Pos
in_pos owner p =
    cond (eqb owner 1) (placed (p.t1 + 2) p.t2 p.t3 (p.at + 4))
    (cond (eqb owner 2) (placed p.t1 (p.t2 + 2) p.t3 (p.at + 4)) (placed p.t1 p.t2 (p.t3 + 2) (p.at + 4)))

unfoldable pub input_on : List ℕ → List ℕ → ℕ → ℕ → ℕ → ℕ → St → St
input_on tapes line n w v owner x =
    let k = deal_at bits tapes (own_place owner x.pos) v in
    let g = on_line bits (line_at line x.pos.at) k in
    st (put_held n w (in_pairs owner k g) x.store) (put_four x.pos.at g x.tr) (in_pos owner x.pos)

-- ---- the two passes, for a file with I inputs of n wires
abbrev pub inputs_on : List ℕ → List ℕ → List ℕ → List ℕ → ℕ → St → ℕ → St
inputs_on file xs tapes line n x k = up_to (λ i. input_on tapes line n i (get_or xs i 0) (owner_at file i)) x k

abbrev pub gates_on : List ℕ → List ℕ → List ℕ → ℕ → ℕ → St → ℕ → St
gates_on file tapes line i n x k = up_to (λ g. gate_on tapes line n (i + g) ((circuit file).gate g)) x k

-- ---- openings, from place at of line and transcript on; a store of n wires
module _ (file line store : List ℕ) (n at : ℕ) where
  -- what is delivered at output k
  unfoldable pub opening : ℕ → Held
  opening k = on_line_six bits (line_at line (at + 6 * k)) (held_at n ((circuit file).out k) store)

  unfoldable pub objects_on : ℕ → ℕ
  objects_on k = objects_of (opening k)

  unfoldable pub open_on : ℕ → List ℕ → List ℕ
  open_on k tr = put_six (at + 6 * k) (opening k) tr

  abbrev pub opens_on : List ℕ → ℕ → List ℕ
  opens_on tr k = up_to open_on tr k

-- ---- outputs handed over: each site's pair and the copy it got first, which stands in the transcript
unfoldable pub put_three : ℕ → Three → List ℕ → List ℕ
put_three at m l = set (set (set l at m.a) (at + 1) m.b) (at + 2) m.c

module _ (file tr store : List ℕ) (n at : ℕ) where
  unfoldable pub hand_on : ℕ → List ℕ → List ℕ
  hand_on k outs =
      put_three (3 * k) (opened_of bits (held_at n ((circuit file).out k) store) (get_or tr (at + 6 * k + 3) 0) (get_or tr (at + 6 * k) 0) (get_or tr (at + 6 * k + 1) 0)) outs

  abbrev pub hands_on : List ℕ → ℕ → List ℕ
  hands_on outs k = up_to hand_on outs k
