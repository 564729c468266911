-- What the passes over inputs and gates compute for one site on a clean line, and the states that they go through. The state is that of a
-- run (run_passes' St), with the bits delivered to the site in place of the transcript. No public contract cites these: laws tie them to sharing's views.
--     pair_of_site, four_of_site       of three pairs the site's; of the twelve bits of an AND or OR the four that reach it
--     put_two, see_two, past_two       two delivered bits; the same unless they are the site's own; the place after them
--     past_and                         the places after an AND or OR
--     input_seen, and_seen, gate_seen, step_seen, gates_seen    a state after an input, after a gate, after the first k gates
--     ins_seen, state_seen             the document's states after the first i inputs, and after all inputs and the first g gates
--     start_seen                       where it begins
--     AndRoom, Seeing, Begun           there is room for so many AND and OR gates; every length; the state is one that inputs lead to
use Rattle.std.specs.Prelude.{◌≡◌, Bool, true, false, List, ℕ, ◌+◌, ◌*◌, ◌≤◌, length, set}
use Rattle.theory_sharing.specs.Ops.{bits}
use Rattle.theory_sharing.specs.Sites.{Site, s1, s2, s3}
use Rattle.theory_sharing.specs.Circuit.{Gate, XOR, AND, OR, NOT, Circuit, Draws, no_errors, ands, all_ands, all_owned}
use Rattle.theory_sharing.specs.Tapes.{read}
use Rattle.theory_sharing.specs.Store.{fill}
use Rattle.theory_sharing.proofs.Seen.{ins_got, gates_got}
use Rattle.theory_calls.specs.File.{circuit}
use Rattle.theory_calls.specs.Checks.{tapes_want}
use Rattle.file_header.specs.declared.Counts.{Counts}
use Rattle.file_parts.specs.Checked.{Checked}
use Rattle.run_messages.specs.Mirror.{four, deal_at, in_pairs}
use Rattle.run_steps.specs.Mirror.{add_gate, not_gate, sends, takes, put_four, put_held}
use Rattle.run_messages.specs.declared.Two.{Two}
use Rattle.run_messages.specs.declared.Four.{Four}
use Rattle.run_messages.specs.declared.Twelve.{Twelve}
use Rattle.run_messages.specs.declared.Held.{Held}
use Rattle.run_steps.specs.declared.Pos.{Pos}
use Rattle.run_passes.specs.declared.Step.{Step}
use Rattle.run_passes.specs.declared.Step.TheVariants.{Add, Flip, Deal}
use Rattle.run_passes.specs.Mirror.{St, st, placed, own_place, in_pos}
use Rattle.run_laws.specs.Loops.{place, in_place}
use Rattle.run_laws.specs.Places.{as_is, stored}
use Rattle.file_parts.specs.Loop.{up_to}

unfoldable pub pair_of_site : Site → Held → Two
pair_of_site s1 h = h.p1
pair_of_site s2 h = h.p2
pair_of_site s3 h = h.p3

unfoldable pub four_of_site : Site → Twelve → Four
four_of_site s1 m = four m.s2.c m.s2.d m.s3.a m.s3.b
four_of_site s2 m = four m.s1.a m.s1.b m.s3.c m.s3.d
four_of_site s3 m = four m.s1.c m.s1.d m.s2.a m.s2.b

unfoldable pub put_two : ℕ → Two → List ℕ → List ℕ
put_two at p l = set (set l at p.x) (at + 1) p.y

-- whether the input is its own
unfoldable pub see_two : Bool → ℕ → Two → List ℕ → List ℕ
see_two true at p l = l
see_two false at p l = put_two at p l

unfoldable pub past_two : Bool → ℕ → ℕ
past_two true at = at
past_two false at = at + 2

-- the same places on the tapes
abbrev pub with_at : Pos → ℕ → Pos
with_at p a = placed p.t1 p.t2 p.t3 a

unfoldable pub past_and : Pos → Pos
past_and p = placed (p.t1 + 2) (p.t2 + 2) (p.t3 + 2) (p.at + 4)

-- ---- a step
unfoldable pub input_seen : Site → List ℕ → ℕ → ℕ → ℕ → ℕ → Bool → St → St
input_seen s tapes n w v owner own x =
    let k = deal_at bits tapes (own_place owner x.pos) v in
    st (put_held n w (in_pairs owner k k) x.store) (see_two own x.pos.at (pair_of_site s (in_pairs owner k k)) x.tr)
    (with_at (in_pos owner x.pos) (past_two own x.pos.at))

unfoldable pub and_seen : Site → List ℕ → ℕ → ℕ → ℕ → ℕ → ℕ → St → St
and_seen s tapes n a b w o x =
    let m = sends bits tapes n a b o x.pos.t1 x.pos.t2 x.pos.t3 x.store in
    st (takes bits n w o m m x.store) (put_four x.pos.at (four_of_site s m) x.tr) (past_and x.pos)

unfoldable pub gate_seen : Site → List ℕ → ℕ → ℕ → Gate → St → St
gate_seen s tapes n w (XOR a b) x = st (add_gate bits n a b w x.store) x.tr x.pos
gate_seen s tapes n w (AND a b) x = and_seen s tapes n a b w 0 x
gate_seen s tapes n w (OR a b) x = and_seen s tapes n a b w 1 x
gate_seen s tapes n w (NOT a) x = st (not_gate bits n a w x.store) x.tr x.pos

-- by the step that a gate is
abbrev pub step_seen : Site → List ℕ → ℕ → ℕ → Step → St → St
step_seen s tapes n w (Add a b) x = st (add_gate bits n a b w x.store) x.tr x.pos
step_seen s tapes n w (Flip a) x = st (not_gate bits n a w x.store) x.tr x.pos
step_seen s tapes n w (Deal a b o) x = and_seen s tapes n a b w o x

abbrev pub gates_seen : Site → List ℕ → List ℕ → ℕ → ℕ → St → ℕ → St
gates_seen s file tapes i n x k = up_to (λ g. gate_seen s tapes n (i + g) ((circuit file).gate g)) x k

-- ---- the document's states, over a store l and delivered bits old of whatever was there before
module _ (s : Site) (C : Circuit) (x : ℕ → ℕ) (T : Draws) (n : ℕ) (l old : List ℕ) where
  unfoldable pub ins_seen : ℕ → St
  ins_seen i =
      st (stored C x T no_errors n as_is l i) (fill old (ins_got bits s C x T i)) (with_at (in_place C i) (length (ins_got bits s C x T i)))

  unfoldable pub state_seen : ℕ → St
  state_seen g =
      st (stored C x T no_errors n as_is l (C.ins + g)) (fill old (gates_got bits s C x T g))
      (with_at (place C (ands C.gate g)) (length (gates_got bits s C x T g)))

abbrev pub start_seen : Circuit → Pos
start_seen C = in_place C 0

-- ---- room
pub record AndRoom (m tapes got : ℕ) (pos : Pos) : Type 0 where
  pub one : pos.t1 + 2 * m ≤ tapes
  pub two : pos.t2 + 2 * m ≤ tapes
  pub thr : pos.t3 + 2 * m ≤ tapes
  pub del : pos.at + 4 * m ≤ got
  pub few_tapes : tapes ≤ 65536
  pub few_got : got ≤ 65536

pub record Seeing (f : List ℕ) (c : Counts) (s : Site) (tapes got store : ℕ) : Type 0 where
  pub checked : Checked f c
  pub lt : tapes ≡ tapes_want (circuit f)
  pub lg : got + 2 * all_owned (circuit f) s ≡ 2 * (circuit f).ins + 4 * all_ands (circuit f) + 2 * (circuit f).outs
  pub ls : store ≡ 6 * (c.inputs + c.gates)

pub record Begun (f : List ℕ) (s : Site) (tapes : List ℕ) (n got : ℕ) (y : St) : Type 0 where
  pub x : ℕ → ℕ
  pub l : List ℕ
  pub old : List ℕ
  pub fits : length l ≡ 6 * n
  pub long : length old ≡ got
  pub is : y ≡ state_seen s (circuit f) x (read (circuit f) tapes) n l old 0
