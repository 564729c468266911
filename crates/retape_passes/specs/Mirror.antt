-- What the pass over inputs and gates computes for a site, and the states between its steps as the document has them.
-- No public contract cites these.
--     around             three things by site, as a site sees them: its own, the next one's, the one's before
--     step_own, step_next, step_prev    whose tape an input is dealt from, as the code asks for it
--     InFits             there is room for an input's draws
--     Lengths            the three tapes and the new one have their lengths
--     input_on           an input
--     room_with          a work room: both sets of plain values, and the site's pairs as far as they are made
--     in_state, state    work room, new tape and places after the first i inputs, and after the first g gates
--     gates_on           what the gates' pass leaves of a state
--     Walked             what both passes leave
use Rattle.std.specs.Prelude.{◌≡◌, Bool, true, false, cond, List, [], ◌++◌, ℕ, ◌+◌, ◌*◌, ◌≤◌, get_or}
use Rattle.theory_sharing.specs.Ops.{bits}
use Rattle.theory_sharing.specs.Sites.{Site, s1, s2, s3, next, prev, Trio}
use Rattle.theory_sharing.specs.Circuit.{Circuit, Draws, ands, owned, all_owned}
use Rattle.theory_sharing.specs.Published.{Parts, ins_parts, parts}
use Rattle.theory_sharing.specs.Tapes.{tape_length, draws, ins_tape, tape}
use Rattle.theory_sharing.specs.Retape.{mine, rest, retape}
use Rattle.theory_sharing.specs.Store.{side, fill}
use Rattle.retape_pairs.specs.declared.Places.{Places}
use Rattle.theory_calls.specs.File.{circuit}
use Rattle.theory_calls.specs.Calls.{at_wire}
use Rattle.theory_calls.specs.AtBits.{both_plain}
use Rattle.retape_pairs.specs.Mirror.{St, st, places, put_two, put_wire, gate_on}
use Rattle.file_parts.specs.Loop.{up_to}

abbrev pub around : {A : Type 0} → Site → A → A → A → Trio A
around s1 o n p = record { at1 = o; at2 = n; at3 = p }
around s2 o n p = record { at1 = p; at2 = o; at3 = n }
around s3 o n p = record { at1 = n; at2 = p; at3 = o }

-- of a site itself, and of the next one
unfoldable pub step_own : Bool → Bool → ℕ
step_own a b = cond a 1 0

unfoldable pub step_next : Bool → Bool → ℕ
step_next a b = cond a 0 (cond b 1 0)

unfoldable pub step_prev : Bool → Bool → ℕ
step_prev a b = cond a 0 (cond b 0 1)

pub record InFits (a b : Bool) (own next prev : ℕ) (at : Places) : Type 0 where
  pub one : at.own + 2 * step_own a b ≤ own
  pub two : at.next + 2 * step_next a b ≤ next
  pub thr : at.prev + 2 * step_prev a b ≤ prev
  pub few_own : own ≤ 65536
  pub few_next : next ≤ 65536
  pub few_prev : prev ≤ 65536

pub record Lengths (C : Circuit) (s : Site) (own next' prev' moved : ℕ) : Type 0 where
  pub own_is : own ≡ tape_length C s
  pub next_is : next' ≡ tape_length C (next s)
  pub prev_is : prev' ≡ tape_length C (prev s)
  pub moved_is : moved ≡ next'
  pub few_own : own ≤ 65536
  pub few_next : next' ≤ 65536
  pub few_prev : prev' ≤ 65536

-- input k with value x, under the second inputs y: of the site itself, of the next one, of the one before
module _ (own next prev : List ℕ) (n k x y : ℕ) where
  unfoldable pub input_on : Bool → Bool → St → St
  input_on true b q =
      let d : ℕ = get_or own q.at.own 0 in
      let e : ℕ = get_or own (q.at.own + 1) 0 in
      st (put_wire n k (rest bits x d e, d) q.room) q.moved (places (q.at.own + 2) q.at.next q.at.prev)
  input_on false true q =
      let d : ℕ = get_or next q.at.next 0 in
      let e : ℕ = get_or next (q.at.next + 1) 0 in
      st (put_wire n k (e, rest bits x d e) q.room) (put_two q.at.next (bits.add d (bits.sub y x)) e q.moved)
      (places q.at.own (q.at.next + 2) q.at.prev)
  input_on false false q =
      st (put_wire n k (get_or prev q.at.prev 0, get_or prev (q.at.prev + 1) 0) q.room) q.moved
      (places q.at.own q.at.next (q.at.prev + 2))

unfoldable pub room_with : Site → List ℕ → List ℕ → List Parts → List ℕ
room_with s values old ps = values ++ (fill old (side (mine s) ps) ++ [])

-- from tapes as site s sees them, first inputs x and second ones y; over what stood in the work room and on the new tape
module _ (s : Site) (C : Circuit) (x y : ℕ → ℕ) (own nx pv : List ℕ) (values old fresh : List ℕ) where
  abbrev pub drawn : Draws
  drawn = draws C (around s own nx pv)

  unfoldable pub in_state : ℕ → St
  in_state i =
      st (room_with s values old (ins_parts bits C x drawn i)) (fill fresh (ins_tape C (retape bits s C x y drawn) (next s) i))
      (places (2 * owned C.owner s i) (2 * owned C.owner (next s) i) (2 * owned C.owner (prev s) i))

  unfoldable pub state : ℕ → St
  state g =
      st (room_with s values old (parts bits C x drawn g)) (fill fresh (tape C (retape bits s C x y drawn) (next s) g))
      (places (2 * (all_owned C s + ands C.gate g)) (2 * (all_owned C (next s) + ands C.gate g)) (2 * (all_owned C (prev s) + ands C.gate g)))

-- a state after the first k gates of a file with i inputs and n wires
abbrev pub gates_on : List ℕ → Site → List ℕ → List ℕ → List ℕ → ℕ → ℕ → St → ℕ → St
gates_on file s own nx pv i n q k = up_to (λ g. gate_on s own nx pv n (i + g) ((circuit file).gate g)) q k

-- what both passes leave: plain values and the site's pairs, and the next site's tape with new draws
pub record Walked (s : Site) (C : Circuit) (xs ys own nx pv room moved : List ℕ) : Type 0 where
  pub pairs_are : room ≡ both_plain C xs ys ++ side (mine s) (parts bits C (at_wire xs) (draws C (around s own nx pv)) C.gates)
  pub moved_is : moved ≡ tape C (retape bits s C (at_wire xs) (at_wire ys) (draws C (around s own nx pv))) (next s) C.gates
