-- What a site's steps compute on its work room and on the next site's new tape. No public contract cites these: laws tie them to
-- sharing's re-taping.
--     Fits               there is room on three tapes for so many more deals
--     St, st             the work room, the next site's new tape, and the running places
--     further            places so many bits further on; two of them after an AND or OR
--     flip_by, flipped   part 1 added to, where a site holds it
--     operand, operand_at    an operand of an AND; a wire as one
--     mixed              an AND: the site's new pair, the next site's two draws
--     put_two            two draws on a tape
--     put_wire, wire_in  a wire's pair in the work room, written and read
--     and_on, xor_on, not_on, gate_on    a gate;  step_on: by its step
use Rattle.std.specs.Prelude.{List, ℕ, ◌+◌, ◌*◌, ◌≤◌, get_or, set}
use Rattle.theory_sharing.specs.Ops.{bits}
use Rattle.theory_sharing.specs.Sites.{Site, s1, s2, s3}
use Rattle.theory_sharing.specs.Circuit.{Gate, XOR, AND, OR, NOT}
use Rattle.theory_sharing.specs.Steps.{Pair, add_pair, local}
use Rattle.theory_sharing.specs.Retape.{rest, next_product}
use Rattle.run_site.specs.Mirror.{pair_at, put_at}
use Rattle.run_messages.specs.Mirror.{two, pair_of}
use Rattle.run_messages.specs.declared.Two.{Two}
use Rattle.run_steps.specs.Mirror.{lent, on_part}
use Rattle.run_passes.specs.declared.Step.{Step}
use Rattle.run_passes.specs.declared.Step.TheVariants.{Add, Flip, Deal}
use Rattle.retape_pairs.specs.declared.Places.{Places}
use Rattle.retape_pairs.specs.declared.Mixed.{Mixed}

-- for m more deals of each site, on tapes of these lengths
pub record Fits (m own next prev : ℕ) (at : Places) : Type 0 where
  pub one : at.own + 2 * m ≤ own
  pub two : at.next + 2 * m ≤ next
  pub thr : at.prev + 2 * m ≤ prev
  pub few_own : own ≤ 65536
  pub few_next : next ≤ 65536
  pub few_prev : prev ≤ 65536

pub record St : Type 0 where
  pub room : List ℕ
  pub moved : List ℕ
  pub at : Places

abbrev pub st : List ℕ → List ℕ → Places → St
st room moved at = record { room = room; moved = moved; at = at }

abbrev pub places : ℕ → ℕ → ℕ → Places
places a b c = record { own = a; next = b; prev = c }

abbrev pub further : Places → ℕ → Places
further p t = places (p.own + t) (p.next + t) (p.prev + t)

abbrev pub flip_by : Site → ℕ → Pair → Pair
flip_by s1 o p = (bits.add p.0 o, p.1)
flip_by s2 o p = p
flip_by s3 o p = (p.0, bits.add p.1 o)

unfoldable pub flipped : Site → ℕ → Two → Two
flipped s o p = two (flip_by s o (pair_of p)).0 (flip_by s o (pair_of p)).1

-- an operand of an AND: the site's pair, and the wire's value under the first inputs and under the second
pub record Operand : Type 0 where
  pub pair : Two
  pub first : ℕ
  pub second : ℕ

abbrev pub operand : Two → ℕ → ℕ → Operand
operand p u y = record { pair = p; first = u; second = y }

unfoldable pub mixed : List ℕ → List ℕ → List ℕ → Places → Operand → Operand → Mixed
mixed own next prev at p q =
    let a : ℕ = get_or own at.own 0 in
    let b : ℕ = get_or own (at.own + 1) 0 in
    let c : ℕ = get_or next at.next 0 in
    let d : ℕ = get_or next (at.next + 1) 0 in
    let first : ℕ = next_product bits (pair_of p.pair) p.first (pair_of q.pair) q.first in
    let second : ℕ = next_product bits (pair_of p.pair) p.second (pair_of q.pair) q.second in
    record {
      pair = two (bits.add (rest bits (local bits (pair_of p.pair) (pair_of q.pair)) a b) (bits.add d (get_or prev at.prev 0)))
          (bits.add a (bits.add (rest bits first c d) (get_or prev (at.prev + 1) 0)));
      first = bits.add c (bits.sub second first);
      second = d;
    }

unfoldable pub put_two : ℕ → ℕ → ℕ → List ℕ → List ℕ
put_two at x y l = set (set l at x) (at + 1) y

-- ---- the work room, of n wires
abbrev pub wire_in : ℕ → ℕ → List ℕ → Pair
wire_in n w l = pair_at (lent (2 * n) (4 * n) l) w

abbrev pub put_wire : ℕ → ℕ → Pair → List ℕ → List ℕ
put_wire n w v l = on_part (2 * n) (4 * n) (put_at w v) l

-- an operand with part 1 flipped by o: the pair, the two values
unfoldable pub operand_at : Site → ℕ → ℕ → ℕ → List ℕ → Operand
operand_at s n w o l =
    operand (flipped s o (two (wire_in n w l).0 (wire_in n w l).1)) (bits.add (get_or l w 0) o) (bits.add (get_or l (n + w) 0) o)

unfoldable pub xor_on : ℕ → ℕ → ℕ → ℕ → List ℕ → List ℕ
xor_on n a b w l = put_wire n w (add_pair bits (wire_in n a l) (wire_in n b l)) l

unfoldable pub not_on : Site → ℕ → ℕ → ℕ → List ℕ → List ℕ
not_on s n a w l = put_wire n w (pair_of (flipped s 1 (two (wire_in n a l).0 (wire_in n a l).1))) l

module _ (s : Site) (own next prev : List ℕ) (n : ℕ) where
  -- AND (o is 0) and OR (o is 1), whose operands and result have part 1 flipped
  unfoldable pub and_on : ℕ → ℕ → ℕ → ℕ → St → St
  and_on a b w o x =
      let l : List ℕ = x.room in
      let m : Mixed = mixed own next prev x.at (operand_at s n a o l) (operand_at s n b o l) in
      st (put_wire n w (pair_of (flipped s o m.pair)) l) (put_two x.at.next m.first m.second x.moved) (further x.at 2)

  -- wire w becomes this gate's
  unfoldable pub gate_on : ℕ → Gate → St → St
  gate_on w (XOR a b) x = st (xor_on n a b w x.room) x.moved x.at
  gate_on w (AND a b) x = and_on a b w 0 x
  gate_on w (OR a b) x = and_on a b w 1 x
  gate_on w (NOT a) x = st (not_on s n a w x.room) x.moved x.at

  -- by the step that a gate is
  abbrev pub step_on : ℕ → Step → St → St
  step_on w (Add a b) x = st (xor_on n a b w x.room) x.moved x.at
  step_on w (Flip a) x = st (not_on s n a w x.room) x.moved x.at
  step_on w (Deal a b o) x = and_on a b w o x
