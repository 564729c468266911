-- A circuit as its numbers say it, and what is counted in it. Nothing here asks that it is a good one.
--     Gate          XOR, AND, OR of two wires, NOT of one
--     Circuit       "I inputs, G gates, O outputs": counts, owners, gates and output wires by number
--     wires         W = I + G
--     dealing       1 for a gate that is shared anew (AND, OR), else 0
--     ands          A: "A is the number of AND and OR gates", of the first n
--     owned         Is: the inputs of a site, of the first n
--     Draws         what the tapes give, by purpose: two draws for each sharing
--     Errors        what the line adds, by step: the k'th bit of an input, of a gate, of an opening
-- Draws and errors stand by purpose and not by their place on a tape or on the line: those places are Tapes.antt and Line.antt.
use Rattle.std.specs.Prelude.{cond, ℕ, zero, suc, ◌+◌}
use Rattle.theory_sharing.specs.Sites.{Site, is}

-- 01: "Kinds: 1 XOR, 2 AND, 3 NOT (second is 0 and reads nothing), 4 OR." Over a group XOR is the sum and AND the product.
pub data Gate : Type 0 where
  XOR AND OR : ℕ → ℕ → Gate
  NOT : ℕ → Gate

pub record Circuit : Type 0 where
  pub ins : ℕ
  pub gates : ℕ
  pub outs : ℕ
  pub owner : ℕ → Site
  pub gate : ℕ → Gate
  pub out : ℕ → ℕ

-- 01: "There are W = I+G wires"
abbrev pub wires : Circuit → ℕ
wires C = C.ins + C.gates

unfoldable pub dealing : Gate → ℕ
dealing (XOR a b) = 0
dealing (AND a b) = 1
dealing (OR a b) = 1
dealing (NOT a) = 0

unfoldable pub ands : (ℕ → Gate) → ℕ → ℕ
ands f zero = 0
ands f (suc n) = ands f n + dealing (f n)

unfoldable pub owned : (ℕ → Site) → Site → ℕ → ℕ
owned f s zero = 0
owned f s (suc n) = owned f s n + cond (is s (f n)) 1 0

-- A, and Is, of a whole circuit
abbrev pub all_ands : Circuit → ℕ
all_ands C = ands C.gate C.gates

abbrev pub all_owned : Circuit → Site → ℕ
all_owned C s = owned C.owner s C.ins

-- 01, steps 1 and 4: "two tape bits become parts s+1 and s+2": the first and the second draw of an input, and of a site at a gate
pub record Draws : Type 0 where
  pub in1 : ℕ → ℕ
  pub in2 : ℕ → ℕ
  pub g1 : ℕ → Site → ℕ
  pub g2 : ℕ → Site → ℕ

-- 01: "The line is one byte per sent bit, xored onto it." By step: on_gate g k goes onto the k'th bit that gate g sends.
pub record Errors : Type 0 where
  pub on_input : ℕ → ℕ → ℕ
  pub on_gate : ℕ → ℕ → ℕ
  pub on_output : ℕ → ℕ → ℕ

abbrev pub none : ℕ → ℕ
none k = 0

abbrev pub no_errors : Errors
no_errors = record { on_input = λ i. none; on_gate = λ g. none; on_output = λ o. none }
