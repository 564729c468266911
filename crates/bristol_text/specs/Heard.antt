-- What the lines of a text have said, one after the other, and what is wrong with a line behind those before it.
--     Heard             header lines so far, gates said, wires, widths of inputs and of outputs, gate lines so far in order
--     heard ls          behind the lines ls
--     known, written    wire w is an input, or a gate line wrote it
--     line_fault h l    15, 16 or 17 for a line, 0 for none
--     out_wires h       "Inputs are the lowest wires, outputs the highest."
--     complete h        all three header lines, and as many gates as said
use Rattle.std.specs.Prelude.{Bool, true, false, not, cond, ◌&&◌, ◌||◌, List, [], ◌∷◌, ◌++◌, ℕ, zero, suc, ◌-◌, length, ltb, eqb}
use Rattle.bristol_text.specs.Words.{words}
use Rattle.bristol_text.specs.Lines.{Line, blank, bad, counts, widths, other_word, xor_gate, and_gate, inv_gate, eqw_gate, total, line_says}

pub record Heard : Type 0 where
  pub stage : ℕ  -- header lines so far: 0, 1, 2 or 3
  pub said : ℕ
  pub wires : ℕ
  pub ins : List ℕ
  pub outs : List ℕ
  pub gates : List Line

unfoldable pub nothing_heard : Heard
nothing_heard = record { stage = 0; said = 0; wires = 0; ins = []; outs = []; gates = [] }

unfoldable pub hear_widths : ℕ → Heard → List ℕ → Heard
hear_widths zero h ws = h
hear_widths (suc zero) h ws = record { stage = 2; said = h.said; wires = h.wires; ins = ws; outs = h.outs; gates = h.gates }
hear_widths (suc (suc k)) h ws = record { stage = 3; said = h.said; wires = h.wires; ins = h.ins; outs = ws; gates = h.gates }

abbrev pub hear_gate : Heard → Line → Heard
hear_gate h l = record { stage = h.stage; said = h.said; wires = h.wires; ins = h.ins; outs = h.outs; gates = h.gates ++ (l ∷ []) }

unfoldable pub hear : Heard → Line → Heard
hear h blank = h
hear h bad = h
hear h (counts g w) = record { stage = 1; said = g; wires = w; ins = h.ins; outs = h.outs; gates = h.gates }
hear h (widths ws) = hear_widths h.stage h ws
hear h other_word = h
hear h (xor_gate x y z) = hear_gate h (xor_gate x y z)
hear h (and_gate x y z) = hear_gate h (and_gate x y z)
hear h (inv_gate x z) = hear_gate h (inv_gate x z)
hear h (eqw_gate x z) = hear_gate h (eqw_gate x z)

-- a line of bytes, as it is read behind what was heard
abbrev pub says : Heard → List ℕ → Line
says h l = line_says h.stage h.wires (words l)

unfoldable pub heard_from : Heard → List (List ℕ) → Heard
heard_from h [] = h
heard_from h (l ∷ ls) = heard_from (hear h (says h l)) ls

abbrev pub heard : List (List ℕ) → Heard
heard ls = heard_from nothing_heard ls

-- the wire that a gate line writes
unfoldable pub writes : Line → ℕ → Bool
writes (xor_gate x y z) w = eqb w z
writes (and_gate x y z) w = eqb w z
writes (inv_gate x z) w = eqb w z
writes (eqw_gate x z) w = eqb w z
writes blank w = false
writes bad w = false
writes (counts g v) w = false
writes (widths ws) w = false
writes other_word w = false

unfoldable pub any_writes : List Line → ℕ → Bool
any_writes [] w = false
any_writes (l ∷ ls) w = writes l w || any_writes ls w

-- "an input counts as written": of I inputs and the gate lines ls
abbrev pub known : ℕ → List Line → ℕ → Bool
known I ls w = ltb w I || any_writes ls w

abbrev pub written : Heard → ℕ → Bool
written h w = known (total h.ins) h.gates w

-- "17 a wire read before it is written or written twice"
abbrev pub two_fault : Heard → ℕ → ℕ → ℕ → ℕ
two_fault h x y z = cond (written h x && written h y && not (written h z)) 0 17

abbrev pub one_fault : Heard → ℕ → ℕ → ℕ
one_fault h x z = cond (written h x && not (written h z)) 0 17

-- "there are as many gates as said": a gate line beyond them is no good text, whatever stands on it
abbrev pub within : Heard → ℕ → ℕ
within h n = cond (ltb (length h.gates) h.said) n 15

-- "in this order on one line, 15 text not good, 16 any other gate word, 17 .."
unfoldable pub line_fault : Heard → Line → ℕ
line_fault h blank = 0
line_fault h bad = 15
line_fault h (counts g w) = 0
line_fault h (widths ws) = 0
line_fault h other_word = within h 16
line_fault h (xor_gate x y z) = within h (two_fault h x y z)
line_fault h (and_gate x y z) = within h (two_fault h x y z)
line_fault h (inv_gate x z) = within h (one_fault h x z)
line_fault h (eqw_gate x z) = within h (one_fault h x z)

-- "outputs the highest"
unfoldable pub count_up : ℕ → ℕ → List ℕ
count_up a zero = []
count_up a (suc n) = a ∷ count_up (suc a) n

abbrev pub out_wires : Heard → List ℕ
out_wires h = count_up (h.wires - total h.outs) (total h.outs)

unfoldable pub all_written : Heard → List ℕ → Bool
all_written h [] = true
all_written h (w ∷ ws) = written h w && all_written h ws

-- "there are as many gates as said"
abbrev pub complete : Heard → Bool
complete h = eqb h.stage 3 && eqb (length h.gates) h.said
