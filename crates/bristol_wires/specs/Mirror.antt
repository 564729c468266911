-- What a line does to the map of wires, to our gates and to what is known, as code computes it. No public contract cites these.
--     entry_of, ours_of, next_entry    one more than our number of a wire; the number; the entry that the next gate gets
--     fault_of, line_verdict           15, 16, 17 of a line, 0 for none; the verdict on it
--     kind_of_two, gate_put            1 XOR, 2 AND; a gate behind those that are there
--     map_after, gates_after, text_after    what a good line leaves
use Rattle.std.specs.Prelude.{Bool, not, cond, ◌&&◌, List, [], ◌∷◌, ℕ, ◌+◌, ◌*◌, ◌-◌, get_or, set, leb, ltb, eqb, Option, None, Some}
use Rattle.theory_calls.specs.Checks.{Verdict, accepted, refuses}
use Rattle.theory_files.specs.Written.{gate_bytes}
use Rattle.file_writer.specs.Mirror.{write}
use Rattle.bristol_text.specs.declared.Says.{Says}
use Rattle.bristol_text.specs.declared.Says.TheVariants.{Blank, Counts, Widths, Other, Xor, And, Inv, Eqw}
use Rattle.bristol_wires.specs.declared.Text.{Text}

unfoldable pub entry_of : List ℕ → ℕ → ℕ → ℕ
entry_of m I w = cond (ltb w I) (cond (ltb w 1024) (w + 1) 1) (get_or m w 0)

unfoldable pub ours_of : List ℕ → ℕ → ℕ → ℕ
ours_of m I w = entry_of m I w - 1

unfoldable pub next_entry : Text → ℕ
next_entry t = cond (leb t.ins 1024) (cond (leb t.made 3072) (t.ins + t.made + 1) 1) 1

abbrev pub is_written : List ℕ → ℕ → ℕ → Bool
is_written m I w = not (eqb (entry_of m I w) 0)

unfoldable pub two_fault_of : List ℕ → ℕ → ℕ → ℕ → ℕ → ℕ
two_fault_of m I x y z = cond (is_written m I x && is_written m I y && eqb (entry_of m I z) 0) 0 17

abbrev pub gate_fault : Text → ℕ → ℕ
gate_fault t f = cond (eqb t.left 0) 15 f

unfoldable pub fault_of : Text → List ℕ → Option Says → ℕ
fault_of t m None = 15
fault_of t m (Some Blank) = 0
fault_of t m (Some (Counts g w)) = 0
fault_of t m (Some (Widths v s)) = 0
fault_of t m (Some Other) = gate_fault t 16
fault_of t m (Some (Xor x y z)) = gate_fault t (two_fault_of m t.ins x y z)
fault_of t m (Some (And x y z)) = gate_fault t (two_fault_of m t.ins x y z)
fault_of t m (Some (Inv x z)) = gate_fault t (two_fault_of m t.ins x x z)
fault_of t m (Some (Eqw x z)) = gate_fault t (two_fault_of m t.ins x x z)

abbrev pub line_verdict : ℕ → ℕ → Verdict
line_verdict f n = cond (eqb f 0) accepted (refuses f n)

abbrev pub kind_of_two : Says → ℕ
kind_of_two (Xor x y z) = 1
kind_of_two _ = 2

unfoldable pub gate_put : ℕ → ℕ → ℕ → ℕ → List ℕ → List ℕ
gate_put made k a b g = cond (ltb made 3072) (write (6 * made) (gate_bytes ((k, a, b) ∷ [])) g) g

unfoldable pub map_after : Text → List ℕ → Option Says → List ℕ
map_after t m None = m
map_after t m (Some Blank) = m
map_after t m (Some (Counts g w)) = m
map_after t m (Some (Widths v s)) = m
map_after t m (Some Other) = m
map_after t m (Some (Xor x y z)) = set m z (next_entry t)
map_after t m (Some (And x y z)) = set m z (next_entry t)
map_after t m (Some (Inv x z)) = set m z (next_entry t)
map_after t m (Some (Eqw x z)) = set m z (entry_of m t.ins x)

unfoldable pub gates_after : Text → List ℕ → Option Says → List ℕ → List ℕ
gates_after t m None g = g
gates_after t m (Some Blank) g = g
gates_after t m (Some (Counts n w)) g = g
gates_after t m (Some (Widths v s)) g = g
gates_after t m (Some Other) g = g
gates_after t m (Some (Xor x y z)) g = gate_put t.made 1 (ours_of m t.ins x) (ours_of m t.ins y) g
gates_after t m (Some (And x y z)) g = gate_put t.made 2 (ours_of m t.ins x) (ours_of m t.ins y) g
gates_after t m (Some (Inv x z)) g = gate_put t.made 3 (ours_of m t.ins x) 0 g
gates_after t m (Some (Eqw x z)) g = g

unfoldable pub one_more : ℕ → ℕ
one_more made = cond (leb made 3072) (made + 1) made

unfoldable pub after_counts : Text → ℕ → ℕ → Text
after_counts t g w = record { stage = 1; wires = w; values = t.values; ins = t.ins; outs = t.outs; left = g; made = t.made }

unfoldable pub after_widths : Text → ℕ → ℕ → Text
after_widths t v s =
    cond (eqb t.stage 1)
    (record { stage = 2; wires = t.wires; values = v; ins = s; outs = t.outs; left = t.left; made = t.made })
    (record { stage = 3; wires = t.wires; values = t.values; ins = t.ins; outs = s; left = t.left; made = t.made })

unfoldable pub after_gate : Text → ℕ → Text
after_gate t made = record { stage = t.stage; wires = t.wires; values = t.values; ins = t.ins; outs = t.outs; left = t.left - 1; made = made }

unfoldable pub text_after : Text → Option Says → Text
text_after t None = t
text_after t (Some Blank) = t
text_after t (Some (Counts g w)) = after_counts t g w
text_after t (Some (Widths v s)) = after_widths t v s
text_after t (Some Other) = t
text_after t (Some (Xor x y z)) = after_gate t (one_more t.made)
text_after t (Some (And x y z)) = after_gate t (one_more t.made)
text_after t (Some (Inv x z)) = after_gate t (one_more t.made)
text_after t (Some (Eqw x z)) = after_gate t t.made

unfoldable pub nothing_read : Text
nothing_read = record { stage = 0; wires = 0; values = 0; ins = 0; outs = 0; left = 0; made = 0 }
