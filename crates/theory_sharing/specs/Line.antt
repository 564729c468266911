-- 01: "The line is one byte per sent bit, xored onto it. The transcript is the delivered bits in this order. Both have
-- 4I+12A+6O bytes, at most 42,496."
--     at_input, at_gate, at_output    where a step's bits begin, in the order of Order.antt
--     errors C l                      what a line adds, by step
-- A line that is too short adds nothing where it ends, so the empty line is the clean one.
use Rattle.std.specs.Prelude.{List, ℕ, ◌+◌, ◌*◌, get_or}
use Rattle.theory_sharing.specs.Circuit.{Circuit, Errors, ands, all_ands}

unfoldable pub at_input : ℕ → ℕ
at_input i = 4 * i

unfoldable pub at_gate : Circuit → ℕ → ℕ
at_gate C g = 4 * C.ins + 12 * ands C.gate g

unfoldable pub at_output : Circuit → ℕ → ℕ
at_output C o = 4 * C.ins + 12 * all_ands C + 6 * o

unfoldable pub errors : Circuit → List ℕ → Errors
errors C l = record {
  on_input = λ i k. get_or l (at_input i + k) 0;
  on_gate = λ g k. get_or l (at_gate C g + k) 0;
  on_output = λ o k. get_or l (at_output C o + k) 0;
}
