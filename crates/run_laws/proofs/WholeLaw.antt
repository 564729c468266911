-- What the passes of a checked file leave, with wires at their own numbers: the document's store, transcript and places.
--     lower_is      the operands of a checked gate are there
--     whole_law     inputs and gates
use mathlib.Core.Path.{◌≡◌, refl, sym, ap, ◌∙◌}
use mathlib.Core.List.{List}
use Prim.Native.Nat.{ℕ, ◌+◌, ◌*◌, ◌≤◌, ◌<◌}
use native.Mathlib.Omega.{arith}
use lib.ListN.{length}
use Rattle.theory_sharing.specs.Ops.{bits}
use Rattle.theory_sharing.specs.Circuit.{Gate, XOR, AND, OR, NOT, Circuit, wires, all_ands}
use Rattle.theory_sharing.specs.Run.{after, gates_delivered}
use Rattle.theory_sharing.specs.Tapes.{read}
use Rattle.theory_sharing.specs.Line.{errors}
use Rattle.theory_sharing.specs.Store.{store, fill}
use Rattle.theory_calls.specs.File.{circuit, owner_at}
use Rattle.theory_calls.specs.Calls.{at_wire}
use Rattle.file_parts.specs.Loop.{up_to}
use Rattle.run_passes.specs.Mirror.{St, st, Lower, gate_on, inputs_on, gates_on}
use Rattle.run_laws.specs.Loops.{place, in_place}
use Rattle.run_laws.specs.Places.{Operands, as_is}
use Rattle.run_laws.proofs.WireLaws.{operands}
use Rattle.run_laws.proofs.StoredLaws.{moved_none, live_as_is, all_stored}
use Rattle.run_laws.proofs.PassesAtPlaces.{st_eq, state_after, inputs_placed, gates_placed, begins}

pub lower_is : (k : Gate) (w : ℕ) → Lower k w → Operands (λ a. a < w) k
lower_is (XOR a b) w p = p
lower_is (AND a b) w p = p
lower_is (OR a b) w p = p
lower_is (NOT a) w p = p.0

module _ (f xs tapes line old tr : List ℕ) (e : length old ≡ 6 * wires (circuit f)) (r : 4 * (circuit f).ins + 12 * all_ands (circuit f) ≤ length tr) where
  abbrev C : Circuit
  C = circuit f

  abbrev n : ℕ
  n = wires C

  abbrev x : ℕ → ℕ
  x = at_wire xs

  -- inputs and gates: nothing is left of what was in the store
  pub whole_law : ((k : ℕ) → k < C.gates → Lower (C.gate k) (C.ins + k))
      → gates_on f tapes line C.ins n (inputs_on f xs tapes line n (st old tr (in_place C 0)) C.ins) C.gates
      ≡ st (store (after bits C x (read C tapes) (errors C line) C.gates)) (fill tr (gates_delivered bits C x (read C tapes) (errors C line) C.gates)) (place C (all_ands C))
  whole_law l =
      let low : (k : ℕ) → k < C.gates → Operands (λ a. a < C.ins + k) (C.gate k) = λ k b. lower_is (C.gate k) (C.ins + k) (l k b) in
      ap (λ (y : St). gates_on f tapes line C.ins n y C.gates)
      (inputs_placed C x tapes line n as_is old e tr (owner_at f) C.ins (omega arith) (λ k l. refl) (omega arith) ∙ begins C x tapes line n as_is old e tr)
      ∙ ap (λ (m : Gate → Gate). up_to (λ k. gate_on tapes line n (C.ins + k) (m (C.gate k))) (state_after C x tapes line n as_is old e tr 0) C.gates) (λ i k. sym (moved_none k) i)
      ∙ gates_placed C x tapes line n as_is old e tr C.gates (omega arith) low (λ k b. operands (λ a. live_as_is n (C.ins + k) a (omega arith)) (C.gate k) (low k b)) r
      ∙ st_eq (all_stored C x (read C tapes) (errors C line) n refl old e) refl refl
