-- The engine's passes with wires at any places: the store is that of the puts, the transcript and the places on tapes and line are as ever.
--     st_eq, gate_on_is              a state by its three parts; a gate of the engine by them
--     gate_placed, gates_placed      one gate; all gates
--     input_placed, inputs_placed    one input; all inputs
--     begins                         the gates begin where the inputs end
use mathlib.Core.Path.{◌≡◌, refl, sym, ap, ◌∙◌}
use mathlib.Core.List.{List, ◌++◌}
use Prim.Native.Nat.{ℕ, zero, suc, ◌+◌, ◌*◌, ◌≤◌, ◌<◌}
use native.Mathlib.Omega.{arith}
use lib.ListN.{length}
use Rattle.theory_sharing.specs.Ops.{bits}
use Rattle.theory_sharing.specs.Circuit.{Gate, XOR, AND, OR, NOT, Circuit, Draws, Errors, ands}
use Rattle.theory_sharing.specs.Published.{Deal, deal}
use Rattle.theory_sharing.specs.Run.{ins_delivered, gates_delivered}
use Rattle.theory_sharing.specs.Tapes.{read}
use Rattle.theory_sharing.specs.Line.{at_input, at_gate, errors}
use Rattle.theory_sharing.specs.Store.{fill}
use Rattle.theory_sharing.proofs.RunLaws.{ins_length, gates_length}
use Rattle.theory_calls.specs.File.{site_of}
use Rattle.file_parts.specs.Loop.{up_to}
use Rattle.run_messages.specs.Mirror.{line_at, on_line, in_pairs}
use Rattle.run_messages.specs.declared.Four.{Four}
use Rattle.run_steps.specs.Mirror.{put_four, put_held}
use Rattle.run_steps.specs.declared.Pos.{Pos}
use Rattle.run_passes.specs.Mirror.{St, st, and_on, gate_on, in_pos, input_on}
use Rattle.run_passes.proofs.PassLaws.{placed_eq, one_more, in_pos_is}
use Rattle.run_laws.specs.Loops.{place, in_places, in_place}
use Rattle.run_laws.specs.Places.{Operands, moved, gate_at, tell_at, puts, Live, wire_of, as_is, stored}
use Rattle.run_laws.proofs.FillLaws.{put_link4}
use Rattle.run_laws.proofs.GateReads.{bits_zero, tell_reads}
use Rattle.run_laws.proofs.WireLaws.{operands, wires_told}
use Rattle.run_laws.proofs.StoredLaws.{input_stored, stored_long, stored_reads, gate_stored}
use Rattle.run_laws.proofs.DrawLaws.{in_place_suc, deal_is, spots, drawn, pos_after, gate_pos}

-- a state by its three parts
pub st_eq : {a b c d : List ℕ} {p q : Pos} → a ≡ c → b ≡ d → p ≡ q → st a b p ≡ st c d q
st_eq p q r = λ i. st (p i) (q i) (r i)

-- the engine's gate is a gate on the store, one on the transcript, and the places after it
pub gate_on_is : (tapes line : List ℕ) (n w : ℕ) (σ : ℕ → ℕ) (k : Gate) (s tr : List ℕ) (p : Pos)
    → gate_on tapes line n w (moved σ k) (st s tr p)
    ≡ st (gate_at bits tapes (line_at line p.at) n (record { at1 = p.t1; at2 = p.t2; at3 = p.t3 }) w (moved σ k) s)
    (tell_at bits tapes (line_at line p.at) n (record { at1 = p.t1; at2 = p.t2; at3 = p.t3 }) p.at (moved σ k) s tr) (gate_pos k p)
unfolding gate_on and_on gate_at tell_at moved
gate_on_is tapes line n w σ (XOR a b) s tr p = refl
gate_on_is tapes line n w σ (AND a b) s tr p = refl
gate_on_is tapes line n w σ (OR a b) s tr p = refl
gate_on_is tapes line n w σ (NOT a) s tr p = refl

module _ (C : Circuit) (x : ℕ → ℕ) (tapes line : List ℕ) (n : ℕ) (σ : ℕ → ℕ) (l : List ℕ) (hl : length l ≡ 6 * n) (tr : List ℕ) where
  abbrev T : Draws
  T = read C tapes

  abbrev E : Errors
  E = errors C line

  abbrev S : ℕ → List ℕ
  S = stored C x T E n σ l

  abbrev pub state_after : ℕ → St
  state_after g = st (S (C.ins + g)) (fill tr (gates_delivered bits C x T E g)) (place C (ands C.gate g))

  -- one gate
  pub gate_placed : (g : ℕ) → g < C.gates → Operands (λ a. a < C.ins + g) (C.gate g) → Operands (Live n σ as_is (C.ins + g)) (C.gate g)
      → 4 * C.ins + 12 * ands C.gate (suc g) ≤ length tr
      → gate_on tapes line n (σ (C.ins + g)) (moved σ (C.gate g)) (state_after g) ≡ state_after (suc g)
  unfolding place errors at_gate gates_delivered ands
  gate_placed g h low live r =
      let k : Gate = C.gate g in
      let m : ℕ = ands C.gate g in
      let w : ℕ = C.ins + g in
      let said : List ℕ = gates_delivered bits C x T E g in
      gate_on_is tapes line n (σ w) σ k (S w) (fill tr said) (place C m)
      ∙ st_eq (gate_stored C x T E n σ l hl tapes (spots C tapes g) g h low live (drawn C tapes g h))
      (tell_reads bits tapes (E.on_gate g) n (spots C tapes g) (T.g1 g) (T.g2 g) (S w) (stored_long C x T E n σ l hl w) bits_zero σ (wire_of bits C x T E) k
      (operands (stored_reads C x T E n σ l hl w) k live) (drawn C tapes g h) tr said (4 * C.ins + 12 * m) (gates_length bits C x T E g) (omega arith)
      ∙ ap (λ (z : List ℕ). fill tr (said ++ z)) (sym (wires_told bits C x T E g h low)))
      (pos_after C m k)

  -- the first g gates
  pub gates_placed : (g : ℕ) → g ≤ C.gates → ((k : ℕ) → k < g → Operands (λ a. a < C.ins + k) (C.gate k)) → ((k : ℕ) → k < g → Operands (Live n σ as_is (C.ins + k)) (C.gate k))
      → 4 * C.ins + 12 * ands C.gate g ≤ length tr
      → up_to (λ k. gate_on tapes line n (σ (C.ins + k)) (moved σ (C.gate k))) (state_after 0) g ≡ state_after g
  unfolding up_to ands
  gates_placed zero h low live r = refl
  gates_placed (suc g) h low live r =
      ap (gate_on tapes line n (σ (C.ins + g)) (moved σ (C.gate g))) (gates_placed g (omega arith) (λ k q. low k (omega arith)) (λ k q. live k (omega arith)) (omega arith))
      ∙ gate_placed g h (low g (omega arith)) (live g (omega arith)) r

  -- ---- inputs
  abbrev pub in_after : ℕ → St
  in_after i = st (S i) (fill tr (ins_delivered bits C x T E i)) (in_place C i)

  -- one input
  pub input_placed : (i owner : ℕ) → i < C.ins → C.owner i ≡ site_of owner → 4 * i + 4 ≤ length tr → input_on tapes line n (σ i) (x i) owner (in_after i) ≡ in_after (suc i)
  unfolding input_on in_places errors at_input ins_delivered
  input_placed i owner h q r =
      let done : List ℕ = ins_delivered bits C x T E i in
      let e : ℕ → ℕ = E.on_input i in
      let D : Deal = deal bits (x i) (T.in1 i) (T.in2 i) in
      ap (λ (k : Four). st (put_held n (σ i) (in_pairs owner k (on_line bits e k)) (S i)) (put_four (4 * i) (on_line bits e k) (fill tr done)) (in_pos owner (in_place C i)))
      (deal_is C x tapes i owner h q)
      ∙ st_eq (input_stored C x T E n σ l i owner h q D refl) (put_link4 bits tr done (4 * i) e D (ins_length bits C x T E i) r)
      (in_pos_is owner (in_place C i) ∙ ap (one_more (in_place C i)) (sym q) ∙ in_place_suc C i)

  -- all inputs, whose owners are the numbers own
  pub inputs_placed : (own : ℕ → ℕ) (i : ℕ) → i ≤ C.ins → ((k : ℕ) → k < i → C.owner k ≡ site_of (own k)) → 4 * i ≤ length tr
      → up_to (λ k. input_on tapes line n (σ k) (x k) (own k)) (st l tr (in_place C 0)) i ≡ in_after i
  unfolding up_to puts ins_delivered fill
  inputs_placed own zero h q r = refl
  inputs_placed own (suc i) h q r =
      ap (input_on tapes line n (σ i) (x i) (own i)) (inputs_placed own i (omega arith) (λ k b. q k (omega arith)) (omega arith)) ∙ input_placed i (own i) h (q i (omega arith)) (omega arith)

  -- the gates begin where the inputs end
  pub begins : in_after C.ins ≡ state_after 0
  unfolding gates_delivered ands place in_places
  begins = st_eq (ap S (let e : C.ins ≡ C.ins + 0 = omega arith in e)) refl (placed_eq (omega arith) (omega arith) (omega arith) (omega arith))
