-- What the proofs of a run cite.
--     inputs_ready, gates_ready      what the passes have room for
--     shared                         what they leave in store and transcript
-- Assumes nothing.
use mathlib.Core.Path.{◌≡◌, sym, ap, ◌∙◌, subst}
use mathlib.Core.List.{List}
use Prim.Native.Nat.{ℕ, ◌+◌, ◌*◌, ◌≤◌}
use native.Mathlib.Omega.{arith}
use lib.ListN.{length}
use Rattle.theory_sharing.specs.Sites.{s1, s2, s3}
use Rattle.theory_sharing.specs.Circuit.{Circuit, wires, ands, all_ands, owned, all_owned}
use Rattle.theory_sharing.specs.Tapes.{tape_length}
use Rattle.theory_calls.specs.File.{inputs_of, gates_of, circuit}
use Rattle.file_header.specs.declared.Counts.{Counts}
use Rattle.run_steps.specs.declared.Pos.{Pos}
use Rattle.run_passes.specs.Mirror.{St, st, Room, InRoom, inputs_on, gates_on}
use Rattle.run_passes.proofs.PassLaws.{lower_of, in_moved, inputs_pos}
use Rattle.run_laws.specs.Loops.{place}
use Rattle.run_laws.proofs.WholeLaw.{whole_law}
use Rattle.theory_sharing.specs.Ops.{bits}
use Rattle.theory_sharing.specs.Run.{after, gates_delivered}
use Rattle.theory_sharing.specs.Tapes.{read}
use Rattle.theory_sharing.specs.Line.{errors}
use Rattle.theory_sharing.specs.Store.{store, fill}
use Rattle.theory_sharing.proofs.TapeLaws.{tapes_length}
use Rattle.theory_calls.specs.Calls.{at_wire}
use Rattle.theory_calls.proofs.Limits.{ands_most}
use Rattle.run_laws.specs.Loops.{base, in_places, in_place}
use Rattle.check_given.specs.Mirror.{counts_of}
use Rattle.check_given.proofs.GivenLaws.{counts_are}
use Rattle.run.specs.Mirror.{Ready}

-- ---- what the passes have room for, at the counts that stand in the file
module _ (f : List ℕ) (x t l r s : ℕ) (d : Ready f (counts_of f) x t l r s) where
  abbrev C : Circuit
  C = circuit f

  small : (t ≤ 65536) × (l ≤ 65536)
  small =
      let a = d.checked.opened.few_inputs in let b = d.checked.opened.few_gates in let e = d.checked.opened.few_outputs in
      let m = ands_most C.gate C.gates in let p = d.lt in let q = d.ll in
      (omega arith, omega arith)

  module _ (pos : Pos) (e : pos ≡ in_place C 0) where
    pub in_room : InRoom C.owner (inputs_of f) t l r pos
    unfolding in_places base tape_length owned
    in_room =
        let e1 : pos.t1 ≡ 0 = ap (λ (z : Pos). z.t1) e in
        let e2 : pos.t2 ≡ 2 * (all_owned C s1 + all_ands C) + 0 = ap (λ (z : Pos). z.t2) e in
        let e3 : pos.t3 ≡ 2 * (all_owned C s1 + all_ands C) + 2 * (all_owned C s2 + all_ands C) + 0 = ap (λ (z : Pos). z.t3) e in
        let e4 : pos.at ≡ 0 = ap (λ (z : Pos). z.at) e in
        let k = tapes_length C in let p = d.lt in let q = d.ll in let u = d.lr in
        record { one = omega arith; two = omega arith; thr = omega arith; lin = omega arith; trn = omega arith; few_tapes = small.0; few_line = small.1 }

    -- after the inputs
    pub gates_room : (xs tapes line old tr : List ℕ) (y : St) → y ≡ inputs_on f xs tapes line (wires C) (st old tr pos) (inputs_of f) → Room (all_ands C) t l r y.pos
    unfolding in_places base tape_length owned
    gates_room xs tapes line old tr y q =
        let m : y.pos ≡ in_moved (λ w. owned C.owner w (inputs_of f)) (inputs_of f) pos = ap (λ (z : St). z.pos) q ∙ inputs_pos f xs tapes line (wires C) (st old tr pos) (inputs_of f) in
        let m1 : y.pos.t1 ≡ pos.t1 + 2 * all_owned C s1 = ap (λ (z : Pos). z.t1) m in
        let m2 : y.pos.t2 ≡ pos.t2 + 2 * all_owned C s2 = ap (λ (z : Pos). z.t2) m in
        let m3 : y.pos.t3 ≡ pos.t3 + 2 * all_owned C s3 = ap (λ (z : Pos). z.t3) m in
        let m4 : y.pos.at ≡ pos.at + 4 * inputs_of f = ap (λ (z : Pos). z.at) m in
        let e1 : pos.t1 ≡ 0 = ap (λ (z : Pos). z.t1) e in
        let e2 : pos.t2 ≡ 2 * (all_owned C s1 + all_ands C) + 0 = ap (λ (z : Pos). z.t2) e in
        let e3 : pos.t3 ≡ 2 * (all_owned C s1 + all_ands C) + 2 * (all_owned C s2 + all_ands C) + 0 = ap (λ (z : Pos). z.t3) e in
        let e4 : pos.at ≡ 0 = ap (λ (z : Pos). z.at) e in
        let k = tapes_length C in let p = d.lt in let v = d.ll in let u = d.lr in
        record { one = omega arith; two = omega arith; thr = omega arith; lin = omega arith; trn = omega arith; few_tapes = small.0; few_line = small.1 }

-- what stands in store and transcript after inputs and gates, and where the openings begin
abbrev pub Shared : List ℕ → List ℕ → List ℕ → List ℕ → List ℕ → List ℕ → List ℕ → ℕ → Type 0
Shared f xs tapes line tr s' t' at =
    let C = circuit f in
    (at ≡ 4 * C.ins + 12 * all_ands C) × (s' ≡ store (after bits C (at_wire xs) (read C tapes) (errors C line) C.gates))
    × (t' ≡ fill tr (gates_delivered bits C (at_wire xs) (read C tapes) (errors C line) C.gates))

-- at the counts that stand in the file
shared_at : (f xs tapes line old tr : List ℕ) → Ready f (counts_of f) (length xs) (length tapes) (length line) (length tr) (length old) → (pos : Pos) → pos ≡ in_place (circuit f) 0
    → (y : St) → y ≡ inputs_on f xs tapes line (wires (circuit f)) (st old tr pos) (inputs_of f) → (z : St) → z ≡ gates_on f tapes line (inputs_of f) (wires (circuit f)) y (gates_of f)
    → Shared f xs tapes line tr z.store z.tr z.pos.at
unfolding place
shared_at f xs tapes line old tr d pos e y ey z ez =
    let C : Circuit = circuit f in
    let a = d.lr in
    let w = ez ∙ ap (λ (v : St). gates_on f tapes line (inputs_of f) (wires C) v (gates_of f)) (ey ∙ ap (λ (q : Pos). inputs_on f xs tapes line (wires C) (st old tr q) (inputs_of f)) e)
    ∙ whole_law f xs tapes line old tr d.ls (omega arith) (λ k h. lower_of _ _ _ _ (d.checked.gates k h)) in
    (ap (λ (v : St). v.pos.at) w, ap (λ (v : St). v.store) w, ap (λ (v : St). v.tr) w)

-- and so at the counts that the code holds
module _ (f : List ℕ) (c : Counts) where
  pub inputs_ready : (x t l r s : ℕ) (pos : Pos) → Ready f c x t l r s → pos ≡ in_place (circuit f) 0 → InRoom (circuit f).owner c.inputs t l r pos
  inputs_ready x t l r s pos d =
      subst (λ (n : Counts). Ready f n x t l r s → pos ≡ in_place (circuit f) 0 → InRoom (circuit f).owner n.inputs t l r pos)
      (sym (counts_are f c d.checked.opened)) (λ k e. in_room f x t l r s k pos e) d

  pub gates_ready : (xs tapes line old tr : List ℕ) (k : ℕ) (pos : Pos) (y : St) → Ready f c (length xs) (length tapes) (length line) (length tr) (length old)
      → pos ≡ in_place (circuit f) 0 → k ≡ length tr → y ≡ inputs_on f xs tapes line (c.inputs + c.gates) (st old tr pos) c.inputs
      → Room (ands (circuit f).gate c.gates) (length tapes) (length line) k y.pos
  gates_ready xs tapes line old tr k pos y d e h =
      subst (λ (n : Counts). Ready f n (length xs) (length tapes) (length line) (length tr) (length old) → y ≡ inputs_on f xs tapes line (n.inputs + n.gates) (st old tr pos) n.inputs
      → Room (ands (circuit f).gate n.gates) (length tapes) (length line) k y.pos)
      (sym (counts_are f c d.checked.opened))
      (λ j q. subst (λ (m : ℕ). Room (all_ands (circuit f)) (length tapes) (length line) m y.pos) (sym h) (gates_room f _ _ _ _ _ j pos e xs tapes line old tr y q)) d

  pub shared : (xs tapes line old tr : List ℕ) (pos : Pos) (y z : St) → Ready f c (length xs) (length tapes) (length line) (length tr) (length old)
      → pos ≡ in_place (circuit f) 0 → y ≡ inputs_on f xs tapes line (c.inputs + c.gates) (st old tr pos) c.inputs
      → z ≡ gates_on f tapes line c.inputs (c.inputs + c.gates) y c.gates → Shared f xs tapes line tr z.store z.tr z.pos.at
  shared xs tapes line old tr pos y z d e =
      subst (λ (n : Counts). Ready f n (length xs) (length tapes) (length line) (length tr) (length old) → y ≡ inputs_on f xs tapes line (n.inputs + n.gates) (st old tr pos) n.inputs
      → z ≡ gates_on f tapes line n.inputs (n.inputs + n.gates) y n.gates → Shared f xs tapes line tr z.store z.tr z.pos.at)
      (sym (counts_are f c d.checked.opened)) (λ j q p. shared_at f xs tapes line old tr j pos e y q z p) d

  -- where the openings begin there is room for them
  pub at_room : (x t l r s at k : ℕ) → Ready f c x t l r s → at ≡ 4 * (circuit f).ins + 12 * all_ands (circuit f) → k ≡ r
      → (at + 6 * c.outputs ≤ l) × (at + 6 * c.outputs ≤ k) × (at ≤ 65536)
  at_room x t l r s at k d e h =
      let a = d.checked.opened.outs_are in let b = d.ll in let g = d.lr in
      let u = d.checked.opened.few_inputs in let v = d.checked.opened.few_gates in let i = d.checked.opened.ins_are in let j = d.checked.opened.gates_are in
      let m = ands_most (circuit f).gate (circuit f).gates in
      (omega arith, omega arith, omega arith)
