-- What the proof of the pass over the gates cites: from turn to turn it is in the document's states, and so has room.
--     gates_reach, gates_room    the state it has reached, and its room
--     begun                      where the inputs ended the gates may begin
-- Assumes nothing.
use mathlib.Core.Path.{◌≡◌, sym, ap, ◌∙◌, subst}
use mathlib.Core.List.{List}
use Prim.Native.Nat.{ℕ, zero, suc, ◌+◌, ◌*◌, ◌≤◌, ◌<◌}
use native.Mathlib.Omega.{arith}
use lib.ListN.{length}
use Rattle.theory_sharing.specs.Ops.{bits}
use Rattle.theory_sharing.specs.Sites.{Site, s1, s2, s3}
use Rattle.theory_sharing.specs.Circuit.{Circuit, dealing, ands, all_ands, all_owned}
use Rattle.theory_sharing.specs.Tapes.{tape_length, read}
use Rattle.theory_sharing.proofs.OrderLaws.{gates_got_length}
use Rattle.theory_sharing.proofs.Seen.{gates_got}
use Rattle.theory_sharing.proofs.TapeLaws.{tapes_length}
use Rattle.theory_calls.specs.File.{kind_at, first_at, second_at, gate_of, circuit}
use Rattle.theory_calls.specs.Calls.{at_wire}
use Rattle.theory_calls.proofs.Limits.{ands_most}
use Rattle.file_header.specs.declared.Counts.{Counts}
use Rattle.run_passes.specs.Mirror.{St, Lower}
use Rattle.run_passes.proofs.PassLaws.{lower_of, ands_room}
use Rattle.run_laws.specs.Loops.{base, place}
use Rattle.view_inputs.specs.Mirror.{gate_seen, gates_seen, ins_seen, state_seen, AndRoom, Seeing, Begun}
use Rattle.file_parts.specs.Loop.{up_to}
use Rattle.view_gates.proofs.GateLaws.{gate_step, joined}

module _ (f tapes : List ℕ) (s : Site) (got store : ℕ) (c : Counts) (d : Seeing f c s (length tapes) got store) (x₀ : St)
    (b : Begun f s tapes (c.inputs + c.gates) got x₀) where
  abbrev C : Circuit
  C = circuit f

  abbrev n : ℕ
  n = c.inputs + c.gates

  abbrev state : ℕ → St
  state k = state_seen s C b.x (read C tapes) n b.l b.old k

  abbrev many : ℕ → ℕ
  many g = length (gates_got bits s C b.x (read C tapes) g)

  low : (g : ℕ) → g < c.gates → Lower (C.gate g) (C.ins + g)
  low g h =
      subst (λ (i : ℕ). Lower (gate_of (kind_at f i g) (first_at f i g) (second_at f i g)) (i + g)) d.checked.opened.ins_are
      (lower_of _ _ _ _ (d.checked.gates g h))

  there : (g : ℕ) → g < c.gates → many g + 4 * dealing (C.gate g) ≤ got
  there g h =
      let l = gates_got_length bits s C b.x (read C tapes) g in let i = d.checked.opened.gates_are in
      let a = ands_room C.gate g C.gates (omega arith) in let w = d.lg in
      omega arith

  pub gates_reach : (g : ℕ) → g ≤ c.gates → gates_seen s f tapes c.inputs n x₀ g ≡ state g
  unfolding up_to
  gates_reach zero h = b.is
  gates_reach (suc g) h =
      let i = d.checked.opened.ins_are in let k = d.checked.opened.gates_are in let l = b.long in let t = there g h in
      ap (gate_seen s tapes n (c.inputs + g) (C.gate g)) (gates_reach g (omega arith))
      ∙ ap (λ (m : ℕ). gate_seen s tapes n (m + g) (C.gate g) (state g)) i
      ∙ gate_step s C b.x tapes n b.l b.old g (omega arith) b.fits (omega arith) (low g h) (omega arith)

  pub gates_room : (k r : ℕ) (y : St) → k < c.gates → r ≡ got → y ≡ gates_seen s f tapes c.inputs n x₀ k → AndRoom (dealing (C.gate k)) (length tapes) r y.pos
  unfolding state_seen place base tape_length
  gates_room k r y h er q =
      let e : y ≡ state k = q ∙ gates_reach k (omega arith) in
      let M : ℕ = ands C.gate k in
      let e1 : y.pos.t1 ≡ 2 * (all_owned C s1 + M) = ap (λ (z : St). z.pos.t1) e ∙ omega arith in
      let e2 : y.pos.t2 ≡ 2 * (all_owned C s1 + all_ands C) + 2 * (all_owned C s2 + M) = ap (λ (z : St). z.pos.t2) e in
      let e3 : y.pos.t3 ≡ 2 * (all_owned C s1 + all_ands C) + 2 * (all_owned C s2 + all_ands C) + 2 * (all_owned C s3 + M) = ap (λ (z : St). z.pos.t3) e in
      let e4 : y.pos.at ≡ many k = ap (λ (z : St). z.pos.at) e in
      let i = d.checked.opened.ins_are in let u = d.checked.opened.few_inputs in let v = d.checked.opened.few_gates in let w = d.checked.opened.few_outputs in
      let gs = d.checked.opened.gates_are in let os = d.checked.opened.outs_are in
      let m = ands_most C.gate C.gates in let p = d.lt in let t = tapes_length C in let g = d.lg in
      let a = ands_room C.gate k C.gates (omega arith) in let z = there k h in
      record { one = omega arith; two = omega arith; thr = omega arith; del = omega arith; few_tapes = omega arith; few_got = omega arith }

-- where the inputs ended the gates may begin
unfoldable pub begun : (f xs tapes : List ℕ) (s : Site) (store got : List ℕ) (c : Counts) (r : ℕ) (y : St) → Seeing f c s (length tapes) (length got) (length store) → r ≡ length got
    → y ≡ ins_seen s (circuit f) (at_wire xs) (read (circuit f) tapes) (c.inputs + c.gates) store got c.inputs
    → Begun f s tapes (c.inputs + c.gates) r y
begun f xs tapes s store got c r y d e q =
    let n : ℕ = c.inputs + c.gates in
    record {
      x = at_wire xs;
      l = store;
      old = got;
      fits = d.ls;
      long = sym e;
      is = q ∙ ap (ins_seen s (circuit f) (at_wire xs) (read (circuit f) tapes) n store got) d.checked.opened.ins_are ∙ joined s (circuit f) (at_wire xs) tapes n store got;
    }
