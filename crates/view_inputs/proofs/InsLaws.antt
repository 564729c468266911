-- What the proof of the pass over the inputs cites: from turn to turn it is in the document's states, and so has room.
--     one_or_none                          an input is a site's own once at most
--     ins_start, ins_turn, ins_room        where it begins, one more input, the room that it has
-- Assumes nothing.
use mathlib.Core.Path.{◌≡◌, refl, sym, ap, ◌∙◌, subst}
use mathlib.Core.Bool.{Bool, true, false, cond}
use mathlib.Core.Logic.{⊎_elim}
use mathlib.Core.List.{List}
use Prim.Native.Nat.{ℕ, zero, suc, ◌+◌, ◌*◌, ◌≤◌, ◌<◌}
use native.Mathlib.Omega.{arith}
use native.Mathlib.Nat.{le_refl, eq-or-lt_of_le, le_of_suc-le-suc}
use native.Mathlib.Numerals.{add-one}
use lib.ListN.{length, get_or}
use Rattle.theory_sharing.specs.Ops.{bits}
use Rattle.theory_sharing.specs.Sites.{Site, s1, s2, s3, is}
use Rattle.theory_sharing.specs.Circuit.{Circuit, all_ands, owned, all_owned}
use Rattle.theory_sharing.specs.Tapes.{tape_length, read}
use Rattle.theory_sharing.specs.Store.{fill}
use Rattle.theory_sharing.proofs.OrderLaws.{ins_got_length}
use Rattle.theory_sharing.proofs.Seen.{ins_got}
use Rattle.theory_sharing.proofs.TapeLaws.{tapes_length}
use Rattle.theory_calls.specs.File.{owner_at, circuit}
use Rattle.theory_calls.specs.Calls.{at_wire}
use Rattle.theory_calls.proofs.Limits.{ands_most}
use Rattle.file_header.specs.declared.Counts.{Counts}
use Rattle.run_steps.specs.declared.Pos.{Pos}
use Rattle.run_passes.specs.Mirror.{St, st, Small, own_place}
use Rattle.run_passes.proofs.PassLaws.{owned_room, own_room}
use Rattle.run_laws.specs.Places.{puts}
use Rattle.run_laws.specs.Loops.{base, in_places}
use Rattle.run_laws.proofs.PassesAtPlaces.{st_eq}
use Rattle.view_inputs.specs.Mirror.{input_seen, ins_seen, start_seen, Seeing}
use Rattle.view_inputs.proofs.InputsSeen.{in_step}

-- of later inputs a site owns at most each
pub one_or_none : (b : Bool) → cond b 1 0 ≤ 1
one_or_none true = le_refl 1
one_or_none false = omega arith

-- two bits for the input of another site
other_two : (b : Bool) → cond b 0 2 + 2 * cond b 1 0 ≡ 2
other_two true = refl
other_two false = refl

owned_slow : (f : ℕ → Site) (s : Site) (k n : ℕ) → k ≤ n → owned f s n + k ≤ owned f s k + n
unfolding owned
owned_slow f s k zero h = let e : k ≡ 0 = omega arith in subst (λ (m : ℕ). owned f s 0 + m ≤ owned f s m + 0) (sym e) (le_refl _)
owned_slow f s k (suc n) h =
    ⊎_elim (λ e. subst (λ (m : ℕ). owned f s (suc n) + m ≤ owned f s m + suc n) (sym e) (le_refl _))
    (λ l. let q = owned_slow f s k n (le_of_suc-le-suc l) in let b = one_or_none (is s (f n)) in omega arith) (eq-or-lt_of_le h)

-- an input's step has room
abbrev pub InRoom : List ℕ → Site → ℕ → ℕ → ℕ → Pos → Type 0
InRoom f s k tapes got q =
    Small q × ((own_place (owner_at f k) q + 2 ≤ tapes) × (q.at + cond (is s ((circuit f).owner k)) 0 2 ≤ got))

-- ---- inputs
module _ (f xs tapes : List ℕ) (s : Site) (store got : List ℕ) (c : Counts) (d : Seeing f c s (length tapes) (length got) (length store)) where
  abbrev C : Circuit
  C = circuit f

  abbrev n : ℕ
  n = c.inputs + c.gates

  abbrev state : ℕ → St
  state k = ins_seen s C (at_wire xs) (read C tapes) n store got k

  pub ins_start : (pos : Pos) → pos ≡ start_seen C → st store got pos ≡ state 0
  unfolding ins_seen puts ins_got in_places fill
  ins_start pos e = st_eq refl refl e

  -- how far the site's bits have come
  there : (k : ℕ) → k < c.inputs → length (ins_got bits s C (at_wire xs) (read C tapes) k) + cond (is s (C.owner k)) 0 2 ≤ length got
  unfolding owned
  there k h =
      let l = ins_got_length bits s C (at_wire xs) (read C tapes) k in let i = d.checked.opened.ins_are in
      let o = owned_slow C.owner s (suc k) C.ins (omega arith) in let g = d.lg in let b = other_two (is s (C.owner k)) in
      omega arith

  pub ins_turn : (k : ℕ) (y z : St) → k < c.inputs → y ≡ state k
      → z ≡ input_seen s tapes n k (get_or xs k 0) (owner_at f k) (is s (C.owner k)) y → z ≡ state (k + 1)
  ins_turn k y z h e q =
      let i = d.checked.opened.ins_are in
      q ∙ ap (input_seen s tapes n k (get_or xs k 0) (owner_at f k) (is s (C.owner k))) e
      ∙ in_step s C (at_wire xs) tapes n store got k (owner_at f k) (omega arith) refl (there k h)
      ∙ ap state (sym (add-one k))

  pub ins_room : (k r : ℕ) (y : St) → k < c.inputs → r ≡ length got → y ≡ state k → InRoom f s k (length tapes) r y.pos
  unfolding ins_seen in_places base tape_length
  ins_room k r y h er e =
      let L : ℕ = length (ins_got bits s C (at_wire xs) (read C tapes) k) in
      let e1 : y.pos.t1 ≡ 2 * owned C.owner s1 k = ap (λ (z : St). z.pos.t1) e ∙ omega arith in
      let e2 : y.pos.t2 ≡ 2 * (all_owned C s1 + all_ands C) + 2 * owned C.owner s2 k = ap (λ (z : St). z.pos.t2) e in
      let e3 : y.pos.t3 ≡ 2 * (all_owned C s1 + all_ands C) + 2 * (all_owned C s2 + all_ands C) + 2 * owned C.owner s3 k = ap (λ (z : St). z.pos.t3) e in
      let e4 : y.pos.at ≡ L = ap (λ (z : St). z.pos.at) e in
      let i = d.checked.opened.ins_are in let u = d.checked.opened.few_inputs in let v = d.checked.opened.few_gates in
      let gs = d.checked.opened.gates_are in
      let m = ands_most C.gate C.gates in let p = d.lt in let t = tapes_length C in
      let a1 = owned_room C.owner s1 k C.ins (omega arith) in
      let a2 = owned_room C.owner s2 k C.ins (omega arith) in
      let a3 = owned_room C.owner s3 k C.ins (omega arith) in
      let w = there k h in let l = ins_got_length bits s C (at_wire xs) (read C tapes) k in (
        (omega arith, omega arith, omega arith, omega arith),
        (own_room (owner_at f k) y.pos (length tapes) (omega arith) (omega arith) (omega arith), omega arith),
      )
