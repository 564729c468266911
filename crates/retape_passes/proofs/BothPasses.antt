-- Both passes are the document's: the site's pairs, and the next site's tape with new draws.
--     in_fits, in_turn      one more input, in a file as it was checked
--     values_kept           a wire's value does not change with later gates
--     joined                the gates begin where the inputs end
--     gates_law             all gates
--     gates_fit, walked     what the gates have room for, and what both passes leave
-- Assumes nothing.
use mathlib.Core.Path.{◌≡◌, refl, sym, ap, ap₂, ◌∙◌, subst}
use mathlib.Core.Logic.{⊎_elim}
use mathlib.Core.List.{List, ◌++◌, append-nil}
use Prim.Native.Nat.{ℕ, zero, suc, ◌+◌, ◌*◌, ◌≤◌, ◌<◌}
use native.Mathlib.Omega.{arith}
use native.Mathlib.Numerals.{add-one}
use native.Mathlib.Nat.{eq-or-lt_of_le, le_of_suc-le-suc}
use lib.ListN.{length, get_or, take, drop, length-append, length-drop, get_or-append}
use lib.Seq.{get_or-append-add, length-take-le}
use Rattle.theory_sharing.specs.Ops.{bits}
use Rattle.theory_sharing.specs.Sites.{Site, next, prev, is}
use Rattle.theory_sharing.specs.Circuit.{Circuit, Draws, wires, ands, all_ands, owned, all_owned}
use Rattle.theory_sharing.specs.Values.{value_inputs, values}
use Rattle.theory_sharing.specs.Published.{parts}
use Rattle.theory_sharing.specs.Tapes.{tape_length, draws, tape}
use Rattle.theory_sharing.specs.Retape.{mine, retape}
use Rattle.theory_sharing.specs.Store.{side}
use Rattle.theory_sharing.proofs.StoreLaws.{side_length, fill_all}
use Rattle.theory_sharing.proofs.TapeLaws.{gates_length}
use Rattle.theory_calls.specs.File.{inputs_of, gates_of, kind_at, first_at, second_at, gate_of, circuit}
use Rattle.theory_calls.specs.Plain.{plain}
use Rattle.theory_calls.specs.Calls.{at_wire, both_plain_of}
use Rattle.theory_calls.specs.AtBits.{both_plain}
use Rattle.theory_calls.specs.Statements.{Bits}
use Rattle.theory_calls.proofs.PlainLaws.{plain_is, plain_length}
use Rattle.file_header.specs.declared.Counts.{Counts}
use Rattle.file_header.specs.Opened.{Opened}
use Rattle.file_parts.specs.Checked.{Checked}
use Rattle.run_passes.specs.Mirror.{Lower}
use Rattle.run_passes.proofs.PassLaws.{lower_of, ands_room, owned_room}
use Rattle.retape_pairs.specs.Mirror.{Fits, St, gate_on}
use Rattle.retape_pairs.proofs.PairLaws.{places_eq}
use Rattle.file_parts.specs.Loop.{up_to}
use Rattle.retape_passes.specs.Mirror.{around, InFits, Lengths, input_on, room_with, in_state, state, gates_on, Walked}
use Rattle.retape_passes.proofs.StepLaws.{in_room}
use Rattle.retape_passes.proofs.StateLaws.{parts_many, st_eq, in_law}
use Rattle.retape_passes.proofs.GateLaw.{gate_law}

-- ---- inputs, in a file as it was opened
module _ (f : List ℕ) (c : Counts) (op : Opened f c) (s t : Site) (e : t ≡ next s) (x y : ℕ → ℕ) (own nx pv room moved : List ℕ)
    (hr : length room ≡ 4 * (c.inputs + c.gates)) (h : Lengths (circuit f) s (length own) (length nx) (length pv) (length moved)) where
  abbrev n : ℕ
  n = c.inputs + c.gates

  abbrev C : Circuit
  C = circuit f

  abbrev at_input : ℕ → St
  at_input k = in_state s C x y own nx pv (take (2 * n) room) (drop (2 * n) room) moved k

  front_long : length (take (2 * n) room) ≡ 2 * n
  front_long = length-take-le (2 * n) room (omega arith)

  back_long : length (drop (2 * n) room) ≡ 2 * n
  back_long = let k = length-drop (2 * n) room in omega arith

  pub in_fits : (k m : ℕ) (z : St) → k < c.inputs → m ≡ length moved → z ≡ at_input k → InFits (is s (C.owner k)) (is t (C.owner k)) (length own) (length nx) (length pv) z.at
  unfolding in_state
  in_fits k m z l q d = let i = op.ins_are in in_room C s t _ _ _ _ k z.at e h (omega arith) (ap (λ (w : St). w.at) d)

  pub in_turn : (k : ℕ) (z w : St) → k < c.inputs → z ≡ at_input k
      → w ≡ input_on own nx pv n k (x k) (y k) (is s (C.owner k)) (is t (C.owner k)) z → w ≡ at_input (k + 1)
  unfolding tape_length
  in_turn k z w l d q =
      let i = op.ins_are in
      let o = owned_room C.owner (next s) k C.ins (omega arith) in
      let a = h.next_is in let b = h.moved_is in
      q ∙ ap₂ (λ (u : Site) (v : St). input_on own nx pv n k (x k) (y k) (is s (C.owner k)) (is u (C.owner k)) v) e d
      ∙ in_law s C x y own nx pv (take (2 * n) room) (drop (2 * n) room) moved k n front_long back_long (omega arith) (omega arith)
      ∙ ap at_input (sym (add-one k))

-- ---- values
module _ (C : Circuit) (x : ℕ → ℕ) where
  ins_long : (i : ℕ) → length (value_inputs bits x i) ≡ i
  unfolding value_inputs
  ins_long zero = refl
  ins_long (suc i) = length-append (value_inputs bits x i) _ ∙ (let k = ins_long i in omega arith)

  values_long : (g : ℕ) → length (values bits C x g) ≡ C.ins + g
  unfolding values
  values_long zero = ins_long C.ins ∙ (let q : C.ins ≡ C.ins + 0 = omega arith in q)
  values_long (suc g) = length-append (values bits C x g) _ ∙ (let k = values_long g in omega arith)

  values_kept : (g h a : ℕ) → g ≤ h → a < C.ins + g → get_or (values bits C x h) a 0 ≡ get_or (values bits C x g) a 0
  unfolding values
  values_kept g zero a l k = ap (λ (z : ℕ). get_or (values bits C x z) a 0) (let q : 0 ≡ g = omega arith in q)
  values_kept g (suc h) a l k =
      ⊎_elim (λ q. ap (λ (z : ℕ). get_or (values bits C x z) a 0) (sym q))
      (λ m. let v = values_long h in get_or-append (values bits C x h) _ 0 a (omega (arith, m)) ∙ values_kept g h a (le_of_suc-le-suc m) k)
      (eq-or-lt_of_le l)

-- ---- gates
module _ (s : Site) (C : Circuit) (xs ys own nx pv old fresh : List ℕ) (bx : Bits xs C.ins) (by : Bits ys C.ins)
    (ho : length old ≡ 2 * wires C) (hf : length fresh ≡ tape_length C (next s)) (low : (k : ℕ) → k < C.gates → Lower (C.gate k) (C.ins + k)) where
  abbrev B : List ℕ
  B = both_plain C xs ys

  abbrev x : ℕ → ℕ
  x = at_wire xs

  abbrev y : ℕ → ℕ
  y = at_wire ys

  abbrev at_gate : ℕ → St
  at_gate g = state s C x y own nx pv B old fresh g

  plain_long : length B ≡ 2 * wires C
  unfolding both_plain_of
  plain_long = let a = plain_length C xs in let b = plain_length C ys in length-append (plain C xs) (plain C ys) ∙ (let q : length (plain C xs) + length (plain C ys) ≡ 2 * wires C = omega arith in q)

  first_values : (g a : ℕ) → g ≤ C.gates → a < C.ins + g → get_or B a 0 ≡ get_or (values bits C x g) a 0
  unfolding both_plain_of
  first_values g a l h =
      let k = plain_length C xs in
      get_or-append (plain C xs) (plain C ys) 0 a (omega arith) ∙ ap (λ (v : List ℕ). get_or v a 0) (plain_is C xs bx.small) ∙ values_kept C x g C.gates a l h

  second_values : (g a : ℕ) → g ≤ C.gates → a < C.ins + g → get_or B (wires C + a) 0 ≡ get_or (values bits C y g) a 0
  unfolding both_plain_of
  second_values g a l h =
      ap (λ (z : ℕ). get_or B (z + a) 0) (sym (plain_length C xs)) ∙ get_or-append-add (plain C xs) (plain C ys) a 0
      ∙ ap (λ (v : List ℕ). get_or v a 0) (plain_is C ys by.small) ∙ values_kept C y g C.gates a l h

  gates_law : (g : ℕ) → g ≤ C.gates → up_to (λ k. gate_on s own nx pv (wires C) (C.ins + k) (C.gate k)) (at_gate 0) g ≡ at_gate g
  unfolding up_to tape_length
  gates_law zero l = refl
  gates_law (suc g) l =
      let r = ands_room C.gate g C.gates l in
      ap (gate_on s own nx pv (wires C) (C.ins + g) (C.gate g)) (gates_law g (omega arith))
      ∙ gate_law s C x y own nx pv B old fresh g (wires C) plain_long ho (omega arith) (λ a k. first_values g a (omega arith) k) (λ a k. second_values g a (omega arith) k)
      (low g l) (omega arith)

  -- the gates begin where the inputs end
  joined : in_state s C x y own nx pv B old fresh C.ins ≡ at_gate 0
  unfolding in_state state parts tape ands
  joined = st_eq refl refl (places_eq (omega arith) (omega arith) (omega arith))

  -- nothing is left of what was there before
  ended : (z : St) → z ≡ at_gate C.gates → Walked s C xs ys own nx pv z.room z.moved
  unfolding state room_with tape_length
  ended z e =
      let T : Draws = draws C (around s own nx pv) in
      let l = side_length (mine s) (parts bits C x T C.gates) in
      let m = parts_many C x T C.gates in
      let k = gates_length C (retape bits s C x y T) (next s) C.gates in
      record {
        pairs_are = ap (λ (q : St). q.room) e ∙ ap (λ (v : List ℕ). B ++ v) (append-nil _ ∙ fill_all old (side (mine s) (parts bits C x T C.gates)) (omega arith));
        moved_is = ap (λ (q : St). q.moved) e ∙ fill_all fresh (tape C (retape bits s C x y T) (next s) C.gates) (omega arith);
      }

-- ---- both, in a file as it was checked
module _ (f : List ℕ) (c : Counts) (ck : Checked f c) (s : Site) (xs ys own nx pv room moved : List ℕ)
    (hr : length room ≡ 4 * (c.inputs + c.gates)) (h : Lengths (circuit f) s (length own) (length nx) (length pv) (length moved)) where
  abbrev first_pass : St
  first_pass = in_state s (circuit f) (at_wire xs) (at_wire ys) own nx pv (take (2 * (c.inputs + c.gates)) room) (drop (2 * (c.inputs + c.gates)) room) moved c.inputs

  pub gates_fit : (z : St) → z ≡ first_pass → Fits (ands (circuit f).gate c.gates) (length own) (length nx) (length pv) z.at
  unfolding in_state tape_length
  gates_fit z e =
      let i = ck.opened.ins_are in
      let a : ands (circuit f).gate c.gates ≡ all_ands (circuit f) = ap (ands (circuit f).gate) ck.opened.gates_are in
      let o1 : owned (circuit f).owner s c.inputs ≡ all_owned (circuit f) s = ap (owned (circuit f).owner s) i in
      let o2 : owned (circuit f).owner (next s) c.inputs ≡ all_owned (circuit f) (next s) = ap (owned (circuit f).owner (next s)) i in
      let o3 : owned (circuit f).owner (prev s) c.inputs ≡ all_owned (circuit f) (prev s) = ap (owned (circuit f).owner (prev s)) i in
      let p1 : z.at.own ≡ 2 * owned (circuit f).owner s c.inputs = ap (λ (w : St). w.at.own) e in
      let p2 : z.at.next ≡ 2 * owned (circuit f).owner (next s) c.inputs = ap (λ (w : St). w.at.next) e in
      let p3 : z.at.prev ≡ 2 * owned (circuit f).owner (prev s) c.inputs = ap (λ (w : St). w.at.prev) e in
      let i1 = h.own_is in let i2 = h.next_is in let i3 = h.prev_is in
      record { one = omega arith; two = omega arith; thr = omega arith; few_own = h.few_own; few_next = h.few_next; few_prev = h.few_prev }

  lower_at : (k : ℕ) → k < gates_of f → Lower ((circuit f).gate k) (inputs_of f + k)
  lower_at k l =
      let g = ck.opened.gates_are in
      subst (λ (i : ℕ). Lower (gate_of (kind_at f i k) (first_at f i k) (second_at f i k)) (i + k)) ck.opened.ins_are (lower_of _ _ _ _ (ck.gates k (omega arith)))

  pub walked : Bits xs c.inputs → Bits ys c.inputs → take (2 * (c.inputs + c.gates)) room ≡ both_plain (circuit f) xs ys
      → (z w : St) → z ≡ first_pass → w ≡ gates_on f s own nx pv c.inputs (c.inputs + c.gates) z c.gates → Walked s (circuit f) xs ys own nx pv w.room w.moved
  walked bx by p z w e q =
      let C : Circuit = circuit f in
      let i = ck.opened.ins_are in let g = ck.opened.gates_are in
      let old : List ℕ = drop (2 * (c.inputs + c.gates)) room in
      let x : ℕ → ℕ = at_wire xs in let y : ℕ → ℕ = at_wire ys in
      let bx' : Bits xs C.ins = subst (Bits xs) i bx in
      let by' : Bits ys C.ins = subst (Bits ys) i by in
      let ho : length old ≡ 2 * wires C = length-drop (2 * (c.inputs + c.gates)) room ∙ (let r = hr in omega arith) in
      let hf : length moved ≡ tape_length C (next s) = h.moved_is ∙ h.next_is in
      let b : z ≡ state s C x y own nx pv (both_plain C xs ys) old moved 0
      = e ∙ (λ j. in_state s C x y own nx pv (p j) old moved (i j)) ∙ joined s C xs ys own nx pv old moved bx' by' ho hf lower_at in
      ended s C xs ys own nx pv old moved bx' by' ho hf lower_at w
      (q ∙ (λ j. up_to (λ k. gate_on s own nx pv (i j + g j) (i j + k) (C.gate k)) (b j) (g j)) ∙ gates_law s C xs ys own nx pv old moved bx' by' ho hf lower_at C.gates (omega arith))
