-- What the pass leaves are the new tapes and the work room.
--     unmoved             only the next site's tape is anew
--     part_is, put_is     a site's tape in the slice, and the slice with one tape anew
--     span_fits           where they stand is inside the slice
--     few, lengths        the lengths that the pass asks for
--     new_is, room_is     the new tapes, and the work room;  new_back, room_back: as the pass leaves them
--     two_on, stands_at   the site before, and where the code finds the tapes
-- Assumes nothing.
use mathlib.Core.Path.{◌≡◌, refl, sym, ap, ap₂, ◌∙◌, subst}
use mathlib.Core.Bool.{Bool, false, cond}
use mathlib.Core.List.{List, [], ◌∷◌, ◌++◌, append_assoc, append-nil}
use Prim.Native.Nat.{ℕ, zero, suc, ◌+◌, ◌*◌, ◌-◌, ◌≤◌}
use native.Mathlib.Omega.{arith}
use lib.ListN.{length, take, drop, length-append}
use Rattle.theory_sharing.specs.Ops.{bits}
use Rattle.theory_sharing.specs.Sites.{Site, s1, s2, s3, next, prev, Trio, of, is, if_own}
use Rattle.theory_sharing.specs.Circuit.{Circuit, Draws, no_errors, ands, all_ands, owned, all_owned}
use Rattle.theory_sharing.specs.Order.{if_deals}
use Rattle.theory_sharing.specs.Published.{parts}
use Rattle.theory_sharing.specs.Steps.{Wire}
use Rattle.theory_sharing.specs.Run.{after}
use Rattle.theory_sharing.specs.Tapes.{tape_length, tapes_sum, cut, draws, read, ins_tape, tape, written}
use Rattle.theory_sharing.specs.Retape.{mine, shift, retape, new_tapes}
use Rattle.theory_sharing.specs.Store.{side}
use Rattle.theory_sharing.proofs.BitLaws.{bit_group}
use Rattle.theory_sharing.proofs.Clean.{held}
use Rattle.theory_sharing.proofs.SiteLaws.{Seen, itself, behind, before, seen, by_site, own_behind, own_before}
use Rattle.theory_sharing.proofs.StoreLaws.{side_held}
use Rattle.theory_sharing.proofs.TapeLaws.{tapes_length, cut_sized, join_cut, read_tape}
use Rattle.theory_calls.specs.File.{site_of, circuit}
use Rattle.theory_calls.specs.Checks.{tapes_want}
use Rattle.theory_calls.specs.Calls.{at_wire, work_room_of}
use Rattle.theory_calls.specs.AtBits.{both_plain, work_room}
use Rattle.theory_calls.proofs.Limits.{ands_most}
use Rattle.theory_calls.proofs.RunCall.{bit_draws}
use Rattle.check_tests.specs.declared.Site.{Site as Seated}
use Rattle.check_tests.specs.Seat.{seat, number_of}
use Rattle.check_tests.proofs.SeatLaws.{seat_is}
use Rattle.file_header.specs.declared.Counts.{Counts}
use Rattle.file_header.specs.Opened.{Opened}
use Rattle.run_steps.specs.Mirror.{lent, on_part}
use Rattle.run_laws.proofs.PartLaws.{lent_middle, on_middle}
use Rattle.retape_passes.specs.Mirror.{around, Lengths, Walked}
use Rattle.std.specs.declared.ops.Range.{Range}
use Rattle.retape_tapes.specs.Mirror.{span_of, span_in}

-- ---- only the next site's tape is anew
module _ (s : Site) (C : Circuit) (x y : ℕ → ℕ) (T : Draws) (v : Site) (h : is (next s) v ≡ false) where
  abbrev T' : Draws
  T' = retape bits s C x y T

  keeps : (d δ : ℕ) → shift bits s v d δ ≡ d
  unfolding shift
  keeps d δ = ap (λ (b : Bool). cond b (bits.add d δ) d) h

  own_keeps : (u : Site) → Seen v u → (d δ e : ℕ) → if_own v u (shift bits s u d δ ∷ e ∷ []) ≡ if_own v u (d ∷ e ∷ [])
  own_keeps u itself d δ e = ap (λ (z : ℕ). if_own v v (z ∷ e ∷ [])) (keeps d δ)
  own_keeps u behind d δ e = own_behind v _ ∙ sym (own_behind v _)
  own_keeps u before d δ e = own_before v _ ∙ sym (own_before v _)

  ins_keep : (i : ℕ) → ins_tape C T' v i ≡ ins_tape C T v i
  unfolding ins_tape retape
  ins_keep zero = refl
  ins_keep (suc i) = ap₂ ◌++◌ (ins_keep i) (own_keeps (C.owner i) (seen v (C.owner i)) (T.in1 i) (bits.sub (y i) (x i)) (T.in2 i))

  pub unmoved : (g : ℕ) → tape C T' v g ≡ tape C T v g
  unfolding tape retape
  unmoved zero = ins_keep C.ins
  unmoved (suc g) = ap₂ (λ (l : List ℕ) (d : ℕ). l ++ if_deals (C.gate g) (d ∷ T.g2 g v ∷ [])) (unmoved g) (keeps (T.g1 g v) _)

-- ---- a site's tape in the slice
module _ (C : Circuit) (t : List ℕ) (h : length t ≡ tapes_sum C) where
  abbrev a : List ℕ
  a = (cut C t).at1

  abbrev b : List ℕ
  b = (cut C t).at2

  abbrev c : List ℕ
  c = (cut C t).at3

  sizes : (length a ≡ tape_length C s1) × (length b ≡ tape_length C s2) × (length c ≡ tape_length C s3)
  sizes = let z = cut_sized C t h in (z.sized s1, z.sized s2, z.sized s3)

  as_first : t ≡ [] ++ (a ++ (b ++ c))
  as_first = sym (join_cut C t) ∙ append_assoc a b c

  as_third : t ≡ (a ++ b) ++ (c ++ [])
  as_third = sym (join_cut C t) ∙ ap (λ z. (a ++ b) ++ z) (sym (append-nil c))

  pub part_is : (s : Site) → lent (span_in C s).start (span_in C s).end t ≡ of (cut C t) s
  part_is s1 = let z = sizes in ap (lent 0 (tape_length C s1)) as_first ∙ lent_middle 0 (tape_length C s1) [] a (b ++ c) refl (z.0 ∙ (let e : tape_length C s1 ≡ tape_length C s1 - 0 = omega arith in e))
  part_is s2 =
      let z = sizes in
      ap (lent (tape_length C s1) (tape_length C s1 + tape_length C s2)) as_first
      ∙ lent_middle (tape_length C s1) (tape_length C s1 + tape_length C s2) a b c z.0 (z.1 ∙ (let e : tape_length C s2 ≡ tape_length C s1 + tape_length C s2 - tape_length C s1 = omega arith in e))
  part_is s3 =
      let z = sizes in let n = tapes_length C in let l = length-append a b in
      ap (lent (tape_length C s1 + tape_length C s2) (tapes_want C)) as_third
      ∙ lent_middle (tape_length C s1 + tape_length C s2) (tapes_want C) (a ++ b) c [] (l ∙ ap₂ ◌+◌ z.0 z.1)
      (z.2 ∙ (let e : tape_length C s3 ≡ tapes_want C - (tape_length C s1 + tape_length C s2) = omega arith in e))

  -- the slice with the tape of u anew
  pub put_is : (T : Draws) (u : Site) (m : List ℕ) → m ≡ tape C T u C.gates → ((v : Site) → is u v ≡ false → tape C T v C.gates ≡ of (cut C t) v)
      → on_part (span_in C u).start (span_in C u).end (λ (l : List ℕ). m) t ≡ written C T
  unfolding is
  put_is T s1 m e k =
      let z = sizes in
      ap (on_part 0 (tape_length C s1) (λ (l : List ℕ). m)) as_first
      ∙ on_middle 0 (tape_length C s1) [] a (b ++ c) refl (z.0 ∙ (let q : tape_length C s1 ≡ tape_length C s1 - 0 = omega arith in q)) (λ (l : List ℕ). m)
      ∙ sym (append_assoc m b c) ∙ (λ i. (e i ++ sym (k s2 refl) i) ++ sym (k s3 refl) i)
  put_is T s2 m e k =
      let z = sizes in
      ap (on_part (tape_length C s1) (tape_length C s1 + tape_length C s2) (λ (l : List ℕ). m)) as_first
      ∙ on_middle (tape_length C s1) (tape_length C s1 + tape_length C s2) a b c z.0 (z.1 ∙ (let q : tape_length C s2 ≡ tape_length C s1 + tape_length C s2 - tape_length C s1 = omega arith in q)) (λ (l : List ℕ). m)
      ∙ sym (append_assoc a m c) ∙ (λ i. (sym (k s1 refl) i ++ e i) ++ sym (k s3 refl) i)
  put_is T s3 m e k =
      let z = sizes in let n = tapes_length C in let l = length-append a b in
      ap (on_part (tape_length C s1 + tape_length C s2) (tapes_want C) (λ (l : List ℕ). m)) as_third
      ∙ on_middle (tape_length C s1 + tape_length C s2) (tapes_want C) (a ++ b) c [] (l ∙ ap₂ ◌+◌ z.0 z.1)
      (z.2 ∙ (let q : tape_length C s3 ≡ tapes_want C - (tape_length C s1 + tape_length C s2) = omega arith in q)) (λ (l : List ℕ). m)
      ∙ ap (λ w. (a ++ b) ++ w) (append-nil m) ∙ (λ i. (sym (k s1 refl) i ++ sym (k s2 refl) i) ++ e i)

-- ---- inside the slice
pub span_fits : (C : Circuit) (s : Site) (z : Range ℕ) → z ≡ span_in C s → (z.start ≤ z.end) × (z.end ≤ tapes_want C) × (z.end - z.start ≡ tape_length C s)
span_fits C s z e = subst (λ (w : Range ℕ). (w.start ≤ w.end) × (w.end ≤ tapes_want C) × (w.end - w.start ≡ tape_length C s)) (sym e) (go s)
  where
    go : (s : Site) → ((span_in C s).start ≤ (span_in C s).end) × ((span_in C s).end ≤ tapes_want C) × ((span_in C s).end - (span_in C s).start ≡ tape_length C s)
    go s1 = let n = tapes_length C in (omega arith, omega arith, omega arith)
    go s2 = let n = tapes_length C in (omega arith, omega arith, omega arith)
    go s3 = let n = tapes_length C in (omega arith, omega arith, omega arith)

-- ---- what is left
module _ (s : Site) (C : Circuit) (xs ys t : List ℕ) (h : length t ≡ tapes_sum C) where
  seen_whole : (ls : Trio (List ℕ)) → around s (of ls s) (of ls (next s)) (of ls (prev s)) ≡ ls
  seen_whole ls = by_site (λ s. around s (of ls s) (of ls (next s)) (of ls (prev s)) ≡ ls) refl refl refl s

  module _ (own nx pv room moved : List ℕ) (eo : own ≡ of (cut C t) s) (en : nx ≡ of (cut C t) (next s)) (ep : pv ≡ of (cut C t) (prev s))
      (w : Walked s C xs ys own nx pv room moved) where
    drawn_is : draws C (around s own nx pv) ≡ read C t
    drawn_is = ap (draws C) ((λ i. around s (eo i) (en i) (ep i)) ∙ seen_whole (cut C t))

    pub new_is : on_part (span_in C (next s)).start (span_in C (next s)).end (λ (l : List ℕ). moved) t ≡ new_tapes bits s C (at_wire xs) (at_wire ys) t
    unfolding new_tapes
    new_is =
        put_is C t h (retape bits s C (at_wire xs) (at_wire ys) (read C t)) (next s) moved
        (w.moved_is ∙ ap (λ (T : Draws). tape C (retape bits s C (at_wire xs) (at_wire ys) T) (next s) C.gates) drawn_is)
        (λ v k. unmoved s C (at_wire xs) (at_wire ys) (read C t) v k C.gates ∙ read_tape C t h v)

    pub pairs_in : room ≡ both_plain C xs ys ++ side (λ (w : Wire). of w s) (after bits C (at_wire xs) (read C t) no_errors C.gates)
    pairs_in =
        w.pairs_are
        ∙ ap (λ (T : Draws). both_plain C xs ys ++ side (mine s) (parts bits C (at_wire xs) T C.gates)) drawn_is
        ∙ ap (λ (l : List ℕ). both_plain C xs ys ++ l) (sym (side_held s (parts bits C (at_wire xs) (read C t) C.gates)))
        ∙ ap (λ (l : List Wire). both_plain C xs ys ++ side (λ (w : Wire). of w s) l) (sym (held bit_group C (at_wire xs) (read C t) (bit_draws (read C t)) C.gates))

pub room_is : (C : Circuit) (x t y : List ℕ) (site : Seated) (room : List ℕ)
    → room ≡ both_plain C x y ++ side (λ (w : Wire). of w (seat site)) (after bits C (at_wire x) (read C t) no_errors C.gates) → room ≡ work_room C x t y (number_of site)
unfolding work_room_of
room_is C x t y site room e = e ∙ ap (λ (s : Site). both_plain C x y ++ side (λ (w : Wire). of w s) (after bits C (at_wire x) (read C t) no_errors C.gates)) (seat_is site)

-- ---- the pass, over parts of the slice that stand at these places
module _ (f : List ℕ) (c : Counts) (op : Opened f c) (site : Seated) (xs ys t fresh : List ℕ) (h : length t ≡ tapes_want (circuit f)) (e : fresh ≡ t) (o n p : Range ℕ)
    (eo : o ≡ span_in (circuit f) (seat site)) (en : n ≡ span_in (circuit f) (next (seat site))) (ep : p ≡ span_in (circuit f) (prev (seat site))) where
  abbrev C : Circuit
  C = circuit f

  abbrev s : Site
  s = seat site

  abbrev at_span : Range ℕ → List ℕ → List ℕ
  at_span z l = lent z.start z.end l

  long : length t ≡ tapes_sum C
  long = h ∙ sym (tapes_length C)

  at_place : (v : Site) (z : Range ℕ) → z ≡ span_in C v → at_span z t ≡ of (cut C t) v
  at_place v z q = ap (λ (w : Range ℕ). at_span w t) q ∙ part_is C t long v

  part_long : (v : Site) (z : Range ℕ) → z ≡ span_in C v → length (at_span z t) ≡ tape_length C v
  part_long v z q = ap length (at_place v z q) ∙ (cut_sized C t long).sized v

  few : (v : Site) → tape_length C v ≤ 65536
  few v =
      let a = op.few_inputs in let b = op.few_gates in let i = op.ins_are in let g = op.gates_are in
      let m = ands_most C.gate C.gates in let l = tapes_length C in
      go v (omega arith)
    where
      go : (v : Site) → tape_length C s1 + tape_length C s2 + tape_length C s3 ≤ 65536 → tape_length C v ≤ 65536
      go s1 q = omega arith
      go s2 q = omega arith
      go s3 q = omega arith

  pub lengths : Lengths C s (length (at_span o t)) (length (at_span n t)) (length (at_span p t)) (length (at_span n fresh))
  lengths =
      let a = part_long s o eo in let b = part_long (next s) n en in let d = part_long (prev s) p ep in
      let i = few s in let j = few (next s) in let k = few (prev s) in
      record {
        own_is = a;
        next_is = b;
        prev_is = d;
        moved_is = ap (λ (l : List ℕ). length (at_span n l)) e;
        few_own = omega arith;
        few_next = omega arith;
        few_prev = omega arith;
      }

  module _ (room moved : List ℕ) (w : Walked s C xs ys (at_span o t) (at_span n t) (at_span p t) room moved) where
    pub new_back : take n.start fresh ++ (moved ++ drop (n.end - n.start) (drop n.start fresh)) ≡ new_tapes bits (site_of (number_of site)) C (at_wire xs) (at_wire ys) t
    unfolding on_part
    new_back =
        (λ i. take (en i).start (e i) ++ (moved ++ drop ((en i).end - (en i).start) (drop (en i).start (e i))))
        ∙ new_is s C xs ys t long _ _ _ room moved (at_place s o eo) (at_place (next s) n en) (at_place (prev s) p ep) w
        ∙ ap (λ (v : Site). new_tapes bits v C (at_wire xs) (at_wire ys) t) (seat_is site)

    pub room_back : room ≡ work_room C xs t ys (number_of site)
    room_back = room_is C xs t ys site room (pairs_in s C xs ys t long _ _ _ room moved (at_place s o eo) (at_place (next s) n en) (at_place (prev s) p ep) w)

-- ---- where the code finds the tapes
pub two_on : (s u w : Site) → u ≡ next s → w ≡ next u → w ≡ prev s
two_on s u w e q = q ∙ ap next e ∙ by_site (λ s. next (next s) ≡ prev s) refl refl refl s

pub stands_at : (f : List ℕ) (c : Counts) (a one two all : ℕ) (v u : Site) (z : Range ℕ) → Opened f c → a ≡ ands (circuit f).gate c.gates
    → one ≡ owned (circuit f).owner s1 c.inputs → two ≡ owned (circuit f).owner s2 c.inputs → all ≡ tapes_want (circuit f)
    → z ≡ span_of v (2 * (one + a)) (2 * (two + a)) all → v ≡ u → z ≡ span_in (circuit f) u
unfolding tape_length
stands_at f c a one two all v u z o ea e1 e2 h q e =
    let A : a ≡ all_ands (circuit f) = ea ∙ ap (ands (circuit f).gate) o.gates_are in
    let P : one ≡ all_owned (circuit f) s1 = e1 ∙ ap (owned (circuit f).owner s1) o.ins_are in
    let Q : two ≡ all_owned (circuit f) s2 = e2 ∙ ap (owned (circuit f).owner s2) o.ins_are in
    q ∙ (λ i. span_of (e i) (2 * (P i + A i)) (2 * (Q i + A i)) (h i))
