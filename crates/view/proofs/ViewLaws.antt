-- What the proofs of a view cite.
--     view_sizes              how long the two buffers are to be, by what is counted
--     fill_part               a part of a buffer that is filled from the front is back
--     by_base, place_base     the site's tape, in the one slice
--     tape_fits, in_order     how long the four parts are
--     whole                   the four parts together are the document's view
-- Assumes nothing.
use mathlib.Core.Path.{◌≡◌, refl, sym, ap, ap₂, ◌∙◌}
use mathlib.Core.List.{List, [], ◌∷◌, ◌++◌, append_assoc}
use Prim.Native.Nat.{ℕ, ◌+◌, ◌*◌, ◌-◌, ◌≤◌}
use native.Mathlib.Omega.{arith}
use lib.ListN.{length, take, drop, length-append, length-drop}
use lib.Seq.{take_at, drop_at, drop-drop, take_all}
use Rattle.theory_sharing.specs.Ops.{bits}
use Rattle.theory_sharing.specs.Sites.{Site, s1, s2, s3, of}
use Rattle.theory_sharing.specs.Circuit.{Circuit, ands, all_ands, owned, all_owned}
use Rattle.theory_sharing.specs.Tapes.{tape_length, tapes_sum, cut, read}
use Rattle.theory_sharing.specs.View.{own_ins, view_from}
use Rattle.theory_sharing.proofs.BitLaws.{bit_group}
use Rattle.theory_sharing.proofs.Seen.{seen_view}
use Rattle.theory_sharing.proofs.StoreLaws.{fill_all}
use Rattle.theory_sharing.proofs.TapeLaws.{tapes_length, read_tape}
use Rattle.theory_sharing.proofs.ViewLaws.{view_is}
use Rattle.theory_calls.specs.File.{site_of, circuit}
use Rattle.theory_calls.specs.Calls.{at_wire, view_wants}
use Rattle.theory_calls.proofs.RunCall.{bit_draws}
use Rattle.file_header.specs.declared.Counts.{Counts}
use Rattle.file_header.specs.Opened.{Opened}
use Rattle.run_steps.specs.declared.Pos.{Pos}
use Rattle.run_laws.specs.Loops.{base, in_places, in_place, site_place}
use Rattle.check_given.proofs.GivenLaws.{ands_are}
use Rattle.view_parts.specs.Mirror.{all_seen, totals_seen}
use Rattle.view_parts.specs.Mirror.{opened_all}
use Rattle.view_parts.proofs.DeliveredLaws.{opened_are}
use Rattle.theory_sharing.specs.Circuit.{no_errors}
use Rattle.theory_sharing.specs.Run.{after}
use Rattle.theory_sharing.specs.Store.{fill, store}
use Rattle.theory_sharing.specs.Tapes.{tape}
use Rattle.theory_sharing.proofs.ViewLaws.{totals_many}
use Rattle.view.specs.Mirror.{Ready}

-- "view 0 view, 1 store", by what is counted
pub view_sizes : (f : List ℕ) (c : Counts) (a : ℕ) (op : Opened f c) (ea : a ≡ ands (circuit f).gate c.gates) (s own : ℕ) → own ≡ owned (circuit f).owner (site_of s) c.inputs
    → (2 * c.inputs + own + 6 * a + 3 * c.outputs) ∷ 6 * (c.inputs + c.gates) ∷ [] ≡ view_wants (circuit f) s
view_sizes f c a op ea s own eo =
    let o : own ≡ all_owned (circuit f) (site_of s) = eo ∙ ap (owned (circuit f).owner (site_of s)) op.ins_are in
    λ i. (2 * op.ins_are i + o i + 6 * ands_are f c a op ea i + 3 * op.outs_are i) ∷ 6 * (op.ins_are i + op.gates_are i) ∷ []

-- ---- the four parts
-- the site's tape
pub by_base : (C : Circuit) (tapes : List ℕ) (s : Site) → length tapes ≡ tapes_sum C → take (tape_length C s) (drop (base C s) tapes) ≡ of (cut C tapes) s
unfolding base
by_base C tapes s1 l = refl
by_base C tapes s2 l = refl
by_base C tapes s3 l =
    let k = length-drop (tape_length C s1 + tape_length C s2) tapes in
    take_all (tape_length C s3) (drop (tape_length C s1 + tape_length C s2) tapes) (omega arith)

-- where the site's tape begins and ends
pub place_base : (C : Circuit) (pos : Pos) (s : Site) (t : ℕ) → pos ≡ in_place C 0 → t ≡ site_place pos s → t ≡ base C s
unfolding in_places owned
place_base C pos s t e q = q ∙ ap (λ (p : Pos). site_place p s) e ∙ at s
  where
    at : (s : Site) → site_place (in_place C 0) s ≡ base C s
    at s1 = omega arith
    at s2 = omega arith
    at s3 = omega arith

base_end : (C : Circuit) (s : Site) → base C s + tape_length C s ≤ tapes_sum C
unfolding base
base_end C s1 = omega arith
base_end C s2 = omega arith
base_end C s3 = omega arith

-- the places of the four parts, in a view of length v: own inputs up to own, own tape up to d, delivered bits up to e
module _ (f : List ℕ) (c : Counts) (S : Site) (x t v st : ℕ) (r : Ready f c S x t v st) (a : ℕ) (ea : a ≡ ands (circuit f).gate c.gates)
    (own : ℕ) (eo : own ≡ owned (circuit f).owner S c.inputs) (ho : own ≤ c.inputs) where
  abbrev C : Circuit
  C = circuit f

  pub own_all : own ≡ all_owned C S
  own_all = eo ∙ ap (owned C.owner S) r.checked.opened.ins_are

  pub ands_all : a ≡ all_ands C
  ands_all = ea ∙ ap (ands C.gate) r.checked.opened.gates_are

  pub tape_all : 2 * (own + a) ≡ tape_length C S
  unfolding tape_length
  tape_all = λ i. 2 * (own_all i + ands_all i)

  pub tapes_all : t ≡ tapes_sum C
  tapes_all = r.lt ∙ sym (tapes_length C)

  pub tape_fits : (p : ℕ) → p ≡ base C S → p + 2 * (own + a) ≤ t
  tape_fits p e = let q = base_end C S in let m = tape_all in let l = tapes_all in omega arith

  -- how many bits are delivered, as the code works it out
  abbrev got : ℕ
  got = 2 * (c.inputs - own) + 4 * a + 2 * c.outputs

  pub in_order : own + (2 * (own + a) + (got + c.outputs)) ≡ v
  in_order =
      let o = r.checked.opened in let i = o.ins_are in let g = o.gates_are in let u = o.outs_are in
      let q = own_all in let w = ands_all in let l = r.lv in omega arith

-- ---- together
module _ (f xs tapes : List ℕ) (s : Site) (c : Counts) (op : Opened f c) (l : length tapes ≡ tapes_sum (circuit f)) where
  abbrev D : Circuit
  D = circuit f

  tape_back : (p m : ℕ) → p ≡ base D s → m ≡ tape_length D s → take (p + m - p) (drop p tapes) ≡ of (cut D tapes) s
  tape_back p m e q =
      let k : p + m - p ≡ m = omega arith in
      (λ i. take ((k ∙ q) i) (drop (e i) tapes)) ∙ by_base D tapes s l

  opened_back : (w last : List ℕ) → w ≡ store (after bits D (at_wire xs) (read D tapes) no_errors D.gates) → length last ≡ c.outputs
      → opened_all s f w (c.inputs + c.gates) last c.outputs ≡ totals_seen s f xs tapes
  opened_back w last ew el =
      let k = op.outs_are in
      let many : D.ins + D.gates ≡ c.inputs + c.gates = sym (λ i. op.ins_are i + op.gates_are i) in
      ap (opened_all s f w (c.inputs + c.gates) last) k
      ∙ opened_are f (at_wire xs) tapes s (c.inputs + c.gates) many w ew last D.outs (omega arith)
      ∙ fill_all last (totals_seen s f xs tapes) (totals_many bits s D (at_wire xs) (read D tapes) D.outs ∙ sym k ∙ sym el)

  pub whole : (p m : ℕ) (y1 y2 y3 y4 w last : List ℕ) → p ≡ base D s → m ≡ tape_length D s → y1 ≡ own_ins s D (at_wire xs) D.ins → y2 ≡ take (p + m - p) (drop p tapes)
      → y3 ≡ all_seen s f xs tapes → w ≡ store (after bits D (at_wire xs) (read D tapes) no_errors D.gates) → length last ≡ c.outputs
      → y4 ≡ opened_all s f w (c.inputs + c.gates) last c.outputs → y1 ++ (y2 ++ (y3 ++ y4)) ≡ view_from bits s D (at_wire xs) tapes
  unfolding seen_view
  whole p m y1 y2 y3 y4 w last ep em e1 e2 e3 ew el e4 =
      let tape : y2 ≡ tape D (read D tapes) s D.gates = e2 ∙ tape_back p m ep em ∙ sym (read_tape D tapes l s) in
      sym (append_assoc (y1 ++ y2) y3 y4 ∙ append_assoc y1 y2 (y3 ++ y4))
      ∙ (λ i. e1 i ++ tape i ++ e3 i ++ (e4 ∙ opened_back w last ew el) i)
      ∙ sym (view_is bit_group s D (at_wire xs) tapes l (bit_draws (read D tapes)))

-- a part is back, behind what was filled so far
pub fill_part : (old done ys l : List ℕ) (a e : ℕ) → l ≡ fill old done → length done ≡ a → length ys ≡ e - a
    → take a l ++ (ys ++ drop (e - a) (drop a l)) ≡ fill old (done ++ ys)
unfolding fill
fill_part old done ys l a e q ld ly =
    let n = length-append done ys in
    ap (λ (z : List ℕ). take a z ++ (ys ++ drop (e - a) (drop a z))) q
    ∙ ap₂ (λ (u w : List ℕ). u ++ (ys ++ drop (e - a) w)) (take_at done (drop (length done) old) a ld) (drop_at done (drop (length done) old) a ld)
    ∙ ap (λ (w : List ℕ). done ++ (ys ++ w)) (drop-drop (e - a) (length done) old ∙ ap (λ (k : ℕ). drop k old) (let m : length done + (e - a) ≡ length (done ++ ys) = omega arith in m))
    ∙ sym (append_assoc done ys (drop (length (done ++ ys)) old))
