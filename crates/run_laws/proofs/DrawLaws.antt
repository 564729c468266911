-- The draws are what the one slice of tapes holds at the running places, as far as they are used.
--     drawn_in1, drawn_in2       an input's draws
--     drawn_g1, drawn_g2         a site's draws at a gate that deals
--     spots, drawn               the three sites' at a gate
--     own_place_is               the tape that the code reads is the owner's
--     in_place_suc, pos_after    the places after an input, and after a gate
--     deal_is                    the code deals an input as its owner does
use mathlib.Core.Path.{◌≡◌, refl, sym, ap, ap₂, ◌∙◌}
use mathlib.Core.List.{List}
use Prim.Native.Nat.{ℕ, suc, ◌+◌, ◌*◌, ◌≤◌, ◌<◌}
use native.Mathlib.Omega.{arith}
use native.Mathlib.Nat.{zero-add}
use lib.ListN.{get_or, drop}
use lib.Seq.{get_or-take, get_or-drop}
use Rattle.theory_sharing.specs.Ops.{bits}
use Rattle.theory_sharing.specs.Sites.{Site, s1, s2, s3, Trio, of}
use Rattle.theory_sharing.specs.Circuit.{Circuit, dealing, ands, owned, all_owned, AND, OR, Gate, XOR, NOT}
use Rattle.theory_sharing.specs.Published.{deal}
use Rattle.theory_sharing.specs.Tapes.{tape_length, cut, draws, read}
use Rattle.theory_sharing.proofs.SiteLaws.{is_itself}
use Rattle.theory_calls.specs.File.{site_of}
use Rattle.file_parts.proofs.SiteLaws.{by_number}
use Rattle.run_messages.specs.Mirror.{deal_at}
use Rattle.run_steps.specs.declared.Pos.{Pos}
use Rattle.run_passes.specs.Mirror.{next_pos, own_place}
use Rattle.run_passes.proofs.PassLaws.{owned_room, ands_room, placed_eq, one_more}
use Rattle.run_laws.specs.Link.{sent_of}
use Rattle.run_laws.specs.Loops.{base, place, in_places, in_place, site_place}
use Rattle.run_laws.specs.Places.{Drawn}

module _ (C : Circuit) (t : List ℕ) where
  -- a site's tape, in the slice
  cut_at : (s : Site) (k : ℕ) → k < tape_length C s → get_or (of (cut C t) s) k 0 ≡ get_or t (base C s + k) 0
  unfolding base
  cut_at s1 k h = get_or-take (tape_length C s1) t k 0 h ∙ ap (λ (m : ℕ). get_or t m 0) (sym (zero-add k))
  cut_at s2 k h = get_or-take (tape_length C s2) (drop (tape_length C s1) t) k 0 h ∙ get_or-drop (tape_length C s1) t k 0
  cut_at s3 k h = get_or-drop (tape_length C s1 + tape_length C s2) t k 0

  -- and one place further
  cut_after : (s : Site) (k : ℕ) → k + 1 < tape_length C s → get_or (of (cut C t) s) (k + 1) 0 ≡ get_or t (base C s + k + 1) 0
  cut_after s k h = cut_at s (k + 1) h ∙ ap (λ (m : ℕ). get_or t m 0) (let e : base C s + (k + 1) ≡ base C s + k + 1 = omega arith in e)

  -- an input's draws are on its owner's tape
  in_room : (i : ℕ) → i < C.ins → 2 * owned C.owner (C.owner i) i + 1 < tape_length C (C.owner i)
  unfolding tape_length
  in_room i h =
      let a : owned C.owner (C.owner i) i + 1 ≤ all_owned C (C.owner i) = rw (is_itself (C.owner i)) at (owned_room C.owner (C.owner i) i C.ins h) in
      omega arith

  -- a dealing gate's are on every tape
  gate_room : (g : ℕ) (s : Site) → g < C.gates → dealing (C.gate g) ≡ 1 → 2 * (all_owned C s + ands C.gate g) + 1 < tape_length C s
  unfolding tape_length
  gate_room g s h k = let a = ands_room C.gate g C.gates h in omega arith

  -- an input's first draw
  pub drawn_in1 : (i : ℕ) → i < C.ins → (read C t).in1 i ≡ get_or t (base C (C.owner i) + 2 * owned C.owner (C.owner i) i) 0
  unfolding draws
  drawn_in1 i h = cut_at (C.owner i) (2 * owned C.owner (C.owner i) i) (let r = in_room i h in omega arith)

  -- and its second
  pub drawn_in2 : (i : ℕ) → i < C.ins → (read C t).in2 i ≡ get_or t (base C (C.owner i) + 2 * owned C.owner (C.owner i) i + 1) 0
  unfolding draws
  drawn_in2 i h = cut_after (C.owner i) (2 * owned C.owner (C.owner i) i) (in_room i h)

  -- a site's first draw at a gate
  pub drawn_g1 : (g : ℕ) (s : Site) → g < C.gates → dealing (C.gate g) ≡ 1 → (read C t).g1 g s ≡ get_or t (base C s + 2 * (all_owned C s + ands C.gate g)) 0
  unfolding draws
  drawn_g1 g s h k = cut_at s (2 * (all_owned C s + ands C.gate g)) (let r = gate_room g s h k in omega arith)

  -- and its second
  pub drawn_g2 : (g : ℕ) (s : Site) → g < C.gates → dealing (C.gate g) ≡ 1 → (read C t).g2 g s ≡ get_or t (base C s + 2 * (all_owned C s + ands C.gate g) + 1) 0
  unfolding draws
  drawn_g2 g s h k = cut_after s (2 * (all_owned C s + ands C.gate g)) (gate_room g s h k)

  -- where a gate's draws stand
  abbrev pub spots : ℕ → Trio ℕ
  spots g = let m = ands C.gate g in
      record { at1 = base C s1 + 2 * (all_owned C s1 + m); at2 = base C s2 + 2 * (all_owned C s2 + m); at3 = base C s3 + 2 * (all_owned C s3 + m) }

  spot_is : (g : ℕ) (s : Site) → of (spots g) s ≡ base C s + 2 * (all_owned C s + ands C.gate g)
  spot_is g s1 = refl
  spot_is g s2 = refl
  spot_is g s3 = refl

  -- a gate that deals finds them there
  pub drawn : (g : ℕ) → g < C.gates → dealing (C.gate g) ≡ 1 → Drawn t (spots g) ((read C t).g1 g) ((read C t).g2 g)
  drawn g h k = (
    λ s. ap (λ (m : ℕ). get_or t m 0) (spot_is g s) ∙ sym (drawn_g1 g s h k),
    λ s. ap (λ (m : ℕ). get_or t (m + 1) 0) (spot_is g s) ∙ sym (drawn_g2 g s h k),
  )

-- ---- the running places
-- the tape that the code reads is the owner's
pub own_place_is : (owner : ℕ) (p : Pos) → own_place owner p ≡ site_place p (site_of owner)
unfolding own_place
own_place_is owner p = by_number (site_place p) owner

module _ (C : Circuit) (i : ℕ) where
  -- the owner's running place
  at_owner : (s : Site) → site_place (in_place C i) s ≡ base C s + 2 * owned C.owner s i
  unfolding in_places
  at_owner s1 = refl
  at_owner s2 = refl
  at_owner s3 = refl

  -- the places after input i
  pub in_place_suc : one_more (in_place C i) (C.owner i) ≡ in_place C (suc i)
  unfolding in_places owned
  in_place_suc = placed_eq (omega arith) (omega arith) (omega arith) (omega arith)

-- a gate that deals takes two bits of each tape and twelve of the line, the others none
abbrev pub gate_pos : Gate → Pos → Pos
gate_pos (XOR a b) p = p
gate_pos (AND a b) p = next_pos p
gate_pos (OR a b) p = next_pos p
gate_pos (NOT a) p = p

pub pos_after : (C : Circuit) (m : ℕ) (k : Gate) → gate_pos k (place C m) ≡ place C (m + dealing k)
unfolding place next_pos dealing
pos_after C m (XOR a b) = placed_eq (omega arith) (omega arith) (omega arith) (omega arith)
pos_after C m (AND a b) = placed_eq (omega arith) (omega arith) (omega arith) (omega arith)
pos_after C m (OR a b) = placed_eq (omega arith) (omega arith) (omega arith) (omega arith)
pos_after C m (NOT a) = placed_eq (omega arith) (omega arith) (omega arith) (omega arith)

-- ---- an input
-- the code deals what the owner does
pub deal_is : (C : Circuit) (x : ℕ → ℕ) (tapes : List ℕ) (i owner : ℕ) → i < C.ins → C.owner i ≡ site_of owner
    → deal_at bits tapes (own_place owner (in_place C i)) (x i) ≡ sent_of (deal bits (x i) ((read C tapes).in1 i) ((read C tapes).in2 i))
unfolding deal_at
deal_is C x tapes i owner h q =
    let p : own_place owner (in_place C i) ≡ base C (C.owner i) + 2 * owned C.owner (C.owner i) i
    = own_place_is owner (in_place C i) ∙ ap (site_place (in_place C i)) (sym q) ∙ at_owner C i (C.owner i) in
    ap₂ (λ (a b : ℕ). sent_of (deal bits (x i) a b)) (ap (λ (t : ℕ). get_or tapes t 0) p ∙ sym (drawn_in1 C tapes i h))
    (ap (λ (t : ℕ). get_or tapes (t + 1) 0) p ∙ sym (drawn_in2 C tapes i h))
