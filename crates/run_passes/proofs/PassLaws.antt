-- What the proofs of the passes cite.
--     lower_of, lower_up              a good gate reads lower wires
--     add_kind, flip_kind, deal_kind  the step that a kind's number means;  and_or_kind, and_or_lower: AND and OR together
--     step_done, step_room            a step does what its gate does, and has the room that it wants
--     placed_eq, one_more, in_pos_is  equal places; the places after one input more of one site
-- Assumes nothing.
use mathlib.Core.Path.{◌≡◌, refl, sym, ap, ◌∙◌, subst}
use mathlib.Core.Bool.{true, cond}
use mathlib.Core.List.{List}
use Prim.Native.Nat.{ℕ, zero, suc, ◌+◌, ◌*◌, ◌<◌, ◌≤◌}
use native.Mathlib.Omega.{arith}
use native.Mathlib.Nat.{add-zero, le_refl, le_trans, le-add_right, not-suc-le-zero, eq-or-lt_of_le, le_of_suc-le-suc}
use mathlib.Core.Logic.{⊎_elim}
use lib.ListN.{length}
use borrow.Author.Tests.{ne_eqb}
use Rattle.theory_sharing.specs.Sites.{Site, s1, s2, s3, is}
use Rattle.theory_sharing.specs.Circuit.{Gate, XOR, AND, OR, NOT, dealing, ands, owned}
use Rattle.theory_calls.specs.File.{owner_at, gate_of, site_of, circuit}
use Rattle.theory_calls.specs.Checks.{good_gate}
use Rattle.file_parts.proofs.SiteLaws.{by_number}
use Rattle.file_parts.proofs.CheckedLaws.{operands_lower}
use Rattle.run_steps.specs.Mirror.{or_bit}
use Rattle.file_parts.specs.Loop.{up_to}
use Rattle.run_steps.specs.declared.Pos.{Pos}
use Rattle.run_passes.specs.declared.Step.{Step}
use Rattle.run_passes.specs.declared.Step.TheVariants.{Add, Flip, Deal}
use Rattle.run_passes.specs.Mirror.{St, placed, Small, next_pos, and_on, gate_on, step_by, step_on, deals, Lower, Room, gates_on, own_place, in_pos, input_on, inputs_on, InRoom}

-- whatever its kind, both its numbers are lower wires
kind_lowers : (kind a b w : ℕ) → (a < w) × (b < w) → Lower (gate_of kind a b) w
unfolding gate_of
kind_lowers zero a b w p = p
kind_lowers (suc zero) a b w p = p
kind_lowers (suc (suc zero)) a b w p = p
kind_lowers (suc (suc (suc zero))) a b w p = (p.0, let h = p.0 in omega arith)
kind_lowers (suc (suc (suc (suc n)))) a b w p = p

pub lower_of : (kind a b w : ℕ) → good_gate kind a b w ≡ true → Lower (gate_of kind a b) w
lower_of kind a b w e = kind_lowers kind a b w (operands_lower kind a b w e)

-- lower than a wire is lower than all
pub lower_up : (k : Gate) (w n : ℕ) → Lower k w → w ≤ n → Lower k n
lower_up (XOR a b) w n p h = let x = p.0 in let y = p.1 in (omega arith, omega arith)
lower_up (AND a b) w n p h = let x = p.0 in let y = p.1 in (omega arith, omega arith)
lower_up (OR a b) w n p h = let x = p.0 in let y = p.1 in (omega arith, omega arith)
lower_up (NOT a) w n p h = let x = p.0 in let y = p.1 in (omega arith, omega arith)

-- ---- a gate as a step: by its kind's number
pub add_kind : (kind a b : ℕ) → kind ≡ 1 → step_by (gate_of kind a b) ≡ Add a b
unfolding gate_of
add_kind kind a b e = rw e

pub flip_kind : (kind a b : ℕ) → kind ≡ 3 → step_by (gate_of kind a b) ≡ Flip a
unfolding gate_of
flip_kind kind a b e = rw e

-- a kind that is neither is AND or OR, and or_bit tells which
pub deal_kind : (kind a b : ℕ) → (kind ≡ 1 → ⊥) → (kind ≡ 3 → ⊥) → step_by (gate_of kind a b) ≡ Deal a b (or_bit kind)
unfolding gate_of or_bit
deal_kind zero a b p q = refl
deal_kind (suc zero) a b p q = absurd (p refl)
deal_kind (suc (suc zero)) a b p q = refl
deal_kind (suc (suc (suc zero))) a b p q = absurd (q refl)
deal_kind (suc (suc (suc (suc n)))) a b p q = rw (ne_eqb (suc (suc (suc (suc n)))) 2 (λ h. omega arith)) refl

-- a step does what its gate does, and has the room that it wants
step_is : (tapes line : List ℕ) (n w : ℕ) (g : Gate) (x : St) → step_on tapes line n w (step_by g) x ≡ gate_on tapes line n w g x
unfolding gate_on
step_is tapes line n w (XOR a b) x = refl
step_is tapes line n w (AND a b) x = refl
step_is tapes line n w (OR a b) x = refl
step_is tapes line n w (NOT a) x = refl

pub step_deals : (g : Gate) → dealing g ≡ deals (step_by g)
unfolding dealing
step_deals (XOR a b) = refl
step_deals (AND a b) = refl
step_deals (OR a b) = refl
step_deals (NOT a) = refl

pub step_done : (tapes line : List ℕ) (n w : ℕ) (x y : St) (s : Step) (g : Gate) → s ≡ step_by g → y ≡ step_on tapes line n w s x → y ≡ gate_on tapes line n w g x
step_done tapes line n w x y s g e q = q ∙ ap (λ (z : Step). step_on tapes line n w z x) e ∙ step_is tapes line n w g x

pub step_room : (s : Step) (g : Gate) (t l r : ℕ) (p : Pos) → s ≡ step_by g → Room (dealing g) t l r p → Room (deals s) t l r p
step_room s g t l r p e o = subst (λ (m : ℕ). Room m t l r p) (step_deals g ∙ sym (ap deals e)) o

-- ---- the places after gates
unfoldable pub moved : ℕ → Pos → Pos
moved m p = placed (p.t1 + 2 * m) (p.t2 + 2 * m) (p.t3 + 2 * m) (p.at + 12 * m)

pub placed_eq : {a b c d a' b' c' d' : ℕ} → a ≡ a' → b ≡ b' → c ≡ c' → d ≡ d' → placed a b c d ≡ placed a' b' c' d'
placed_eq p q r s = λ i. placed (p i) (q i) (r i) (s i)

unmoved : (p : Pos) → p ≡ moved 0 p
unfolding moved
unmoved p = placed_eq (omega arith) (omega arith) (omega arith) (omega arith)

moved_add : (a b : ℕ) (p : Pos) → moved b (moved a p) ≡ moved (a + b) p
unfolding moved
moved_add a b p = placed_eq (omega arith) (omega arith) (omega arith) (omega arith)

next_moves : (p : Pos) → next_pos p ≡ moved 1 p
unfolding moved next_pos
next_moves p = placed_eq (omega arith) (omega arith) (omega arith) (omega arith)

gate_moves : (tapes line : List ℕ) (n w : ℕ) (G : Gate) (x : St) → (gate_on tapes line n w G x).pos ≡ moved (dealing G) x.pos
unfolding gate_on and_on dealing
gate_moves tapes line n w (XOR a b) x = unmoved x.pos
gate_moves tapes line n w (NOT a) x = unmoved x.pos
gate_moves tapes line n w (AND a b) x = next_moves x.pos
gate_moves tapes line n w (OR a b) x = next_moves x.pos

pub gates_pos : (file tapes line : List ℕ) (i n : ℕ) (x : St) (k : ℕ) → (gates_on file tapes line i n x k).pos ≡ moved (ands (circuit file).gate k) x.pos
unfolding up_to ands
gates_pos file tapes line i n x zero = unmoved x.pos
gates_pos file tapes line i n x (suc k) =
    gate_moves tapes line n (i + k) ((circuit file).gate k) (gates_on file tapes line i n x k)
    ∙ ap (moved (dealing ((circuit file).gate k))) (gates_pos file tapes line i n x k)
    ∙ moved_add (ands (circuit file).gate k) (dealing ((circuit file).gate k)) x.pos

-- a gate that deals is one of those counted
pub ands_room : (f : ℕ → Gate) (k n : ℕ) → k < n → ands f k + dealing (f k) ≤ ands f n
unfolding ands
ands_room f k zero h = absurd (not-suc-le-zero h)
ands_room f k (suc n) h =
    ⊎_elim (λ e. subst (λ (m : ℕ). ands f k + dealing (f k) ≤ ands f m + dealing (f m)) e (le_refl _))
    (λ l. le_trans (ands_room f k n l) (le-add_right _ _)) (eq-or-lt_of_le (le_of_suc-le-suc h))

-- what the whole loop has room for, each gate has
pub room_at : (file tapes line : List ℕ) (i n : ℕ) (x y : St) (k g r r' : ℕ) → k < g → r' ≡ r → Room (ands (circuit file).gate g) (length tapes) (length line) r x.pos
    → y ≡ gates_on file tapes line i n x k → Room (dealing ((circuit file).gate k)) (length tapes) (length line) r' y.pos
unfolding moved
room_at file tapes line i n x y k g r r' h e o q =
    let m : y.pos ≡ moved (ands (circuit file).gate k) x.pos = ap (λ (z : St). z.pos) q ∙ gates_pos file tapes line i n x k in
    let a = ands_room (circuit file).gate k g h in
    let e1 : y.pos.t1 ≡ x.pos.t1 + 2 * ands (circuit file).gate k = ap (λ (z : Pos). z.t1) m in
    let e2 : y.pos.t2 ≡ x.pos.t2 + 2 * ands (circuit file).gate k = ap (λ (z : Pos). z.t2) m in
    let e3 : y.pos.t3 ≡ x.pos.t3 + 2 * ands (circuit file).gate k = ap (λ (z : Pos). z.t3) m in
    let e4 : y.pos.at ≡ x.pos.at + 12 * ands (circuit file).gate k = ap (λ (z : Pos). z.at) m in
    let o1 = o.one in let o2 = o.two in let o3 = o.thr in let o4 = o.lin in let o5 = o.trn in
    record { one = omega arith; two = omega arith; thr = omega arith; lin = omega arith; trn = omega arith; few_tapes = o.few_tapes; few_line = o.few_line }

-- ---- inputs
-- the places after k inputs, of which each site owns so many
abbrev pub in_moved : (Site → ℕ) → ℕ → Pos → Pos
in_moved m k p = placed (p.t1 + 2 * m s1) (p.t2 + 2 * m s2) (p.t3 + 2 * m s3) (p.at + 4 * k)

-- one input more of one site
abbrev pub one_more : Pos → Site → Pos
one_more p s = in_moved (λ z. cond (is z s) 1 0) 1 p

pub in_pos_is : (owner : ℕ) (p : Pos) → in_pos owner p ≡ one_more p (site_of owner)
unfolding in_pos is
in_pos_is owner p = simp add-zero at (by_number (one_more p) owner)

pub inputs_pos : (file xs tapes line : List ℕ) (n : ℕ) (x : St) (k : ℕ) → (inputs_on file xs tapes line n x k).pos
    ≡ in_moved (λ s. owned (circuit file).owner s k) k x.pos
unfolding up_to owned input_on
inputs_pos file xs tapes line n x zero = placed_eq (omega arith) (omega arith) (omega arith) (omega arith)
inputs_pos file xs tapes line n x (suc k) =
    let y = inputs_on file xs tapes line n x k in
    let m = inputs_pos file xs tapes line n x k in
    let e1 : y.pos.t1 ≡ x.pos.t1 + 2 * owned (circuit file).owner s1 k = ap (λ (z : Pos). z.t1) m in
    let e2 : y.pos.t2 ≡ x.pos.t2 + 2 * owned (circuit file).owner s2 k = ap (λ (z : Pos). z.t2) m in
    let e3 : y.pos.t3 ≡ x.pos.t3 + 2 * owned (circuit file).owner s3 k = ap (λ (z : Pos). z.t3) m in
    let e4 : y.pos.at ≡ x.pos.at + 4 * k = ap (λ (z : Pos). z.at) m in
    in_pos_is (owner_at file k) y.pos ∙ placed_eq (omega arith) (omega arith) (omega arith) (omega arith)

-- one more input is one of those counted
pub owned_room : (f : ℕ → Site) (s : Site) (k n : ℕ) → k < n → owned f s k + cond (is s (f k)) 1 0 ≤ owned f s n
unfolding owned
owned_room f s k zero h = absurd (not-suc-le-zero h)
owned_room f s k (suc n) h =
    ⊎_elim (λ e. subst (λ (m : ℕ). owned f s k + cond (is s (f k)) 1 0 ≤ owned f s m + cond (is s (f m)) 1 0) e (le_refl _))
    (λ l. le_trans (owned_room f s k n l) (le-add_right _ _)) (eq-or-lt_of_le (le_of_suc-le-suc h))

pub own_room : (owner : ℕ) (p : Pos) (t : ℕ) → p.t1 + 2 * cond (is s1 (site_of owner)) 1 0 ≤ t → p.t2 + 2 * cond (is s2 (site_of owner)) 1 0 ≤ t
    → p.t3 + 2 * cond (is s3 (site_of owner)) 1 0 ≤ t → own_place owner p + 2 ≤ t
unfolding own_place site_of is
own_room zero p t a b c = c
own_room (suc zero) p t a b c = a
own_room (suc (suc zero)) p t a b c = b
own_room (suc (suc (suc n))) p t a b c = rw (ne_eqb (suc (suc (suc n))) 1 (λ e. omega arith), ne_eqb (suc (suc (suc n))) 2 (λ e. omega arith)) c

abbrev pub InStep : ℕ → ℕ → ℕ → ℕ → Pos → Type 0
InStep owner t l r q =
    Small q × ((own_place owner q + 2 ≤ t) × (q.at + 4 ≤ l) × (q.at + 4 ≤ r))

-- what the whole loop has room for, each input has
pub in_room_at : (file xs tapes line : List ℕ) (n : ℕ) (x y : St) (k i r r' : ℕ) → k < i → r' ≡ r
    → InRoom (circuit file).owner i (length tapes) (length line) r x.pos → y ≡ inputs_on file xs tapes line n x k
    → InStep (owner_at file k) (length tapes) (length line) r' y.pos
in_room_at file xs tapes line n x y k i r r' h e o q =
    let f : ℕ → Site = (circuit file).owner in
    let m : y.pos ≡ in_moved (λ s. owned f s k) k x.pos = ap (λ (z : St). z.pos) q ∙ inputs_pos file xs tapes line n x k in
    let a1 = owned_room f s1 k i h in let a2 = owned_room f s2 k i h in let a3 = owned_room f s3 k i h in
    let e1 : y.pos.t1 ≡ x.pos.t1 + 2 * owned f s1 k = ap (λ (z : Pos). z.t1) m in
    let e2 : y.pos.t2 ≡ x.pos.t2 + 2 * owned f s2 k = ap (λ (z : Pos). z.t2) m in
    let e3 : y.pos.t3 ≡ x.pos.t3 + 2 * owned f s3 k = ap (λ (z : Pos). z.t3) m in
    let e4 : y.pos.at ≡ x.pos.at + 4 * k = ap (λ (z : Pos). z.at) m in
    let o1 = o.one in let o2 = o.two in let o3 = o.thr in let o4 = o.lin in let o5 = o.trn in let o6 = o.few_tapes in let o7 = o.few_line in
    ((omega arith, omega arith, omega arith, omega arith), (own_room (owner_at file k) y.pos (length tapes) (omega arith) (omega arith) (omega arith), omega arith, omega arith))

-- a kind that is neither XOR nor NOT is AND or OR, and or_bit tells which: so what holds of both holds of it
pub and_or_kind : {A : Type 0} (of-gate : Gate → A) (of-bit : ℕ → A) (kind a b o : ℕ) → (kind ≡ 1 → ⊥) → (kind ≡ 3 → ⊥) → o ≡ or_bit kind
    → of-gate (AND a b) ≡ of-bit 0 → of-gate (OR a b) ≡ of-bit 1 → of-gate (gate_of kind a b) ≡ of-bit o
unfolding gate_of or_bit
and_or_kind f g zero a b o p q e x y = y ∙ ap g (sym e)
and_or_kind f g (suc zero) a b o p q e x y = absurd (p refl)
and_or_kind f g (suc (suc zero)) a b o p q e x y = x ∙ ap g (sym e)
and_or_kind f g (suc (suc (suc zero))) a b o p q e x y = absurd (q refl)
and_or_kind f g (suc (suc (suc (suc n)))) a b o p q e x y = y ∙ ap g (sym (e ∙ rw (ne_eqb (suc (suc (suc (suc n)))) 2 (λ h. omega arith)) refl))

pub and_or_lower : (kind a b w : ℕ) → (kind ≡ 1 → ⊥) → (kind ≡ 3 → ⊥) → Lower (gate_of kind a b) w → (a < w) × (b < w)
unfolding gate_of
and_or_lower zero a b w p q h = h
and_or_lower (suc zero) a b w p q h = absurd (p refl)
and_or_lower (suc (suc zero)) a b w p q h = h
and_or_lower (suc (suc (suc zero))) a b w p q h = absurd (q refl)
and_or_lower (suc (suc (suc (suc n)))) a b w p q h = h
