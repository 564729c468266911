-- The pass over the gates, as one site sees it, is the document's.
--     four_got, deals_got        the four bits of an AND or OR that reach the site, by sender
--     joined                     the gates begin where the inputs end
--     gate_step                  one gate: from the document's state to the next
--     step_done, step_room       a gate by its step, and its room
use mathlib.Core.Path.{◌≡◌, refl, sym, ap, ◌∙◌, subst}
use mathlib.Core.List.{List, [], ◌∷◌, ◌++◌, append-nil}
use Prim.Native.Nat.{ℕ, suc, ◌+◌, ◌*◌, ◌≤◌, ◌<◌}
use native.Mathlib.Omega.{arith}
use lib.ListN.{length, get_or, length-append}
use Rattle.theory_sharing.specs.Ops.{bits}
use Rattle.theory_sharing.specs.Sites.{Site, s1, s2, s3, Trio, is}
use Rattle.theory_sharing.specs.Circuit.{Gate, XOR, AND, OR, NOT, Circuit, Draws, none, no_errors, dealing, ands}
use Rattle.theory_sharing.specs.Order.{if_deals}
use Rattle.theory_sharing.specs.Published.{Parts, no_parts, Deal, dealt, product, left, right, product_of, flip_parts, parts}
use Rattle.theory_sharing.specs.Steps.{Wire, no_wire, hold, deals}
use Rattle.theory_sharing.specs.Retape.{mine}
use Rattle.theory_sharing.specs.Tapes.{read}
use Rattle.theory_sharing.specs.Store.{fill}
use Rattle.theory_sharing.proofs.BitLaws.{bit_group}
use Rattle.theory_sharing.proofs.Clean.{held, look_hold}
use Rattle.theory_sharing.proofs.Seen.{got, to_site3, gates_got}
use Rattle.theory_calls.proofs.RunCall.{bit_draws}
use Rattle.run_messages.specs.Mirror.{twelve}
use Rattle.run_steps.specs.Mirror.{on_lines, put_four, takes}
use Rattle.run_messages.specs.declared.Four.{Four}
use Rattle.run_messages.specs.declared.Twelve.{Twelve}
use Rattle.run_steps.specs.declared.Pos.{Pos}
use Rattle.run_passes.specs.declared.Step.{Step}
use Rattle.run_passes.specs.Mirror.{St, st, Lower, step_by, deals as deals_in}
use Rattle.run_laws.specs.Link.{sent3, held_of, Reads}
use Rattle.run_laws.specs.Loops.{place, in_places}
use Rattle.run_laws.specs.Places.{Operands, sent_at, gate_at, as_is, stored}
use Rattle.run_laws.proofs.FillLaws.{fill_four}
use Rattle.run_laws.proofs.GateReads.{bits_zero, and_sent, or_sent}
use Rattle.run_laws.proofs.WholeLaw.{lower_is}
use Rattle.run_laws.proofs.StoredLaws.{moved_none, live_as_is, stored_long, stored_reads, gate_stored}
use Rattle.run_laws.proofs.WireLaws.{operands, wire_at}
use Rattle.run_passes.proofs.PassLaws.{placed_eq, step_deals}
use Rattle.run_laws.proofs.PassesAtPlaces.{st_eq}
use Rattle.run_laws.proofs.DrawLaws.{spots, drawn}
use Rattle.view_inputs.specs.Mirror.{four_of_site, with_at, past_and, and_seen, gate_seen, step_seen, ins_seen, state_seen, AndRoom}
use Rattle.view_inputs.proofs.InputsSeen.{on_none}

all_none : (m : Twelve) → on_lines bits none m ≡ m
unfolding on_lines
all_none m = λ i. twelve (on_none m.s1 i) (on_none m.s2 i) (on_none m.s3 i)

-- ---- an AND or OR
abbrev four_list : Four → List ℕ
four_list f = f.a ∷ f.b ∷ f.c ∷ f.d ∷ []

four_got : (s : Site) (D : Trio Deal)
    → four_list (four_of_site s (sent3 D)) ≡ got s s1 (mine s (dealt s1 D.at1)) ++ got s s2 (mine s (dealt s2 D.at2)) ++ got s s3 (mine s (dealt s3 D.at3))
unfolding four_of_site got is
four_got s1 D = refl
four_got s2 D = refl
four_got s3 D = refl

pub deals_got : (s : Site) (α β : Site → ℕ) (P Q : Parts) → four_list (four_of_site s (sent3 (deals bits α β (hold P) (hold Q)))) ≡ to_site3 bits s (λ t. product bits t P Q) α β
deals_got s α β P Q = four_got s (deals bits α β (hold P) (hold Q))

-- four bits more
put_more : (old done : List ℕ) (at : ℕ) (f : Four) (l : List ℕ) → four_list f ≡ l → length done ≡ at → at + 4 ≤ length old
    → (put_four at f (fill old done) ≡ fill old (done ++ l)) × (at + 4 ≡ length (done ++ l))
unfolding put_four
put_more old done at f l e k r = (
  fill_four old done at f.a f.b f.c f.d k r ∙ ap (λ (m : List ℕ). fill old (done ++ m)) e,
  (let z = length-append done (four_list f) in let q : at + 4 ≡ length (done ++ four_list f) = omega arith in q) ∙ ap (λ (m : List ℕ). length (done ++ m)) e,
)

-- nothing more
put_none : (done : List ℕ) → done ≡ done ++ []
put_none done = sym (append-nil done)

-- ---- the states
module _ (s : Site) (C : Circuit) (x : ℕ → ℕ) (tapes : List ℕ) (n : ℕ) (l old : List ℕ) where
  abbrev T : Draws
  T = read C tapes

  abbrev ins : ℕ → St
  ins i = ins_seen s C x T n l old i

  abbrev state : ℕ → St
  state g = state_seen s C x T n l old g

  -- the gates begin where the inputs end
  pub joined : ins C.ins ≡ state 0
  unfolding ins_seen state_seen gates_got ands place in_places
  joined = st_eq (ap (stored C x T no_errors n as_is l) (let e : C.ins ≡ C.ins + 0 = omega arith in e)) refl (placed_eq (omega arith) (omega arith) (omega arith) refl)

  -- ---- gates
  abbrev S : ℕ → List ℕ
  S g = stored C x T no_errors n as_is l (C.ins + g)

  abbrev gots : ℕ → List ℕ
  gots g = gates_got bits s C x T g

  abbrev ps : ℕ → List Parts
  ps g = parts bits C x T g

  -- what a gate k brings, at number g
  abbrev brings : ℕ → Gate → List ℕ
  brings g k = if_deals k (to_site3 bits s (λ t. product_of bits t k (ps g)) (T.g1 g) (T.g2 g))

  -- the state after g gates and this one
  unfoldable next_state : ℕ → Gate → St
  next_state g k = st (S (suc g)) (fill old (gots g ++ brings g k)) (with_at (place C (ands C.gate g + dealing k)) (length (gots g ++ brings g k)))

  state_suc : (g : ℕ) → next_state g (C.gate g) ≡ state (suc g)
  unfolding next_state state_seen gates_got ands
  state_suc g = refl

  module _ (g : ℕ) (hg : g < C.gates) (hl : length l ≡ 6 * n) (h : C.ins + g < n) (low : Lower (C.gate g) (C.ins + g)) where
    abbrev m : ℕ
    m = ands C.gate g

    abbrev w : ℕ
    w = C.ins + g

    abbrev pl : Trio ℕ
    pl = spots C tapes g

    -- a place holds the published parts of its wire
    reads : (a : ℕ) → a < w → Reads n (S g) a (hold (get_or (ps g) a no_parts))
    reads a q =
        stored_reads C x T no_errors n as_is l hl w a (live_as_is n w a (omega arith) q)
        ∙ ap held_of (sym (wire_at bits C x T no_errors g a (omega arith) q) ∙ ap (λ (z : List Wire). get_or z a no_wire) (held bit_group C x T (bit_draws T) g) ∙ look_hold (ps g) a)

    -- the store after a gate of any kind
    store_law : (k : Gate) → C.gate g ≡ k → gate_at bits tapes none n pl w k (S g) ≡ S (suc g)
    store_law k q =
        let lows : Operands (λ a. a < w) (C.gate g) = lower_is (C.gate g) w low in
        ap (λ (z : Gate). gate_at bits tapes none n pl w z (S g)) (sym q ∙ sym (moved_none (C.gate g)))
        ∙ gate_stored C x T no_errors n as_is l hl tapes pl g hg lows (operands (λ a. live_as_is n w a (omega arith)) (C.gate g) lows) (drawn C tapes g hg)

    -- a gate that deals
    abbrev sent : ℕ → ℕ → ℕ → Twelve
    sent v a b = sent_at bits tapes n pl v a b (S g)

    dealt_law : (v a b : ℕ) (k : Gate) (P Q : Parts) → dealing k ≡ 1 → sent v a b ≡ sent3 (deals bits (T.g1 g) (T.g2 g) (hold P) (hold Q))
        → takes bits n w v (sent v a b) (on_lines bits none (sent v a b)) (S g) ≡ S (suc g)
        → to_site3 bits s (λ t. product bits t P Q) (T.g1 g) (T.g2 g) ≡ brings g k → length (gots g) + 4 * dealing k ≤ length old
        → and_seen s tapes n a b w v (state g) ≡ next_state g k
    unfolding and_seen state_seen next_state place past_and
    dealt_law v a b k P Q d e t f r =
        let G = put_more old (gots g) (length (gots g)) (four_of_site s (sent v a b)) (brings g k)
        (ap (λ (z : Twelve). four_list (four_of_site s z)) e ∙ deals_got s (T.g1 g) (T.g2 g) P Q ∙ f) refl (omega arith) in
        st_eq (ap (λ (z : Twelve). takes bits n w v (sent v a b) z (S g)) (sym (all_none (sent v a b))) ∙ t) G.0
        (placed_eq (omega arith) (omega arith) (omega arith) G.1)

    -- a gate that deals nothing
    plain_law : (z : List ℕ) (k : Gate) → dealing k ≡ 0 → brings g k ≡ [] → z ≡ S (suc g)
        → st z (fill old (gots g)) (with_at (place C m) (length (gots g))) ≡ next_state g k
    unfolding next_state
    plain_law z k d e q =
        let E : gots g ≡ gots g ++ brings g k = put_none (gots g) ∙ ap (λ (y : List ℕ). gots g ++ y) (sym e) in
        let M : m ≡ m + dealing k = omega arith in
        λ i. st (q i) (fill old (E i)) (with_at (place C (M i)) (length (E i)))

    kind_law : (k : Gate) → C.gate g ≡ k → Lower k w → length (gots g) + 4 * dealing k ≤ length old → gate_seen s tapes n w k (state g) ≡ next_state g k
    unfolding gate_seen state_seen gate_at if_deals dealing left right
    kind_law (XOR a b) q u r = plain_law _ (XOR a b) refl refl (store_law (XOR a b) q)
    kind_law (AND a b) q u r =
        dealt_law 0 a b (AND a b) (get_or (ps g) a no_parts) (get_or (ps g) b no_parts) refl
        (and_sent bits tapes none n pl (T.g1 g) (T.g2 g) (S g) (stored_long C x T no_errors n as_is l hl w) bits_zero a b _ _ (reads a u.0) (reads b u.1) (drawn C tapes g hg (ap dealing q)))
        (store_law (AND a b) q) refl r
    kind_law (OR a b) q u r =
        dealt_law 1 a b (OR a b) (flip_parts bits (get_or (ps g) a no_parts)) (flip_parts bits (get_or (ps g) b no_parts)) refl
        (or_sent bits tapes none n pl (T.g1 g) (T.g2 g) (S g) (stored_long C x T no_errors n as_is l hl w) bits_zero a b _ _ (reads a u.0) (reads b u.1) (drawn C tapes g hg (ap dealing q)))
        (store_law (OR a b) q) refl r
    kind_law (NOT a) q u r = plain_law _ (NOT a) refl refl (store_law (NOT a) q)

    -- one gate
    pub gate_step : length (gots g) + 4 * dealing (C.gate g) ≤ length old → gate_seen s tapes n (C.ins + g) (C.gate g) (state g) ≡ state (suc g)
    gate_step r = kind_law (C.gate g) refl low r ∙ state_suc g

-- ---- a gate as the code takes it, by its step
step_is : (s : Site) (tapes : List ℕ) (n w : ℕ) (g : Gate) (x : St) → step_seen s tapes n w (step_by g) x ≡ gate_seen s tapes n w g x
unfolding gate_seen
step_is s tapes n w (XOR a b) x = refl
step_is s tapes n w (AND a b) x = refl
step_is s tapes n w (OR a b) x = refl
step_is s tapes n w (NOT a) x = refl

pub step_done : (s : Site) (tapes : List ℕ) (n w : ℕ) (x y : St) (k : Step) (g : Gate) → k ≡ step_by g → y ≡ step_seen s tapes n w k x → y ≡ gate_seen s tapes n w g x
step_done s tapes n w x y k g e q = q ∙ ap (λ (z : Step). step_seen s tapes n w z x) e ∙ step_is s tapes n w g x

pub step_room : (k : Step) (g : Gate) (t r : ℕ) (p : Pos) → k ≡ step_by g → AndRoom (dealing g) t r p → AndRoom (deals_in k) t r p
step_room k g t r p e o = subst (λ (m : ℕ). AndRoom m t r p) (step_deals g ∙ sym (ap deals_in e)) o
