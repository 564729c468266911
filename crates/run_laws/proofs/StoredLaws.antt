-- The store of a run on any line: each step puts its wire, and at the end it is the document's.
--     puts_length, puts_read, live_reads    a store after puts is as long as it was; a place holds what was put there last; a live wire reads right
--     stored_long, stored_reads             the same, of the store of a run
--     input_stored, gate_stored             one input, one gate
--     moved_none, live_as_is                wires at their own numbers: nothing is moved, every wire that is there lives
--     all_stored                            all of them
use mathlib.Core.Path.{◌≡◌, refl, sym, ap, ◌∙◌, subst}
use mathlib.Core.Logic.{⊎_elim}
use mathlib.Core.List.{List}
use Prim.Native.Nat.{ℕ, zero, suc, ◌+◌, ◌*◌, ◌≤◌, ◌<◌}
use native.Mathlib.Omega.{arith}
use native.Mathlib.Nat.{eq-or-lt_of_le, le_of_suc-le-suc}
use lib.ListN.{length}
use Rattle.theory_sharing.specs.Ops.{bits}
use Rattle.theory_sharing.specs.Sites.{Trio}
use Rattle.theory_sharing.specs.Circuit.{Gate, XOR, AND, OR, NOT, Circuit, Draws, Errors, dealing}
use Rattle.theory_sharing.specs.Published.{Deal, deal}
use Rattle.theory_sharing.specs.Steps.{Wire, in_wire}
use Rattle.theory_sharing.specs.Run.{after}
use Rattle.theory_sharing.specs.Store.{store}
use Rattle.theory_sharing.proofs.RunLaws.{after_length}
use Rattle.theory_sharing.proofs.StoreLaws.{store_length}
use Rattle.theory_calls.specs.File.{site_of}
use Rattle.run_messages.specs.Mirror.{on_line, in_pairs}
use Rattle.run_steps.specs.Mirror.{put_held}
use Rattle.run_laws.specs.Link.{sent_of, put_wire, Reads}
use Rattle.run_laws.specs.Places.{Operands, Drawn, moved, gate_at, puts, Live, as_is, wire_of, stored}
use Rattle.run_laws.proofs.ReadLaws.{in_puts, store_reads, store_ext, put_length, put_same, put_other}
use Rattle.run_laws.proofs.GateReads.{bits_zero, gate_reads}
use Rattle.run_laws.proofs.WireLaws.{operands, wires_make, wires_in}

-- ---- puts in any order, into places that are used again
module _ (n : ℕ) (σ : ℕ → ℕ) (W : ℕ → Wire) (v : ℕ → ℕ) (l : List ℕ) (hl : length l ≡ 6 * n) where
  pub puts_length : (k : ℕ) → length (puts n σ W v k l) ≡ 6 * n
  unfolding puts
  puts_length zero = hl
  puts_length (suc k) = put_length n (puts n σ W v k l) (puts_length k) (σ (v k)) (W (v k))

  -- a place holds what was put there as long as nothing else was
  pub puts_read : (i k : ℕ) → i < k → ((j : ℕ) → i < j → j < k → σ (v j) ≡ σ (v i) → ⊥) → σ (v i) < n → Reads n (puts n σ W v k l) (σ (v i)) (W (v i))
  unfolding puts
  puts_read i zero h s r = absurd (omega arith)
  puts_read i (suc k) h s r =
      ⊎_elim
      (λ e. subst (λ (m : ℕ). Reads n (put_wire n (σ (v k)) (W (v k)) (puts n σ W v k l)) (σ (v m)) (W (v m))) (sym e)
      (put_same n (puts n σ W v k l) (puts_length k) (σ (v k)) (W (v k)) (subst (λ (m : ℕ). σ (v m) < n) e r)))
      (λ q. put_other n (puts n σ W v k l) (puts_length k) (σ (v k)) (W (v k)) (σ (v i)) (s k q (omega arith)) ∙ puts_read i k q (λ j a b. s j a (omega arith)) r)
      (eq-or-lt_of_le (le_of_suc-le-suc h))

  -- a live wire reads right
  pub live_reads : (k a : ℕ) → Live n σ v k a → Reads n (puts n σ W v k l) (σ a) (W a)
  live_reads k a h =
      subst (λ (m : ℕ). σ m < n → ((j : ℕ) → h.when < j → j < k → σ (v j) ≡ σ m → ⊥) → Reads n (puts n σ W v k l) (σ m) (W m)) h.itself
      (λ q s. puts_read h.when k h.before s q) h.fits h.kept

-- ---- the wires of a run
pub moved_none : (k : Gate) → moved as_is k ≡ k
unfolding moved
moved_none (XOR a b) = refl
moved_none (AND a b) = refl
moved_none (OR a b) = refl
moved_none (NOT a) = refl

-- every wire that is there lives
pub live_as_is : (n k a : ℕ) → k ≤ n → a < k → Live n as_is as_is k a
live_as_is n k a h q = record { fits = omega arith; when = a; before = q; itself = refl; kept = λ j b c e. omega arith }

module _ (C : Circuit) (x : ℕ → ℕ) (T : Draws) (E : Errors) (n : ℕ) (σ : ℕ → ℕ) (l : List ℕ) where
  abbrev W : ℕ → Wire
  W = wire_of bits C x T E

  abbrev S : ℕ → List ℕ
  S = stored C x T E n σ l

  -- one input
  pub input_stored : (i owner : ℕ) → i < C.ins → C.owner i ≡ site_of owner → (D : Deal) → D ≡ deal bits (x i) (T.in1 i) (T.in2 i)
      → put_held n (σ i) (in_pairs owner (sent_of D) (on_line bits (E.on_input i) (sent_of D))) (S i) ≡ S (suc i)
  unfolding puts
  input_stored i owner h q D d =
      in_puts bits n (σ i) (S i) (E.on_input i) D owner
      ∙ (λ j. put_wire n (σ i) (in_wire bits (E.on_input i) (sym q j) (d j)) (S i)) ∙ ap (λ (y : Wire). put_wire n (σ i) y (S i)) (sym (wires_in bits C x T E i h))

  module _ (hl : length l ≡ 6 * n) where
    pub stored_long : (k : ℕ) → length (S k) ≡ 6 * n
    stored_long = puts_length n σ W as_is l hl

    pub stored_reads : (k a : ℕ) → Live n σ as_is k a → Reads n (S k) (σ a) (W a)
    stored_reads = live_reads n σ W as_is l hl

    -- one gate, which draws what stands at places t of the tapes
    pub gate_stored : (tapes : List ℕ) (t : Trio ℕ) (g : ℕ) → g < C.gates → Operands (λ a. a < C.ins + g) (C.gate g) → Operands (Live n σ as_is (C.ins + g)) (C.gate g)
        → (dealing (C.gate g) ≡ 1 → Drawn tapes t (T.g1 g) (T.g2 g))
        → gate_at bits tapes (E.on_gate g) n t (σ (C.ins + g)) (moved σ (C.gate g)) (S (C.ins + g)) ≡ S (C.ins + suc g)
    unfolding puts
    gate_stored tapes t g h low live d =
        let w : ℕ = C.ins + g in
        let f : suc w ≡ C.ins + suc g = omega arith in
        gate_reads bits tapes (E.on_gate g) n t (T.g1 g) (T.g2 g) (S w) (stored_long w) bits_zero σ W (σ w) (C.gate g) (operands (stored_reads w) (C.gate g) live) d
        ∙ ap (λ (y : Wire). put_wire n (σ w) y (S w)) (sym (wires_make bits C x T E g h low)) ∙ ap S f

-- all wires, at their own numbers: nothing is left of what was in the store
pub all_stored : (C : Circuit) (x : ℕ → ℕ) (T : Draws) (E : Errors) (n : ℕ) → C.ins + C.gates ≡ n → (l : List ℕ) → length l ≡ 6 * n
    → stored C x T E n as_is l (C.ins + C.gates) ≡ store (after bits C x T E C.gates)
all_stored C x T E n hn l hl =
    let k : ℕ = C.ins + C.gates in
    let ws : List Wire = after bits C x T E C.gates in
    let e : length ws ≡ n = after_length bits C x T E C.gates ∙ hn in
    store_ext n (stored C x T E n as_is l k) (store ws) (stored_long C x T E n as_is l hl k) (store_length ws ∙ ap (λ (m : ℕ). 6 * m) e) (wire_of bits C x T E)
    (λ w h. stored_reads C x T E n as_is l hl k w (live_as_is n k w (omega arith) (omega arith))) (λ w h. store_reads n ws e w)
