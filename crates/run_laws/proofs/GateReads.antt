-- A gate at any places is its wire put, and its bits told, where its operands read right.
--     flips_zero, flips_one      the code's flips are none, or the document's, where adding 0 changes nothing
--     bits_zero                  that premise, for bits
--     and_sent, or_sent          what is sent at an AND and at an OR
--     gate_reads, tell_reads     every kind of gate: the store, and the transcript
use mathlib.Core.Path.{◌≡◌, refl, sym, ap, ap₂, ◌∙◌}
use mathlib.Core.List.{List, ◌++◌, append-nil}
use Prim.Native.Nat.{ℕ, ◌+◌, ◌*◌, ◌≤◌}
use native.Mathlib.Omega.{arith}
use lib.ListN.{length}
use lib.Bits.{xor_zero_r}
use Rattle.theory_sharing.specs.Ops.{Ops, bits}
use Rattle.theory_sharing.specs.Sites.{Site, Trio}
use Rattle.theory_sharing.specs.Circuit.{Gate, XOR, AND, OR, NOT, dealing}
use Rattle.theory_sharing.specs.Steps.{Wire, flip, deals, Pair}
use Rattle.theory_sharing.specs.Store.{fill}
use Rattle.run_messages.specs.declared.Twelve.{Twelve}
use Rattle.run_steps.specs.Mirror.{takes, on_lines, put_twelve}
use Rattle.run_laws.specs.Link.{sent3, flips, put_wire, Reads}
use Rattle.run_laws.specs.Places.{Operands, Drawn, moved, gate_by, told_by, sent_at, gate_at, tell_at}
use Rattle.run_laws.proofs.FillLaws.{put_link12}
use Rattle.run_laws.proofs.PartLaws.{pair_eq}
use Rattle.run_laws.proofs.ReadLaws.{add_reads, flips_reads, sends_reads, takes_puts}

-- three equal pairs are an equal wire
wire_eq : {a b c d e f : Pair} → a ≡ d → b ≡ e → c ≡ f → ◌≡◌ {A = Wire} (record { at1 = a; at2 = b; at3 = c }) (record { at1 = d; at2 = e; at3 = f })
wire_eq p q r = λ i. record { at1 = p i; at2 = q i; at3 = r i }

-- ---- where adding 0 changes nothing
module _ (R : Ops) (zero-r : (x : ℕ) → R.add x 0 ≡ x) where
  -- AND flips nothing
  pub flips_zero : (x : Wire) → flips R 0 x ≡ x
  flips_zero x = wire_eq (pair_eq (zero-r _) (zero-r _)) (pair_eq (zero-r _) (zero-r _)) (pair_eq (zero-r _) (zero-r _))

  -- OR and NOT flip part 1 wherever held
  pub flips_one : (x : Wire) → flips R 1 x ≡ flip R x
  flips_one x = wire_eq (pair_eq refl (zero-r _)) (pair_eq (zero-r _) (zero-r _)) (pair_eq (zero-r _) refl)

-- the premise, for bits, which the functions work on
pub bits_zero : (x : ℕ) → bits.add x 0 ≡ x
bits_zero x = xor_zero_r x

module _ (R : Ops) (tapes : List ℕ) (er : ℕ → ℕ) (n : ℕ) (t : Trio ℕ) (α β : Site → ℕ) (l : List ℕ) (hl : length l ≡ 6 * n) (zero-r : (x : ℕ) → R.add x 0 ≡ x) where
  -- what is sent at an AND
  pub and_sent : (a b : ℕ) (x y : Wire) → Reads n l a x → Reads n l b y → Drawn tapes t α β → sent_at R tapes n t 0 a b l ≡ sent3 (deals R α β x y)
  and_sent a b x y p q d = sends_reads n l hl R tapes 0 a b x y p q t α β d ∙ ap₂ (λ (u v : Wire). sent3 (deals R α β u v)) (flips_zero R zero-r x) (flips_zero R zero-r y)

  -- and at an OR
  pub or_sent : (a b : ℕ) (x y : Wire) → Reads n l a x → Reads n l b y → Drawn tapes t α β → sent_at R tapes n t 1 a b l ≡ sent3 (deals R α β (flip R x) (flip R y))
  or_sent a b x y p q d = sends_reads n l hl R tapes 1 a b x y p q t α β d ∙ ap₂ (λ (u v : Wire). sent3 (deals R α β u v)) (flips_one R zero-r x) (flips_one R zero-r y)

  module _ (σ : ℕ → ℕ) (W : ℕ → Wire) where
    -- the store: place w becomes the document's wire
    pub gate_reads : (w : ℕ) (k : Gate) → Operands (λ a. Reads n l (σ a) (W a)) k → (dealing k ≡ 1 → Drawn tapes t α β)
        → gate_at R tapes er n t w (moved σ k) l ≡ put_wire n w (gate_by R er α β k W) l
    unfolding gate_at moved gate_by dealing
    gate_reads w (XOR a b) p d = add_reads n l hl R (σ a) (σ b) w (W a) (W b) p.0 p.1
    gate_reads w (AND a b) p d =
        ap (λ (m : Twelve). takes R n w 0 m (on_lines R er m) l) (and_sent (σ a) (σ b) (W a) (W b) p.0 p.1 (d refl))
        ∙ takes_puts R n w l 0 er (deals R α β (W a) (W b)) ∙ ap (λ (x : Wire). put_wire n w x l) (flips_zero R zero-r _)
    gate_reads w (OR a b) p d =
        ap (λ (m : Twelve). takes R n w 1 m (on_lines R er m) l) (or_sent (σ a) (σ b) (W a) (W b) p.0 p.1 (d refl))
        ∙ takes_puts R n w l 1 er (deals R α β (flip R (W a)) (flip R (W b))) ∙ ap (λ (x : Wire). put_wire n w x l) (flips_one R zero-r _)
    gate_reads w (NOT a) p d = flips_reads n l hl R (σ a) w (W a) p ∙ ap (λ (x : Wire). put_wire n w x l) (flips_one R zero-r (W a))

    -- the transcript: the document's bits are told behind what was told
    pub tell_reads : (k : Gate) → Operands (λ a. Reads n l (σ a) (W a)) k → (dealing k ≡ 1 → Drawn tapes t α β)
        → (old done : List ℕ) (at : ℕ) → length done ≡ at → at + 12 * dealing k ≤ length old
        → tell_at R tapes er n t at (moved σ k) l (fill old done) ≡ fill old (done ++ told_by R er α β k W)
    unfolding tell_at moved told_by dealing
    tell_reads (XOR a b) p d old done at e h = ap (fill old) (sym (append-nil done))
    tell_reads (AND a b) p d old done at e h =
        ap (λ (m : Twelve). put_twelve at (on_lines R er m) (fill old done)) (and_sent (σ a) (σ b) (W a) (W b) p.0 p.1 (d refl))
        ∙ put_link12 R old done at er (deals R α β (W a) (W b)) e (omega arith)
    tell_reads (OR a b) p d old done at e h =
        ap (λ (m : Twelve). put_twelve at (on_lines R er m) (fill old done)) (or_sent (σ a) (σ b) (W a) (W b) p.0 p.1 (d refl))
        ∙ put_link12 R old done at er (deals R α β (flip R (W a)) (flip R (W b))) e (omega arith)
    tell_reads (NOT a) p d old done at e h = ap (fill old) (sym (append-nil done))
