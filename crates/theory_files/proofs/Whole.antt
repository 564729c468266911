-- A whole file that was written: what it needs to pass checks 1 to 6, and its plain values.
--     Fair               01's limits, owners 1 to 3, good gates, outputs below W
--     file_accepted      then checks 1 to 6 accept the file;  fair_fits: and, at bits, it is made of bytes
--     listed, vals       the circuit of a list of gates, and its plain values;  vals_length, vals_more: one more gate
--     written_outs       the outputs of a written file are the values of its output wires
-- Assumes nothing.
use mathlib.Core.Path.{◌≡◌, refl, sym, ap, ap₂, ◌∙◌}
use mathlib.Core.Bool.{Bool, true, false, cond, ◌&&◌, true≢false}
use mathlib.Core.List.{List, [], ◌∷◌, ◌++◌, map}
use Prim.Native.Nat.{ℕ, zero, suc, ◌+◌, ◌<◌, ◌≤◌}
use native.Mathlib.Omega.{arith}
use lib.ListN.{length, get_or, take, length-append, get_or-append, get_or-map}
use lib.Seq.{take-suc, take-length, get_or-append_seam}
use lib.Dec.{leb, ltb, eqb}
use borrow.Author.Tests.{lt-ltb, ltb-true, leb-true, eqb-true}
use Rattle.theory_sharing.specs.Sites.{s3}
use Rattle.theory_sharing.specs.Circuit.{Gate, Circuit}
use Rattle.theory_sharing.proofs.Parts.{map_snoc}
use Rattle.theory_calls.specs.File.{outputs_of, gate_of, circuit}
use Rattle.theory_calls.specs.Family.{good_gate}
use Rattle.theory_calls.specs.Plain.{byte, plain_gate, plain_values, plain}
use Rattle.theory_calls.specs.Checks.{one_to_three, row_owner, row_gate_of, row_output, file_checks, accepted, verdict}
use Rattle.theory_calls.specs.Statements.{Family, bit_family, out_of, plain_outs}
use Rattle.theory_calls.proofs.Refusals.{Clears, Passes, passes_accepted}
use Rattle.theory_calls.proofs.PlainLaws.{values_length}
use Rattle.theory_files.specs.Written.{Numbers3, file_of, Within}
use Rattle.theory_files.proofs.ReadBack.{inputs_read, gates_read, outputs_read, owner_read, kind_read, first_read, second_read, output_read}
use Rattle.theory_files.proofs.Opens.{header_passes, Fits}

abbrev pub gate_number : List Numbers3 → ℕ → Numbers3
gate_number gs k = get_or gs k (0, 0, 0)

pub record Fair (F : Family) (os : List ℕ) (gs : List Numbers3) (ws : List ℕ) : Type 0 where
  pub within : Within (length os) (length gs) (length ws)
  pub owners : (k : ℕ) → k < length os → one_to_three (get_or os k 0) ≡ true
  pub gates : (k : ℕ) → k < length gs → F.good_kind (gate_number gs k).0 (gate_number gs k).1 (gate_number gs k).2 (length os + k) ≡ true
  pub outs : (k : ℕ) → k < length ws → get_or ws k 0 < length os + length gs

module _ (F : Family) (os : List ℕ) (gs : List Numbers3) (ws : List ℕ) (h : Fair F os gs ws) where
  abbrev written : List ℕ
  written = file_of os gs ws

  owner_clear : Clears (row_owner written)
  unfolding row_owner
  owner_clear = rw (inputs_read os gs ws) (λ k l. rw (owner_read os gs ws k l, h.owners k l))

  gate_clear : Clears (row_gate_of F written)
  unfolding row_gate_of
  gate_clear =
      rw (inputs_read os gs ws, gates_read os gs ws)
      (λ k l. rw (kind_read os gs ws k l, first_read os gs ws k l, second_read os gs ws k l, h.gates k l))

  output_clear : Clears (row_output written)
  unfolding row_output
  output_clear =
      rw (inputs_read os gs ws, gates_read os gs ws, outputs_read os gs ws)
      (λ k l. rw (output_read os gs ws k, lt-ltb (get_or ws k 0) (length os + length gs) (h.outs k l)))

  pub file_accepted : verdict (file_checks F written) ≡ accepted
  unfolding Passes
  file_accepted =
      let a = header_passes os gs ws h.within in
      passes_accepted (file_checks F written) (a.0, (a.1.0, (a.1.1.0, (owner_clear, (gate_clear, (output_clear, tt))))))

-- plain values go by the inputs and by the gates so far
values_agree : (C D : Circuit) (xs : List ℕ) → C.ins ≡ D.ins → (n : ℕ) → ((k : ℕ) → k < n → C.gate k ≡ D.gate k) → plain_values C xs n ≡ plain_values D xs n
unfolding plain_values
values_agree C D xs e zero h = rw e
values_agree C D xs e (suc n) h =
    let ih = values_agree C D xs e n (λ k l. h k (omega arith)) in
    rw (ih, h n (omega arith))

-- a gate's three numbers
abbrev pub meant : Numbers3 → Gate
meant g = gate_of g.0 g.1 g.2

abbrev pub listed : ℕ → List Numbers3 → Circuit
listed i gs = record { ins = i; gates = length gs; outs = 0; owner = λ k. s3; gate = λ k. meant (gate_number gs k); out = λ k. 0 }

abbrev pub vals : ℕ → List ℕ → List Numbers3 → List Bool
vals i xs gs = plain_values (listed i gs) xs (length gs)

pub vals_length : (i : ℕ) (xs : List ℕ) (gs : List Numbers3) → length (vals i xs gs) ≡ i + length gs
vals_length i xs gs = values_length (listed i gs) xs (length gs)

pub vals_more : (i : ℕ) (xs : List ℕ) (gs : List Numbers3) (g : Numbers3) → vals i xs (gs ++ (g ∷ [])) ≡ vals i xs gs ++ (plain_gate (meant g) (vals i xs gs) ∷ [])
unfolding plain_values
vals_more i xs gs g =
    let n : length (gs ++ (g ∷ [])) ≡ suc (length gs) = length-append gs (g ∷ []) ∙ omega arith in
    let e = values_agree (listed i (gs ++ (g ∷ []))) (listed i gs) xs refl (length gs) (λ k l. ap meant (get_or-append gs (g ∷ []) (0, 0, 0) k l)) in
    ap (plain_values (listed i (gs ++ (g ∷ []))) xs) n ∙ rw (get_or-append_seam gs g [] (0, 0, 0), e)

module _ (os : List ℕ) (gs : List Numbers3) (ws xs : List ℕ) where
  abbrev whole : Circuit
  whole = circuit (file_of os gs ws)

  written_gate : (k : ℕ) → k < length gs → whole.gate k ≡ meant (gate_number gs k)
  written_gate k l = rw (inputs_read os gs ws, kind_read os gs ws k l, first_read os gs ws k l, second_read os gs ws k l)

  written_values : plain_values whole xs whole.gates ≡ vals (length os) xs gs
  written_values =
      ap (plain_values whole xs) (gates_read os gs ws)
      ∙ values_agree whole (listed (length os) gs) xs (inputs_read os gs ws) (length gs) written_gate

  -- the value of a wire, as a byte
  abbrev pub shown : ℕ → ℕ
  shown w = byte (get_or (vals (length os) xs gs) w false)

  written_out : (k : ℕ) → out_of bit_family whole xs k ≡ shown (get_or ws k 0)
  unfolding plain byte
  written_out k =
      rw (written_values, inputs_read os gs ws, gates_read os gs ws, output_read os gs ws k)
      (get_or-map byte (vals (length os) xs gs) (get_or ws k 0) false)

  outs_so_far : (n : ℕ) → n ≤ length ws → plain_outs bit_family whole xs n ≡ map shown (take n ws)
  unfolding plain_outs
  outs_so_far zero h = refl
  outs_so_far (suc n) h =
      ap₂ (λ (l : List ℕ) (v : ℕ). l ++ (v ∷ [])) (outs_so_far n (omega arith)) (written_out n)
      ∙ sym (map_snoc shown (take n ws) (get_or ws n 0)) ∙ ap (map shown) (sym (take-suc ws n 0 h))

  pub written_outs : plain_outs bit_family whole xs (outputs_of (file_of os gs ws)) ≡ map shown ws
  written_outs =
      ap (plain_outs bit_family whole xs) (outputs_read os gs ws) ∙ outs_so_far (length ws) (omega arith) ∙ ap (map shown) (take-length ws)

-- a fact of every number of a list, that the default has as well
every : {A : Type 0} (P : A → Type 0) (d : A) → P d → (l : List A) → ((k : ℕ) → k < length l → P (get_or l k d)) → (k : ℕ) → P (get_or l k d)
every P d z [] h k = z
every P d z (a ∷ l) h zero = h 0 (omega arith)
every P d z (a ∷ l) h (suc k) = every P d z l (λ j q. h (suc j) (omega arith)) k

and_both : (a b : Bool) → (a && b) ≡ true → (a ≡ true) × (b ≡ true)
and_both true b e = (refl, e)
and_both false b e = absurd (true≢false (sym e))

-- at bits, what passes check 5 below wire 65,536 has two bytes for each number
small_gate : (n a b w : ℕ) → w ≤ 65536 → good_gate n a b w ≡ true → (n < 65536) × (a < 65536) × (b < 65536)
unfolding good_gate
small_gate n a b w l e =
    let p = and_both ((leb 1 n && leb n 4) && ltb a w) (cond (eqb n 3) (eqb b 0) (ltb b w)) e in
    let q = and_both (leb 1 n && leb n 4) (ltb a w) p.0 in
    let kind : n ≤ 4 = leb-true n 4 (and_both (leb 1 n) (leb n 4) q.0).1 in
    let first : a < w = ltb-true a w q.1 in
    (omega arith, omega arith, second (eqb n 3) p.1)
  where
    second : (t : Bool) → cond t (eqb b 0) (ltb b w) ≡ true → b < 65536
    second true r = let z : b ≡ 0 = eqb-true b 0 r in omega arith
    second false r = let z : b < w = ltb-true b w r in omega arith

pub fair_fits : (os : List ℕ) (gs : List Numbers3) (ws : List ℕ) → Fair bit_family os gs ws → Fits os gs ws
fair_fits os gs ws h = record {
  within = h.within;
  owners = every (λ (o : ℕ). o < 256) 0 (omega arith) os (λ k q. owner (get_or os k 0) (h.owners k q));
  numbers =
      every (λ (g : Numbers3). (g.0 < 65536) × (g.1 < 65536) × (g.2 < 65536)) (0, 0, 0) (omega arith, omega arith, omega arith) gs
      (λ k q. small_gate _ _ _ (length os + k) (wide k q) (h.gates k q));
  outs = every (λ (w : ℕ). w < 65536) 0 (omega arith) ws (λ k q. let a = h.outs k q in let b = h.within in omega arith);
}
  where
    owner : (o : ℕ) → one_to_three o ≡ true → o < 256
    owner o e = let l : o ≤ 3 = leb-true o 3 (and_both (leb 1 o) (leb o 3) e).1 in omega arith

    wide : (k : ℕ) → k < length gs → length os + k ≤ 65536
    wide k q = let b = h.within in omega arith
