-- The circuit file of a good text: what T-01 says of it.
--     file_passes         it passes checks 1 to 6
--     same_outputs        "For all inputs our file has the text's plain outputs, by a definition of the text's own meaning."
--     gates_in_order      "XOR, AND and INV map to ours in the text's order": gates of ours are those lines, on our numbers of their wires
--     inputs_stay         an input keeps its number
--     wires_numbered      gate line k: "EQW renames a wire", and the wire of any other is I + the gates of ours before it
--     every_number_named  no number of ours is left out
--     counts_told         inputs, gates and outputs of the file;  file_small: at most 20,000 bytes;  file_bytes: each below 256
--     fair, limits        what passes 1 to 6, and 2;  owners_long, outs_long: how many owners and outputs
-- Assumes nothing.
use mathlib.Core.Path.{◌≡◌, refl, sym, ap, ap₂, ◌∙◌, subst}
use mathlib.Core.Bool.{Bool, true, false}
use mathlib.Core.List.{List, [], ◌∷◌, ◌++◌, map}
use Prim.Native.Nat.{ℕ, zero, suc, ◌+◌, ◌-◌, ◌<◌, ◌≤◌}
use native.Mathlib.Omega.{arith}
use lib.ListN.{length, get_or, take, replicate, length-append, length-replicate, length-map, get_or-replicate, get_or-append}
use lib.Seq.{get_or-append-add}
use lib.Dec.{ltb}
use borrow.Author.Tests.{ltb-true, ltb-false}
use Rattle.theory_calls.specs.File.{inputs_of, gates_of, outputs_of, circuit}
use Rattle.theory_calls.specs.Plain.{byte}
use Rattle.theory_calls.specs.Checks.{one_to_three, file_checks, accepted, verdict}
use Rattle.theory_calls.specs.Statements.{bit_family, plain_outs}
use Rattle.theory_files.specs.Written.{Numbers3, Within}
use Rattle.theory_files.proofs.ReadBack.{inputs_read, gates_read, outputs_read}
use Rattle.theory_files.proofs.Opens.{small_written, bytes_fit}
use Rattle.theory_files.proofs.Whole.{Fair, file_accepted, fair_fits, vals, shown, written_outs}
use Rattle.theory_calls.proofs.Limits.{and_first, and_second}
use Rattle.bristol_text.specs.Words.{lines}
use Rattle.bristol_text.specs.Lines.{blank, total}
use Rattle.bristol_text.specs.Heard.{Heard, heard, written, count_up, out_wires, all_written}
use Rattle.bristol_text.specs.Meaning.{text_wires, text_outs}
use Rattle.bristol_text.specs.Renamed.{renamed, spread, text_file}
use Rattle.bristol_text.specs.Order.{our_gates, Takes, Named}
use Rattle.bristol_text.specs.Good.{Good}
use Rattle.bristol_text.proofs.Sane.{Sane, good_sane}
use Rattle.bristol_text.proofs.Numbering.{our_gates_are, inputs_keep, line_takes, no_gaps}
use Rattle.bristol_text.proofs.Standing.{stands, good_gates}

-- "an owner for each input value", once for each of its wires
pub spread_length : (os ws : List ℕ) → length os ≡ length ws → length (spread os ws) ≡ total ws
unfolding spread total
spread_length [] [] e = refl
spread_length [] (w ∷ ws) e = absurd (omega arith)
spread_length (o ∷ os) [] e = absurd (omega arith)
spread_length (o ∷ os) (w ∷ ws) e =
    length-append (replicate w o) (spread os ws) ∙ ap₂ (λ (a b : ℕ). a + b) (length-replicate w o) (spread_length os ws (omega arith))

spread_all : (P : ℕ → Type 0) (os ws : List ℕ) → ((k : ℕ) → k < length os → P (get_or os k 0)) → (k : ℕ) → k < length (spread os ws) → P (get_or (spread os ws) k 0)
unfolding spread
spread_all P [] ws h k l = absurd (omega arith)
spread_all P (o ∷ os) [] h k l = absurd (omega arith)
spread_all P (o ∷ os) (w ∷ ws) h k l = go (ltb k w) refl (λ j q. spread_all P os ws (λ i p. h (suc i) (omega arith)) j q)
  where
    long : length (replicate w o) ≡ w
    long = length-replicate w o

    go : (b : Bool) → ltb k w ≡ b → ((j : ℕ) → j < length (spread os ws) → P (get_or (spread os ws) j 0)) → P (get_or (replicate w o ++ spread os ws) k 0)
    go true e ih =
        let q : k < w = ltb-true k w e in
        rw (get_or-append (replicate w o) (spread os ws) 0 k (omega (arith, long)), get_or-replicate w k o 0 q) (h 0 (omega arith))
    go false e ih =
        let q : w ≤ k = ltb-false k w e in
        let n = length-append (replicate w o) (spread os ws) in
        let i : k ≡ length (replicate w o) + (k - w) = omega (arith, long) in
        subst P (sym (ap (λ (j : ℕ). get_or (replicate w o ++ spread os ws) j 0) i ∙ get_or-append-add (replicate w o) (spread os ws) (k - w) 0))
        (ih (k - w) (omega (arith, long, n)))

-- the highest wires
pub count_length : (a n : ℕ) → length (count_up a n) ≡ n
unfolding count_up
count_length a zero = refl
count_length a (suc n) = ap suc (count_length (suc a) n)

-- a fact of our number of each wire of a list, where all are written
mapped_all : (h : Heard) (f : ℕ → ℕ) (P : ℕ → Type 0) → ((w : ℕ) → written h w ≡ true → P (f w))
    → (ws : List ℕ) → all_written h ws ≡ true → (k : ℕ) → k < length (map f ws) → P (get_or (map f ws) k 0)
unfolding all_written
mapped_all h f P q [] a k l = absurd (omega arith)
mapped_all h f P q (w ∷ ws) a zero l = q w (and_first _ _ a)
mapped_all h f P q (w ∷ ws) a (suc k) l = mapped_all h f P q ws (and_second (written h w) _ a) k (omega arith)

mapped_same : (h : Heard) (f : ℕ → ℕ) (p q : ℕ → ℕ) → ((w : ℕ) → written h w ≡ true → p (f w) ≡ q w)
    → (ws : List ℕ) → all_written h ws ≡ true → map p (map f ws) ≡ map q ws
unfolding all_written
mapped_same h f p q e [] a = refl
mapped_same h f p q e (w ∷ ws) a = ap₂ (λ (v : ℕ) (vs : List ℕ). v ∷ vs) (e w (and_first _ _ a)) (mapped_same h f p q e ws (and_second (written h w) _ a))

module _ (text owners : List ℕ) (good : Good (lines text) owners) where
  abbrev h : Heard
  h = heard (lines text)

  abbrev I : ℕ
  I = total h.ins

  abbrev os : List ℕ
  os = spread owners h.ins

  abbrev gs : List Numbers3
  gs = (renamed h).gates

  abbrev ws : List ℕ
  ws = map (renamed h).wire (out_wires h)

  sane : Sane h
  sane = good_sane (lines text) owners good

  pub owners_long : length os ≡ I
  owners_long = spread_length owners h.ins good.an_owner_each

  pub outs_long : length ws ≡ total h.outs
  outs_long = length-map (out_wires h) (renamed h).wire ∙ count_length _ (total h.outs)

  pub limits : Within (length os) (length gs) (length ws)
  limits = rw (owners_long, outs_long) good.within

  pub fair : Fair bit_family os gs ws
  fair = record {
    within = limits;
    owners = spread_all (λ (o : ℕ). one_to_three o ≡ true) owners h.ins good.owners_good;
    gates = rw owners_long (good_gates I h.wires sane.runs);
    outs =
        rw owners_long
        (mapped_all h (renamed h).wire (λ (v : ℕ). v < I + length gs) (λ w k. (stands I [] h.wires sane.runs w k).below) (out_wires h) good.outs_written);
  }

  pub file_passes : verdict (file_checks bit_family (text_file text owners)) ≡ accepted
  file_passes = file_accepted bit_family os gs ws fair

  pub same_outputs : (xs : List ℕ) → let f = text_file text owners in plain_outs bit_family (circuit f) xs (outputs_of f) ≡ text_outs text xs
  unfolding text_outs
  same_outputs xs =
      written_outs os gs ws xs
      ∙ mapped_same h (renamed h).wire (shown os gs ws xs) (λ (w : ℕ). byte (text_wires text xs w))
      (λ w k. ap byte (ap (λ (n : ℕ). get_or (vals n xs gs) ((renamed h).wire w) false) owners_long ∙ (stands I xs h.wires sane.runs w k).same))
      (out_wires h) good.outs_written

  pub gates_in_order : (renamed h).gates ≡ our_gates (renamed h).wire h.gates
  gates_in_order = our_gates_are I h.wires sane.runs

  pub inputs_stay : (w : ℕ) → w < total h.ins → (renamed h).wire w ≡ w
  inputs_stay = inputs_keep I h.wires sane.runs

  pub wires_numbered : (k : ℕ) → let f = (renamed h).wire in Takes f (total h.ins + length (our_gates f (take k h.gates))) (get_or h.gates k blank)
  wires_numbered = line_takes I h.wires sane.runs

  pub every_number_named : (v : ℕ) → v < total h.ins + length (renamed h).gates → Named h v
  every_number_named v l =
      let q = no_gaps I h.wires sane.runs v l in
      record { which = q.0; is_written = q.1; number = q.2 }

  pub counts_told : let f = text_file text owners in
      (inputs_of f ≡ total h.ins) × (gates_of f ≡ length (renamed h).gates) × (outputs_of f ≡ total h.outs)
  counts_told = (inputs_read os gs ws ∙ owners_long, gates_read os gs ws, outputs_read os gs ws ∙ outs_long)

  pub file_small : length (text_file text owners) ≤ 20000
  file_small = small_written os gs ws limits

  pub file_bytes : (k : ℕ) → get_or (text_file text owners) k 0 < 256
  file_bytes = bytes_fit os gs ws (fair_fits os gs ws fair)
