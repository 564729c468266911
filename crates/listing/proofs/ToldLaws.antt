-- A good job's text.
--     digit, text_is, told_good   what site 1 opens is one digit, and the lines are the document's
-- Assumes nothing.
use mathlib.Core.Path.{◌≡◌, refl, sym, ap, ◌∙◌}
use mathlib.Core.List.{List, [], ◌∷◌, ◌++◌}
use Prim.Native.Nat.{ℕ, zero, suc, ◌+◌, ◌*◌, ◌<◌, ◌≤◌}
use native.Mathlib.Omega.{arith}
use lib.ListN.{length, get_or}
use Rattle.std.specs.Prelude.{Ok}
use Rattle.theory_sharing.specs.Ops.{bits}
use Rattle.theory_sharing.specs.Sites.{s1}
use Rattle.theory_sharing.specs.Circuit.{Circuit, Draws, no_errors}
use Rattle.theory_sharing.specs.Run.{opened_at, outputs}
use Rattle.theory_sharing.specs.Tapes.{read}
use Rattle.theory_sharing.specs.Store.{fill}
use Rattle.theory_sharing.specs.Traffic.{table_total}
use Rattle.theory_sharing.proofs.TrafficLaws.{table_total_is}
use Rattle.theory_calls.specs.File.{circuit}
use Rattle.theory_calls.specs.Answer.{good}
use Rattle.theory_calls.specs.Listing.{decimal, word_out, word_end, space, LF, out_lines, good_text}
use Rattle.theory_calls.specs.Calls.{at_wire}
use Rattle.theory_calls.proofs.ListingCall.{shown_small}
use Rattle.file_header.specs.declared.Counts.{Counts}
use Rattle.check_given.proofs.GivenLaws.{ands_are}
use Rattle.theory_sharing.proofs.RunLaws.{outputs_at}
use native.Mathlib.Nat.{add-zero}
use Rattle.listing_text.specs.Mirror.{head_of, lines_of, shown_of, OneDigit}
use Rattle.listing_text.proofs.TextLaws.{good_lines}
use Rattle.file_counts.specs.declared.Counted.{Counted}
use Rattle.listing.specs.Answers.{listed_answer, listed_after}
use Rattle.listing.specs.Mirror.{Fit, says_good}

-- ---- a good job's text
-- three bytes an output, site 1's first
module _ (C : Circuit) (x : ℕ → ℕ) (T : Draws) where
  shown_is : (n o : ℕ) → o < n → shown_of (outputs bits C x T no_errors n) o ≡ (opened_at bits C x T no_errors o).at1
  shown_is n o h = ap (λ (k : ℕ). get_or (outputs bits C x T no_errors n) k 0) (sym (add-zero (3 * o))) ∙ outputs_at bits C x T no_errors o n h s1

-- the lines look at the outputs below their count alone
lines_same : (s u : ℕ → ℕ) (n : ℕ) → ((o : ℕ) → o < n → s o ≡ u o) → out_lines s n ≡ out_lines u n
unfolding out_lines
lines_same s u zero h = refl
lines_same s u (suc n) h =
    let p = lines_same s u n (λ o l. h o (omega arith)) in
    let q = h n (omega arith) in
    λ i. p i ++ (word_out ++ decimal n ++ space ++ decimal (q i) ++ LF)

all_same : (i g o t : ℕ) (s u : ℕ → ℕ) → ((k : ℕ) → k < o → s k ≡ u k) → lines_of i g o t s ≡ lines_of i g o t u
unfolding lines_of
all_same i g o t s u h = let p = lines_same s u o h in λ j. head_of i g o t ++ p j ++ word_end ++ LF

module _ (k : Counted) (x t : List ℕ) (d : Fit k x t) (outs : List ℕ)
    (e : outs ≡ outputs bits (circuit k.circuit.file.now) (at_wire x) (read (circuit k.circuit.file.now) t) no_errors (circuit k.circuit.file.now).outs) where
  abbrev f : List ℕ
  f = k.circuit.file.now

  abbrev c : Counts
  c = k.circuit.counts

  abbrev a : ℕ
  a = k.ands

  abbrev C : Circuit
  C = circuit f

  abbrev opens : ℕ → ℕ
  opens o = (opened_at bits C (at_wire x) (read C t) no_errors o).at1

  shown : (o : ℕ) → o < C.outs → shown_of outs o ≡ opens o
  shown o h = ap (λ (l : List ℕ). shown_of l o) e ∙ shown_is C (at_wire x) (read C t) C.outs o h

  pub digit : OneDigit outs c.outputs
  unfolding OneDigit
  digit o h =
      let u = k.circuit.checked.opened.outs_are in
      let q = shown o (omega arith) in
      let s = shown_small C x t d.in_x.small o in
      omega arith

  pub text_is : lines_of c.inputs c.gates c.outputs (4 * c.inputs + 12 * a + 3 * c.outputs) (shown_of outs) ≡ good_text C opens
  text_is =
      let o = k.circuit.checked.opened in
      let A = ands_are f c a o k.counted.0 in
      let T : 4 * c.inputs + 12 * a + 3 * c.outputs ≡ table_total C = (λ i. 4 * o.ins_are i + 12 * A i + 3 * o.outs_are i) ∙ sym (table_total_is C) in
      (λ i. lines_of (o.ins_are i) (o.gates_are i) (o.outs_are i) (T i) (shown_of outs))
      ∙ all_same C.ins C.gates C.outs (table_total C) (shown_of outs) opens shown ∙ sym (good_lines C opens)

  module _ (before after : List ℕ) (n : ℕ) where
    abbrev T : List ℕ
    T = lines_of c.inputs c.gates c.outputs (4 * c.inputs + 12 * a + 3 * c.outputs) (shown_of outs)

    pub told_good : after ≡ fill before T → n ≡ length T → listed_after (Ok n) after ≡ says_good f x t before
    unfolding listed_answer
    told_good q m =
        (λ i. record { answer = good (m i ∷ []); returned = []; lent = q i ∷ [] })
        ∙ ap (λ (l : List ℕ). record { answer = good (length l ∷ []); returned = []; lent = fill before l ∷ [] }) text_is

  pub total_small : 4 * c.inputs + 12 * a + 3 * c.outputs ≤ 41728
  total_small = let o = k.circuit.checked.opened in let p = o.few_inputs in let q = o.few_gates in let r = o.few_outputs in let s = k.counted.1 in omega arith
