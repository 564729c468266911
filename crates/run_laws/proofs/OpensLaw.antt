-- The openings are the document's, and so is what is handed over.
--     six_link, objects_link, opened_link    one opening: the six bits in the transcript, who objects, what is opened
--     tr_at                                  its bits, read from a transcript that goes on
--     opening_law, objects_law               what is delivered at an output, who objects there
--     opens_law                              the transcript after the first k openings
--     hands_law                              what is handed over for the first k outputs
use mathlib.Core.Path.{◌≡◌, refl, sym, ap, ◌∙◌}
use mathlib.Core.List.{List, ◌++◌}
use Prim.Native.Nat.{ℕ, zero, suc, ◌+◌, ◌*◌, ◌≤◌, ◌<◌}
use native.Mathlib.Omega.{arith}
use native.Mathlib.Nat.{add-zero}
use lib.ListN.{length, get_or}
use Rattle.theory_sharing.specs.Ops.{bits, Ops}
use Rattle.theory_sharing.specs.Circuit.{Circuit, Draws, Errors, all_ands}
use Rattle.theory_sharing.specs.Steps.{Wire, six, copies, objecting, opened}
use Rattle.theory_sharing.specs.Run.{after, gates_delivered, output, out_delivered, objects, opens_delivered, opened_at, outputs}
use Rattle.theory_sharing.specs.Line.{at_output, errors}
use Rattle.theory_sharing.specs.Store.{fill, store}
use Rattle.theory_sharing.proofs.RunLaws.{after_length, sent_length, sent_at, outputs_length}
use Rattle.theory_sharing.proofs.StoreLaws.{fill_read}
use Rattle.theory_calls.specs.File.{circuit}
use Rattle.file_parts.specs.Loop.{up_to}
use Rattle.run_messages.specs.Mirror.{three, on_line_six, objects_of, opened_of}
use Rattle.run_messages.specs.declared.Held.{Held}
use Rattle.run_messages.specs.declared.Three.{Three}
use Rattle.run_steps.specs.Mirror.{held_at, put_six}
use Rattle.run_passes.specs.Mirror.{opening, objects_on, open_on, opens_on, put_three, hand_on, hands_on}
use Rattle.run_laws.specs.Link.{held_of, Reads}
use Rattle.run_laws.proofs.FillLaws.{fill_three, fill_six}
use Rattle.run_laws.proofs.ReadLaws.{store_reads}

-- ---- one opening
module _ (R : Ops) (er : ℕ → ℕ) (x : Wire) where
  -- 01, step 6: the transcript after an opening
  pub six_link : (old done : List ℕ) (at : ℕ) → length done ≡ at → at + 6 ≤ length old
      → put_six at (on_line_six R er (held_of x)) (fill old done) ≡ fill old (done ++ six R er x)
  unfolding put_six on_line_six six
  six_link old done at e h = fill_six old done at _ _ _ _ _ _ e h

  -- 01, step 6: "Unlike copies: site k objects."
  pub objects_link : objects_of (on_line_six R er (held_of x)) ≡ objecting (copies (six R er x))
  unfolding objects_of on_line_six objecting copies six
  objects_link = refl

  -- 01, step 6: "Else it opens the xor of its pair and that part.", with the copies that the code takes from the transcript
  pub opened_link : opened_of R (held_of x) (get_or (six R er x) 3 0) (get_or (six R er x) 0 0) (get_or (six R er x) 1 0)
      ≡ three (opened R (copies (six R er x)) x).at1 (opened R (copies (six R er x)) x).at2 (opened R (copies (six R er x)) x).at3
  unfolding opened_of opened copies
  opened_link = refl

-- ---- what is read and written
module _ (C : Circuit) (x : ℕ → ℕ) (T : Draws) (E : Errors) where
  -- the bits of opening k stay where they are
  pub tr_at : (tr : List ℕ) (m k j : ℕ) → k < m → j < 6
      → get_or (fill tr (opens_delivered bits C x T E m)) (4 * C.ins + 12 * all_ands C + 6 * k + j) 0 ≡ get_or (out_delivered bits C x T E k) j 0
  unfolding at_output
  tr_at tr m k j h i =
      let l = sent_length bits C x T E m in
      fill_read tr (opens_delivered bits C x T E m) (4 * C.ins + 12 * all_ands C + 6 * k + j) (omega arith) ∙ sent_at bits C x T E k m h j i

-- ---- the two passes
module _ (file line : List ℕ) (x : ℕ → ℕ) (T : Draws) (n : ℕ) (hn : (circuit file).ins + (circuit file).gates ≡ n)
    (s : List ℕ) (es : s ≡ store (after bits (circuit file) x T (errors (circuit file) line) (circuit file).gates)) where
  abbrev C : Circuit
  C = circuit file

  abbrev E : Errors
  E = errors C line

  abbrev at : ℕ
  at = 4 * C.ins + 12 * all_ands C

  -- what the sites hold of output k
  out_held : (k : ℕ) → Reads n s (C.out k) (output bits C x T E k)
  unfolding output
  out_held k =
      ap (held_at n (C.out k)) es ∙ store_reads n (after bits C x T E C.gates) (after_length bits C x T E C.gates ∙ hn) (C.out k)

  -- what is delivered
  pub opening_law : (k : ℕ) → opening file line s n at k ≡ on_line_six bits (E.on_output k) (held_of (output bits C x T E k))
  unfolding opening errors at_output
  opening_law k = ap (on_line_six bits (E.on_output k)) (out_held k)

  -- who objects
  pub objects_law : (k : ℕ) → objects_on file line s n at k ≡ objects bits C x T E k
  unfolding objects_on objects out_delivered
  objects_law k = ap objects_of (opening_law k) ∙ objects_link bits (E.on_output k) (output bits C x T E k)

  module _ (tr : List ℕ) where
    -- one opening
    pub open_law : (k : ℕ) → at + 6 * k + 6 ≤ length tr
        → open_on file line s n at k (fill tr (opens_delivered bits C x T E k)) ≡ fill tr (opens_delivered bits C x T E (suc k))
    unfolding open_on opens_delivered out_delivered at_output
    open_law k r =
        ap (λ (z : Held). put_six (at + 6 * k) z (fill tr (opens_delivered bits C x T E k))) (opening_law k)
        ∙ six_link bits (E.on_output k) (output bits C x T E k) tr (opens_delivered bits C x T E k) (at + 6 * k) (sent_length bits C x T E k) r

    -- the first k
    pub opens_law : (k : ℕ) → at + 6 * k ≤ length tr
        → opens_on file line s n at (fill tr (gates_delivered bits C x T E C.gates)) k ≡ fill tr (opens_delivered bits C x T E k)
    unfolding up_to opens_delivered
    opens_law zero r = refl
    opens_law (suc k) r = ap (open_on file line s n at k) (opens_law k (omega arith)) ∙ open_law k (omega arith)

    module _ (m : ℕ) (outs : List ℕ) where
      -- the transcript through m openings
      abbrev trm : List ℕ
      trm = fill tr (opens_delivered bits C x T E m)

      -- what the sites open at output k
      three_law : (k : ℕ) → k < m
          → opened_of bits (held_at n (C.out k) s) (get_or trm (at + 6 * k + 3) 0) (get_or trm (at + 6 * k) 0) (get_or trm (at + 6 * k + 1) 0)
          ≡ three (opened_at bits C x T E k).at1 (opened_at bits C x T E k).at2 (opened_at bits C x T E k).at3
      unfolding opened_at out_delivered
      three_law k h =
          let w : Wire = output bits C x T E k in
          let p3 = tr_at C x T E tr m k 3 h (omega arith) in
          let p0 = ap (λ (z : ℕ). get_or trm z 0) (sym (add-zero (at + 6 * k))) ∙ tr_at C x T E tr m k 0 h (omega arith) in
          let p1 = tr_at C x T E tr m k 1 h (omega arith) in
          let q = out_held k in
          (λ i. opened_of bits (q i) (p3 i) (p0 i) (p1 i)) ∙ opened_link bits (E.on_output k) w

      -- one output
      pub hand_law : (k : ℕ) → k < m → 3 * k + 3 ≤ length outs
          → hand_on file trm s n at k (fill outs (outputs bits C x T E k)) ≡ fill outs (outputs bits C x T E (suc k))
      unfolding hand_on put_three outputs
      hand_law k h r =
          ap (λ (z : Three). put_three (3 * k) z (fill outs (outputs bits C x T E k))) (three_law k h)
          ∙ fill_three outs (outputs bits C x T E k) (3 * k) _ _ _ (outputs_length bits C x T E k) r

      -- the first k
      pub hands_law : (k : ℕ) → k ≤ m → 3 * k ≤ length outs
          → hands_on file trm s n at outs k ≡ fill outs (outputs bits C x T E k)
      unfolding up_to outputs fill
      hands_law zero h r = refl
      hands_law (suc k) h r = ap (hand_on file trm s n at k) (hands_law k (omega arith) (omega arith)) ∙ hand_law k h (omega arith)
