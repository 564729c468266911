-- The delivered bits and the opened bits are the document's.
--     seeing_kept     lengths that stay
--     held_out        what the three sites hold of an output, on a clean line
--     copies_are      the delivered bits after the first k openings
--     opened_are      the first k opened bits
--     store_is, got_is    inputs, gates and openings: the store of a clean run, and every bit delivered to the site
--     copies_ready    where the openings begin there is room for them
use mathlib.Core.Path.{◌≡◌, refl, sym, ap, ◌∙◌}
use mathlib.Core.List.{List, [], ◌∷◌, ◌++◌}
use Prim.Native.Nat.{ℕ, zero, suc, ◌+◌, ◌*◌, ◌<◌, ◌≤◌}
use native.Mathlib.Omega.{arith}
use native.Mathlib.Nat.{le_refl}
use lib.ListN.{length}
use Rattle.theory_sharing.specs.Ops.{bits}
use Rattle.theory_sharing.specs.Sites.{Site, s1, s2, s3, prev, of}
use Rattle.theory_sharing.specs.Circuit.{Circuit, Draws, no_errors, all_owned}
use Rattle.theory_sharing.specs.Published.{Parts, total, out_parts}
use Rattle.theory_sharing.specs.Steps.{hold}
use Rattle.theory_sharing.specs.Run.{after, output}
use Rattle.theory_sharing.specs.Tapes.{read}
use Rattle.theory_sharing.specs.Store.{store, fill}
use Rattle.theory_sharing.proofs.BitLaws.{bit_group, xor_assoc}
use Rattle.theory_sharing.proofs.Group.{turn}
use Rattle.theory_sharing.proofs.Clean.{output_held}
use Rattle.theory_sharing.proofs.OrderLaws.{gates_got_length, got_length}
use Rattle.theory_sharing.proofs.RunLaws.{after_length}
use Rattle.theory_sharing.proofs.Seen.{gates_got, all_got, seen_totals}
use Rattle.theory_sharing.proofs.StoreLaws.{fill_one, fill_all}
use Rattle.theory_sharing.proofs.ViewLaws.{totals_many}
use Rattle.theory_calls.specs.File.{circuit}
use Rattle.theory_calls.specs.Calls.{at_wire}
use Rattle.theory_calls.proofs.RunCall.{bit_draws}
use Rattle.theory_calls.proofs.Limits.{ands_most}
use Rattle.file_header.specs.declared.Counts.{Counts}
use Rattle.run_messages.specs.Mirror.{two}
use Rattle.run_steps.specs.Mirror.{held_at}
use Rattle.run_messages.specs.declared.Two.{Two}
use Rattle.run_messages.specs.declared.Held.{Held}
use Rattle.run_passes.specs.Mirror.{St}
use Rattle.run_laws.specs.Link.{held_of, Reads}
use Rattle.run_laws.proofs.FillLaws.{fill_two}
use Rattle.run_laws.proofs.ReadLaws.{store_reads}
use Rattle.run_laws.proofs.StoredLaws.{all_stored}
use Rattle.view_inputs.specs.Mirror.{pair_of_site, put_two, gates_seen, ins_seen, state_seen, Seeing, Begun}
use Rattle.view_gates.proofs.GatesLaws.{gates_reach, begun}
use Rattle.file_parts.specs.Loop.{up_to}
use Rattle.view_parts.specs.Mirror.{copies_of_site, opened_bit, copies_on, copies_all, opened_on, opened_all, all_seen}

pub seeing_kept : (f : List ℕ) (c : Counts) (s : Site) (t g st g' st' : ℕ) → g' ≡ g → st' ≡ st → Seeing f c s t g st → Seeing f c s t g' st'
seeing_kept f c s t g st g' st' p q d = record { checked = d.checked; lt = d.lt; lg = ap (λ (m : ℕ). m + 2 * all_owned (circuit f) s) p ∙ d.lg; ls = q ∙ d.ls }

-- ---- one opening, of published parts
copies_got : (s : Site) (P : Parts) → copies_of_site s (held_of (hold P)) ≡ two (of P (prev s)) (of P (prev s))
unfolding copies_of_site
copies_got s1 P = refl
copies_got s2 P = refl
copies_got s3 P = refl

bit_total : (s : Site) (P : Parts) → opened_bit s (held_of (hold P)) ≡ total bits P
unfolding opened_bit pair_of_site copies_of_site
bit_total s1 P = xor_assoc P.at1 P.at2 P.at3
bit_total s2 P = xor_assoc P.at2 P.at3 P.at1 ∙ sym (turn bit_group P.at1 P.at2 P.at3)
bit_total s3 P = xor_assoc P.at3 P.at1 P.at2 ∙ turn bit_group P.at3 P.at1 P.at2

module _ (f : List ℕ) (x : ℕ → ℕ) (tapes : List ℕ) (s : Site) (n : ℕ) (hn : (circuit f).ins + (circuit f).gates ≡ n)
    (w : List ℕ) (ew : w ≡ store (after bits (circuit f) x (read (circuit f) tapes) no_errors (circuit f).gates)) where
  abbrev C : Circuit
  C = circuit f

  abbrev T : Draws
  T = read C tapes

  held_out : (k : ℕ) → Reads n w (C.out k) (hold (out_parts bits C x T k))
  unfolding output
  held_out k =
      ap (held_at n (C.out k)) ew ∙ store_reads n (after bits C x T no_errors C.gates) (after_length bits C x T no_errors C.gates ∙ hn) (C.out k)
      ∙ ap held_of (output_held bit_group C x T (bit_draws T) k)

  abbrev gots : ℕ → List ℕ
  gots k = all_got bits s C x T k

  pub copies_are : (old : List ℕ) (at : ℕ) → length (gots 0) ≡ at → (k : ℕ) → at + 2 * k ≤ length old
      → copies_all s f w n at (fill old (gots 0)) k ≡ fill old (gots k)
  unfolding up_to copies_on put_two all_got
  copies_are old at e zero r = refl
  copies_are old at e (suc k) r =
      let l = got_length bits s C x T k in let l0 = got_length bits s C x T 0 in
      let p : ℕ = of (out_parts bits C x T k) (prev s) in
      ap (copies_on s f w n at k) (copies_are old at e k (omega arith))
      ∙ ap (λ (z : Held). put_two (at + 2 * k) (copies_of_site s z) (fill old (gots k))) (held_out k)
      ∙ ap (λ (z : Two). put_two (at + 2 * k) z (fill old (gots k))) (copies_got s (out_parts bits C x T k))
      ∙ fill_two old (gots k) (at + 2 * k) p p (omega arith) (omega arith)

  abbrev tots : ℕ → List ℕ
  tots k = seen_totals bits s C x T k

  opened_one : (old : List ℕ) (k : ℕ) → k < length old → opened_on s f w n k (fill old (tots k)) ≡ fill old (tots k ++ (total bits (out_parts bits C x T k) ∷ []))
  unfolding opened_on
  opened_one old k r =
      let v = ap (opened_bit s) (held_out k) ∙ bit_total s (out_parts bits C x T k) in
      fill_one old (tots k) k (opened_bit s (held_at n (C.out k) w)) (totals_many bits s C x T k) r ∙ ap (λ (z : ℕ). fill old (tots k ++ (z ∷ []))) v

  pub opened_are : (old : List ℕ) (k : ℕ) → k ≤ length old → opened_all s f w n old k ≡ fill old (seen_totals bits s C x T k)
  unfolding up_to seen_totals fill
  opened_are old zero r = refl
  opened_are old (suc k) r = ap (opened_on s f w n k) (opened_are old k (omega arith)) ∙ opened_one old k r

-- ---- the whole
module _ (f xs tapes : List ℕ) (s : Site) (old got : List ℕ) (c : Counts) (d : Seeing f c s (length tapes) (length got) (length old)) (y z : St)
    (ey : y ≡ ins_seen s (circuit f) (at_wire xs) (read (circuit f) tapes) (c.inputs + c.gates) old got c.inputs)
    (ez : z ≡ gates_seen s f tapes c.inputs (c.inputs + c.gates) y c.gates) where
  abbrev X : ℕ → ℕ
  X = at_wire xs

  abbrev D : Draws
  D = read (circuit f) tapes

  abbrev m : ℕ
  m = c.inputs + c.gates

  abbrev b : Begun f s tapes m (length got) y
  b = begun f xs tapes s old got c (length got) y d refl ey

  reached : z ≡ state_seen s (circuit f) X D m old got (circuit f).gates
  unfolding begun
  reached =
      ez ∙ gates_reach f tapes s (length got) (length old) c d y b c.gates (le_refl c.gates)
      ∙ ap (state_seen s (circuit f) X D m old got) d.checked.opened.gates_are

  many : (circuit f).ins + (circuit f).gates ≡ m
  many = sym (λ i. d.checked.opened.ins_are i + d.checked.opened.gates_are i)

  pub store_is : z.store ≡ store (after bits (circuit f) X D no_errors (circuit f).gates)
  unfolding state_seen
  store_is = ap (λ (v : St). v.store) reached ∙ all_stored (circuit f) X D no_errors m many old d.ls

  at_is : length (gates_got bits s (circuit f) X D (circuit f).gates) ≡ z.pos.at
  unfolding state_seen
  at_is = sym (ap (λ (v : St). v.pos.at) reached)

  pub copies_ready : (r : ℕ) → r ≡ length got → (z.pos.at + 2 * c.outputs ≤ r) × (z.pos.at ≤ 65536)
  copies_ready r er =
      let l = gates_got_length bits s (circuit f) X D (circuit f).gates in let e = at_is in let g = d.lg in
      let o = d.checked.opened.outs_are in let i = d.checked.opened.ins_are in let k = d.checked.opened.gates_are in
      let u = d.checked.opened.few_inputs in let v = d.checked.opened.few_gates in let a = ands_most (circuit f).gate (circuit f).gates in
      (omega arith, omega arith)

  pub got_is : (u : List ℕ) → u ≡ copies_all s f z.store m z.pos.at z.tr c.outputs → u ≡ all_seen s f xs tapes
  unfolding state_seen all_got
  got_is u e =
      let o = d.checked.opened.outs_are in
      let r = copies_ready (length got) refl in
      let l = got_length bits s (circuit f) X D (circuit f).outs in let g = d.lg in
      e ∙ ap (copies_all s f z.store m z.pos.at z.tr) o
      ∙ ap (λ (v : List ℕ). copies_all s f z.store m z.pos.at v (circuit f).outs) (ap (λ (v : St). v.tr) reached)
      ∙ copies_are f X tapes s m many z.store store_is got z.pos.at at_is (circuit f).outs (omega arith)
      ∙ fill_all got (all_seen s f xs tapes) (omega arith)
