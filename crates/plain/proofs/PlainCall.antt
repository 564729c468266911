-- The public call: what the code does is what the call does.
--     front             what the call checks
--     inputs_stop, buffer_stop, accepted_plain    behind the circuit: 7, 10, and nothing is refused
-- Assumes nothing.
use mathlib.Core.Path.{◌≡◌, refl, sym, ap, ◌∙◌}
use mathlib.Core.List.{List, [], ◌∷◌}
use Prim.Native.Nat.{ℕ, ◌+◌}
use native.Mathlib.Omega.{arith}
use lib.ListN.{length}
use borrow.Author.Tests.{eq-eqb, ne_eqb}
use Rattle.std.specs.Prelude.{Option, None, Some, Ok, Err}
use Rattle.theory_sharing.specs.Circuit.{wires}
use Rattle.theory_calls.specs.File.{inputs_of, circuit}
use Rattle.theory_calls.specs.Plain.{plain}
use Rattle.theory_calls.specs.Checks.{Refusal, refusal, row_buffer, fault, accepted, verdict}
use Rattle.theory_calls.specs.AtBits.{bits_row}
use Rattle.theory_calls.specs.Calls.{Plain, PlainOf, does}
use Rattle.theory_calls.proofs.Refusals.{Without}
use Rattle.theory_calls.proofs.CallLaws.{does_good}
use Rattle.check_refusal.specs.declared.Refusal.TheVariants.{Inputs, Buffer}
use Rattle.check_refusal.specs.Found.{some_below}
use Rattle.file_header.specs.declared.Counts.{Counts}
use Rattle.file_parts.specs.Checked.{Checked}
use Rattle.check_slices.proofs.BitsLaws.{sizes_bad, sizes_good}
use Rattle.check_slices.proofs.ChainLaws.{nothing, Left, bits_stop, bits_go, sizes_stop, sizes_go}
use Rattle.check_circuit.specs.Answers.{done_answer, done_after}
use Rattle.check_circuit.proofs.FrontLaws.{Front, done_given, given_passed}

module _ (f x vs : List ℕ) where
  abbrev sized : List Refusal
  sized = refusal 10 (row_buffer (length vs ∷ []) (wires (circuit f) ∷ [])) ∷ []

  abbrev Two : List Refusal
  Two = refusal 7 (bits_row x (inputs_of f)) ∷ sized

  pub front : Front (Plain f x vs) f Two [] (vs ∷ [])
  unfolding Without PlainOf
  front = record { goes = refl; leaves = λ n k. refl; returns = λ n p. refl; no_13 = omega arith }

  module _ (c : Counts) (k : Checked f c) where
    abbrev want : ℕ
    want = c.inputs + c.gates

    wanted : want ∷ [] ≡ wires (circuit f) ∷ []
    wanted = λ j. (k.opened.ins_are j + k.opened.gates_are j) ∷ []

    pub inputs_stop : (i : ℕ) → Some i ≡ some_below (fault (bits_row x c.inputs)) (c.inputs + 1) → done_after (Err (Inputs i)) (vs ∷ []) ≡ does (Plain f x vs)
    inputs_stop i e = done_given _ _ _ _ _ front k.passes (Inputs i) (bits_stop Two 7 sized x c.inputs (inputs_of f) k.opened.ins_are refl i e)

    module _ (e : ◌≡◌ {A = Option ℕ} None (some_below (fault (bits_row x c.inputs)) (c.inputs + 1))) where
      past_7 : Left Two sized
      past_7 = bits_go Two 7 sized x c.inputs (inputs_of f) k.opened.ins_are refl e

      abbrev buffers : List (ℕ × ℕ)
      buffers = (length vs, want) ∷ []

      pub buffer_stop : (length vs ≡ want → ⊥) → done_after (Err (Buffer 0)) (vs ∷ []) ≡ does (Plain f x vs)
      buffer_stop w = done_given _ _ _ _ _ front k.passes (Buffer 0) (sizes_stop Two [] buffers _ _ refl wanted past_7 (Buffer 0) (sizes_bad buffers 0 (rw (ne_eqb _ _ w))))

      go_on : length vs ≡ want → accepted ≡ verdict Two
      go_on w = nothing ∙ sizes_go Two [] buffers _ _ refl wanted past_7 (sizes_good buffers (rw (eq-eqb _ _ w)))

      pub accepted_plain : length vs ≡ want → (vs' : List ℕ) → vs' ≡ plain (circuit f) x → done_after (Ok tt) (vs' ∷ []) ≡ does (Plain f x vs)
      unfolding done_answer PlainOf
      accepted_plain w vs' d =
          ap (λ (z : List ℕ). done_after (Ok tt) (z ∷ [])) d
          ∙ sym (does_good (Plain f x vs) (given_passed _ _ _ _ _ front k.passes (go_on w) ∙ sym nothing))
