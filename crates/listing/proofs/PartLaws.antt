-- 1 to 8 and 10, on a job's three parts and its buffer.
--     circuit_told, slices_told, buffer_told, good_told    the four ways out
--     fit                                                  what they leave
-- Assumes nothing.
use mathlib.Core.Path.{◌≡◌, sym, ap, ◌∙◌, subst}
use mathlib.Core.List.{List, [], ◌∷◌, ◌++◌}
use Prim.Native.Nat.{ℕ}
use native.Mathlib.Omega.{arith}
use lib.ListN.{length}
use borrow.Author.Tests.{eq-eqb, ne_eqb}
use Rattle.std.specs.Prelude.{Err}
use Rattle.theory_sharing.specs.First.{first}
use Rattle.theory_calls.specs.File.{inputs_of, circuit}
use Rattle.theory_calls.specs.Checks.{Refusal as Row, row_buffer, fault, tapes_want, accepted, refuses, verdict}
use Rattle.theory_calls.specs.AtBits.{circuit_checks}
use Rattle.theory_calls.specs.Statements.{Bits}
use Rattle.theory_calls.specs.Calls.{Check, answers, does, Accepts, text_bytes}
use Rattle.theory_calls.proofs.Refusals.{accepted_passes, Passes, verdict_skips, verdict_stays, row_refuses, row_passes}
use Rattle.theory_calls.proofs.RowLaws.{bits_clear}
use Rattle.check_refusal.specs.declared.Refusal.{Refusal}
use Rattle.check_refusal.specs.declared.Refusal.TheVariants.{Buffer}
use Rattle.check_refusal.specs.Number.{number_of, place_of}
use Rattle.file_header.specs.Answers.{header_answer}
use Rattle.file_counts.specs.declared.Counted.{Counted}
use Rattle.check_tests.specs.Mirror.{wrong_size}
use Rattle.check_slices.proofs.ChainLaws.{nothing}
use Rattle.check_circuit.proofs.FrontLaws.{circuit_refuses, circuit_passes}
use Rattle.check_given.specs.Mirror.{slices_checks}
use Rattle.listing.specs.Answers.{listed_answer, listed_after}
use Rattle.listing.specs.Mirror.{Fit, says_good, text_check, judged, says}

module _ (f x t b : List ℕ) where
  abbrev Two : List Row
  Two = slices_checks f x t

  pub circuit_told : (e : Refusal) → answers (header_answer (Err e)) ≡ does (Check f) → listed_after (Err e) b ≡ says f x t b
  unfolding judged listed_answer
  circuit_told e q = sym (ap (judged f x t b) (circuit_refuses f e q (Two ++ text_check b)))

  module _ (p : Accepts (Check f)) where
    past : verdict (circuit_checks f ++ (Two ++ text_check b)) ≡ verdict (Two ++ text_check b)
    past = circuit_passes f p (Two ++ text_check b)

    pub slices_told : (e : Refusal) → refuses (number_of e) (place_of e) ≡ verdict Two → listed_after (Err e) b ≡ says f x t b
    unfolding judged listed_answer
    slices_told e v = sym (ap (judged f x t b) (past ∙ verdict_stays Two (text_check b) (number_of e) (place_of e) (sym v)))

    module _ (clear : accepted ≡ verdict Two) where
      past_8 : verdict (circuit_checks f ++ (Two ++ text_check b)) ≡ verdict (text_check b)
      past_8 = past ∙ verdict_skips Two (text_check b) (accepted_passes Two (sym clear))

      pub buffer_told : (length b ≡ text_bytes → ⊥) → listed_after (Err (Buffer 0)) b ≡ says f x t b
      unfolding judged listed_answer fault first wrong_size
      buffer_told w = sym (ap (judged f x t b) (past_8 ∙ sym (row_refuses 10 [] (row_buffer (length b ∷ []) (text_bytes ∷ [])) 0 (rw (ne_eqb _ _ w)) (omega arith))))

      pub good_told : length b ≡ text_bytes → says_good f x t b ≡ says f x t b
      unfolding judged fault first wrong_size
      good_told w =
          sym (ap (judged f x t b) (past_8 ∙ sym (nothing ∙ row_passes 10 [] (row_buffer (length b ∷ []) (text_bytes ∷ [])) 1 (rw (eq-eqb _ _ w)) (omega arith))))

pub fit : (k : Counted) (x t : List ℕ) → accepted ≡ verdict (slices_checks k.circuit.file.now x t) → Fit k x t
unfolding Passes
fit k x t clear =
    let f = k.circuit.file.now in
    let p = accepted_passes (slices_checks f x t) (sym clear) in
    record {
      in_x = subst (λ (i : ℕ). Bits x i) (sym k.circuit.checked.opened.ins_are) (bits_clear x (inputs_of f) p.0);
      in_t = (bits_clear t (tapes_want (circuit f)) p.1.0).long;
    }
