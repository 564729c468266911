-- Two results of the call on a text that meet its statement are equal: the answer and the room.
-- Assumes nothing.
use mathlib.Core.Path.{◌≡◌, refl, sym, ◌∙◌}
use mathlib.Core.List.{List, [], ◌∷◌}
use Prim.Native.Nat.{ℕ}
use Rattle.std.proofs.Common.{Result, Ok, Err}
use Rattle.theory_calls.specs.Answer.{good}
use Rattle.theory_calls.specs.Call.{does}
use Rattle.check_refusal.specs.declared.Refusal.{Refusal}
use Rattle.bristol_text.specs.Call.{FromBristol}
use Rattle.file_header.proofs.OpenLaws.{told, told_one, one_result}
use Rattle.bristol.specs.Answers.{filed_answer, filed_after}

length_one : (n m : ℕ) → good (n ∷ []) ≡ good (m ∷ []) → n ≡ m
length_one n m e = cc

as_told : (r : Result ℕ Refusal) → filed_answer r ≡ told (λ n. n ∷ []) length_one r
unfolding filed_answer
as_told (Ok n) = refl
as_told (Err e) = refl

filed_inj : (q r : Result ℕ Refusal) → filed_answer q ≡ filed_answer r → q ≡ r
filed_inj q r e = told_one (λ n. n ∷ []) length_one q r (sym (as_told q) ∙ e ∙ as_told r)

pub from_bristol_one : (text owners before : List ℕ) (q r : Result ℕ Refusal) (b d : List ℕ) → filed_after q b ≡ does (FromBristol text owners before)
    → filed_after r d ≡ does (FromBristol text owners before) → (q ≡ r) × (b ∷ [] ≡ d ∷ [])
from_bristol_one text owners before q r b d = one_result filed_answer filed_inj (does (FromBristol text owners before)) q r (b ∷ []) (d ∷ [])
