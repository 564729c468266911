-- Two results of a listing that meet its statement are equal: the answer and the buffer.
-- Assumes nothing.
use mathlib.Core.Path.{◌≡◌, refl, sym, ap, ◌∙◌}
use mathlib.Core.List.{List, [], ◌∷◌}
use Prim.Native.Nat.{ℕ}
use lib.ListN.{get_or}
use Rattle.std.specs.Prelude.{Result, Ok, Err}
use Rattle.theory_calls.specs.Answer.{good}
use Rattle.theory_calls.specs.Calls.{Listing, does}
use Rattle.check_refusal.specs.declared.Refusal.{Refusal}
use Rattle.file_header.proofs.OpenLaws.{told, told_one, one_result}
use Rattle.listing.specs.Answers.{listed_answer, listed_after}

count_told : (n m : ℕ) → good (n ∷ []) ≡ good (m ∷ []) → n ≡ m
count_told n m e = cc

as_told : (r : Result ℕ Refusal) → listed_answer r ≡ told (λ n. n ∷ []) count_told r
unfolding listed_answer
as_told (Ok n) = refl
as_told (Err e) = refl

listed_inj : (q r : Result ℕ Refusal) → listed_answer q ≡ listed_answer r → q ≡ r
listed_inj q r e = told_one _ count_told q r (sym (as_told q) ∙ e ∙ as_told r)

pub listing_one : (j before : List ℕ) (q r : Result ℕ Refusal) (b d : List ℕ) → listed_after q b ≡ does (Listing j before) → listed_after r d ≡ does (Listing j before)
    → (q ≡ r) × (b ≡ d)
listing_one j before q r b d s u =
    let e = one_result listed_answer listed_inj (does (Listing j before)) q r (b ∷ []) (d ∷ []) s u in
    (e.0, ap (λ (l : List (List ℕ)). get_or l 0 []) e.1)
