-- 14: a job's header, and the parts of a good one.
--     job_refused                       it is refused
--     Offsets, offsets, to_the_end      where a good job's parts begin and end
--     parts_fit, parts_told             what the parts say is what the job says
-- Assumes nothing.
use mathlib.Core.Path.{◌≡◌, refl, sym, ap, ◌∙◌, subst}
use mathlib.Core.Bool.{Bool, true, false, not, true≢false, ◌&&◌, ◌||◌}
use mathlib.Core.List.{List, [], ◌∷◌, ◌++◌}
use Prim.Native.Nat.{ℕ, ◌+◌, ◌-◌, ◌<◌, ◌≤◌}
use native.Mathlib.Omega.{arith}
use lib.ListN.{length, take, drop, length-drop}
use lib.Seq.{take_all}
use lib.Dec.{eqb, leb}
use borrow.Author.Tests.{leb-true}
use Rattle.std.specs.Prelude.{Option, Some, None, Err}
use Rattle.theory_sharing.proofs.FirstLaws.{Clear}
use Rattle.theory_calls.specs.File.{le32}
use Rattle.theory_calls.specs.Checks.{Refusal as Row, refusal, fault, tested, row_job, Verdict, accepted, refuses, verdict}
use Rattle.theory_calls.specs.AtBits.{circuit_checks}
use Rattle.theory_calls.specs.Calls.{Listing, job_file, job_inputs, job_tapes, settle, does}
use Rattle.theory_calls.proofs.Refusals.{accepted_passes, Passes, row_refuses, row_passes}
use Rattle.theory_calls.proofs.CallLaws.{does_refused}
use Rattle.check_refusal.specs.declared.Refusal.TheVariants.{Job}
use Rattle.check_refusal.specs.Found.{some_below}
use Rattle.check_refusal.proofs.FoundLaws.{some_found, none_found}
use Rattle.file_parts.proofs.CheckedLaws.{both}
use Rattle.check_given.specs.Mirror.{slices_checks}
use Rattle.check_slices.proofs.ChainLaws.{nothing}
use Rattle.listing.specs.Answers.{listed_answer, listed_after}
use Rattle.listing.specs.Mirror.{text_check, judged, says}

not_false : (b : Bool) → (not b || false) ≡ false → b ≡ true
not_false true e = refl
not_false false e = absurd (true≢false e)

-- where a good job's parts begin and end
pub record Offsets (j : List ℕ) : Type 0 where
  pub long : 16 ≤ length j
  pub inputs_from : 16 ≤ le32 j 8
  pub tapes_from : le32 j 8 ≤ le32 j 12
  pub tapes_to : le32 j 12 ≤ length j

module _ (j b : List ℕ) where
  abbrev p : ℕ
  p = fault (row_job j)

  abbrev Others : List Row
  Others = circuit_checks (job_file j) ++ (slices_checks (job_file j) (job_inputs j) (job_tapes j) ++ text_check b)

  goes : (Listing j b).checks ≡ refusal 14 (row_job j) ∷ Others
  unfolding Listing
  goes = refl

  pub job_refused : (q : ℕ) → Some q ≡ some_below p 13 → listed_after (Err (Job q)) b ≡ does (Listing j b)
  unfolding Listing listed_answer
  job_refused q e =
      let f = some_found q p 13 e in
      let h : q < 13 = subst (λ (z : ℕ). z < 13) (sym f.0) f.1 in
      sym (does_refused (Listing j b) 14 q (sym (row_refuses 14 Others (row_job j) q f.0 h)))

  settled : (v : Verdict) → judged (job_file j) (job_inputs j) (job_tapes j) b v ≡ settle (Listing j b) v
  unfolding judged settle Listing listed_answer
  settled accepted = refl
  settled (refuses n q) = refl

  module _ (none : ◌≡◌ {A = Option ℕ} None (some_below p 13)) where
    h : 13 ≤ p
    h = none_found p 13 none

    pub job_parts : says (job_file j) (job_inputs j) (job_tapes j) b ≡ does (Listing j b)
    unfolding does
    job_parts = settled (verdict Others) ∙ ap (settle (Listing j b)) (row_passes 14 Others (row_job j) p refl h ∙ ap verdict (sym goes))

    clear_14 : Clear (row_job j).bad 13
    unfolding Passes
    clear_14 = (accepted_passes (refusal 14 (row_job j) ∷ []) (sym (nothing ∙ row_passes 14 [] (row_job j) p refl h))).0

    pub offsets : Offsets j
    unfolding tested
    offsets =
        let a = both (leb 16 (length j)) (leb (length j) 41520) (both (leb 16 (length j) && leb (length j) 41520) (eqb (le32 j 0) (length j)) (not_false _ (clear_14 0 (omega arith)))).0 in
        let b = both (leb 16 (le32 j 8)) (leb (le32 j 8) (length j)) (not_false _ (clear_14 8 (omega arith))) in
        let d = both (leb (le32 j 8) (le32 j 12)) (leb (le32 j 12) (length j)) (not_false _ (clear_14 12 (omega arith))) in
        record { long = leb-true _ _ a.0; inputs_from = leb-true _ _ b.0; tapes_from = leb-true _ _ d.0; tapes_to = leb-true _ _ d.1 }

-- the last part runs to the end
pub to_the_end : (k : ℕ) (j : List ℕ) → take (length j - k) (drop k j) ≡ drop k j
to_the_end k j = take_all (length j - k) (drop k j) (let l = length-drop k j in omega arith)

module _ (j b : List ℕ) (none : ◌≡◌ {A = Option ℕ} None (some_below (fault (row_job j)) 13)) where
  pub at_8 : 8 + 4 ≤ length j
  at_8 = let k = (offsets j b none).long in omega arith

  pub at_12 : 12 + 4 ≤ length j
  at_12 = let k = (offsets j b none).long in omega arith

  module _ (i k : ℕ) (ei : i ≡ le32 j 8) (ek : k ≡ le32 j 12) where
    pub parts_fit : (16 ≤ i) × (i ≤ k) × (k ≤ length j)
    parts_fit = let o = offsets j b none in let a = o.inputs_from in let b = o.tapes_from in let d = o.tapes_to in (omega arith, omega arith, omega arith)

    pub parts_told : says (take (i - 16) (drop 16 j)) (take (k - i) (drop i j)) (drop k j) b ≡ does (Listing j b)
    parts_told = (λ a. says (take (ei a - 16) (drop 16 j)) (take (ek a - ei a) (drop (ei a) j)) (drop (ek a) j) b) ∙ job_parts j b none
