-- The header's answer is the verdict of checks 1 to 3.
--     on_header          what a refused header makes of a verdict, and a good one
--     header_verdict     checks 1 to 3 in any call's verdict
--     header_refused, header_good    the same, by the header's answer
-- Assumes nothing.
use mathlib.Core.Path.{◌≡◌, refl, sym, ap, ◌∙◌}
use mathlib.Core.Bool.{Bool, true, false, not, cond, ◌&&◌}
use mathlib.Core.List.{List, [], ◌∷◌, ◌++◌}
use Prim.Native.Nat.{ℕ, ◌+◌, ◌*◌}
use native.Mathlib.Omega.{arith}
use lib.ListN.{length}
use lib.Dec.{leb, eqb}
use Rattle.std.specs.Prelude.{Result, Ok, Err}
use Rattle.theory_calls.specs.File.{le32, inputs_of, gates_of, outputs_of, size}
use Rattle.theory_calls.specs.Checks.{Refusal as Row, header_checks, Verdict, refuses, verdict}
use Rattle.theory_calls.proofs.Places.{Rising, refuse_at, place_verdict}
use Rattle.check_refusal.specs.declared.Refusal.{Refusal}
use Rattle.check_refusal.specs.declared.Refusal.TheVariants.{Short, Limit, Header}
use Rattle.check_refusal.specs.Number.{number_of, place_of}
use Rattle.file_header.specs.declared.Counts.{Counts}
use Rattle.file_header.specs.Mirror.{fields_of, fields_judged, judged, header_of}

abbrev refuses_by : Refusal → Verdict
refuses_by e = refuses (number_of e) (place_of e)

unfoldable pub on_header : Result Counts Refusal → Verdict → Verdict
on_header (Ok c) v = v
on_header (Err e) v = refuses_by e

good_on : (c : Counts) (v : Verdict) → on_header (Ok c) v ≡ v
unfolding on_header
good_on c v = refl

-- one test of the header, and two with one answer
one_test : (b : Bool) (h : Result Counts Refusal) (e : Refusal) (v w : Verdict) → w ≡ on_header h v → cond (not b) (refuses_by e) w ≡ on_header (cond b h (Err e)) v
unfolding on_header
one_test true h e v w q = q
one_test false h e v w q = refl

two_tests : (a b : Bool) (h : Result Counts Refusal) (e : Refusal) (v w : Verdict) → w ≡ on_header h v
    → cond (not (a && b)) (refuses_by e) w ≡ on_header (cond a (cond b h (Err e)) (Err e)) v
unfolding on_header
two_tests true true h e v w q = q
two_tests true false h e v w q = refl
two_tests false b h e v w q = refl

module _ (s : List ℕ) where
  header_steps : (v : Verdict) →
      refuse_at 1 ((0, not (leb 32 (length s))) ∷ [])
      (refuse_at 2 ((0, not (leb (inputs_of s) 1024)) ∷ (1, not (leb (gates_of s) 3072)) ∷ (2, not (leb (outputs_of s) 256)) ∷ [])
      (refuse_at 3
      ((0, not (eqb (le32 s 0) (32 + inputs_of s + 6 * gates_of s + 2 * outputs_of s) && eqb (length s) (le32 s 0)))
      ∷ (16, not (eqb (le32 s 16) 32))
      ∷ (20, not (eqb (le32 s 20) (32 + inputs_of s)))
      ∷ (24, not (eqb (le32 s 24) (32 + inputs_of s + 6 * gates_of s)))
      ∷ (28, not (eqb (le32 s 28) 0)) ∷ []) v))
      ≡ on_header (header_of s) v
  unfolding refuse_at header_of judged fields_judged
  header_steps v =
      let i = inputs_of s in
      let n = gates_of s in
      let o = outputs_of s in
      one_test (leb 32 (length s)) _ Short v _
      (one_test (leb i 1024) _ (Limit 0) v _
      (one_test (leb n 3072) _ (Limit 1) v _
      (one_test (leb o 256) _ (Limit 2) v _
      (two_tests (eqb (le32 s 0) (32 + i + 6 * n + 2 * o)) (eqb (length s) (le32 s 0)) _ (Header 0) v _
      (one_test (eqb (le32 s 16) 32) _ (Header 16) v _
      (one_test (eqb (le32 s 20) (32 + i)) _ (Header 20) v _
      (one_test (eqb (le32 s 24) (32 + i + 6 * n)) _ (Header 24) v _
      (one_test (eqb (le32 s 28) 0) (Ok (record { inputs = i; gates = n; outputs = o })) (Header 28) v v (sym (good_on _ v))))))))))

  pub header_verdict : (cs : List Row) → verdict (header_checks s ++ cs) ≡ on_header (header_of s) (verdict cs)
  unfolding Rising size
  header_verdict cs =
      place_verdict 1 1 _ _ (omega arith, omega arith, tt)
      ∙ ap (refuse_at 1 _)
      (place_verdict 2 3 _ _ (omega arith, omega arith, (omega arith, omega arith, (omega arith, omega arith, tt)))
      ∙ ap (refuse_at 2 _)
      (place_verdict 3 29 _ cs
      (omega arith, omega arith, (omega arith, omega arith, (omega arith, omega arith, (omega arith, omega arith, (omega arith, omega arith, tt)))))))
      ∙ header_steps (verdict cs)

-- a call whose header is refused, and one whose header is good
refused_on : (e : Refusal) (v : Verdict) → on_header (Err e) v ≡ refuses_by e
unfolding on_header
refused_on e v = refl

pub header_refused : (s : List ℕ) (cs : List Row) (e : Refusal) → header_of s ≡ Err e → verdict (header_checks s ++ cs) ≡ refuses (number_of e) (place_of e)
header_refused s cs e q = header_verdict s cs ∙ ap (λ (h : Result Counts Refusal). on_header h (verdict cs)) q ∙ refused_on e (verdict cs)

pub header_good : (s : List ℕ) (cs : List Row) (c : Counts) → header_of s ≡ Ok c → verdict (header_checks s ++ cs) ≡ verdict cs
header_good s cs c q = header_verdict s cs ∙ ap (λ (h : Result Counts Refusal). on_header h (verdict cs)) q ∙ good_on c (verdict cs)
