-- The job's header, as the code meets it.
--     job_short, job_law            14
-- Assumes nothing.
use mathlib.Core.Path.{◌≡◌, refl, sym, ap, ◌∙◌}
use mathlib.Core.Bool.{Bool, true, false, not, cond, ◌&&◌}
use mathlib.Core.List.{List}
use Prim.Native.Nat.{ℕ, ◌<◌, ◌≤◌}
use native.Mathlib.Omega.{arith}
use lib.ListN.{length}
use lib.Dec.{leb, eqb}
use Rattle.std.specs.Prelude.{Option, None, Some}
use borrow.Author.Tests.{le-leb, lt-leb}
use Rattle.theory_calls.specs.File.{le32}
use Rattle.theory_calls.specs.Checks.{fault, row_job}
use Rattle.theory_calls.proofs.Places.{Rising, scan, place_fault}
use Rattle.check_refusal.specs.Found.{some_below}
use Rattle.check_tests.specs.Mirror.{job_place}

-- 14
job_scan : (j : List ℕ) → let n = length j in
    fault (row_job j)
    ≡ cond (not (leb 16 n && leb n 41520 && eqb (le32 j 0) n)) 0
    (cond (not (eqb (le32 j 4) 16)) 4
    (cond (not (leb 16 (le32 j 8) && leb (le32 j 8) n)) 8
    (cond (not (leb (le32 j 8) (le32 j 12) && leb (le32 j 12) n)) 12 13)))
unfolding Rising scan
job_scan j = place_fault 13 _ (omega arith, omega arith, (omega arith, omega arith, (omega arith, omega arith, (omega arith, omega arith, tt))))

pub job_short : (j : List ℕ) → length j < 16 → Some 0 ≡ some_below (fault (row_job j)) 13
job_short j h = rw (job_scan j, lt-leb 16 (length j) h)

flip_cond : (b : Bool) (x y : ℕ) → cond (not b) x y ≡ cond b y x
flip_cond true x y = refl
flip_cond false x y = refl

pub job_law : (j : List ℕ) (a b c d : ℕ) (r : Option ℕ) → 16 ≤ length j → a ≡ le32 j 0 → b ≡ le32 j 4 → c ≡ le32 j 8 → d ≡ le32 j 12
    → r ≡ some_below (job_place (length j) a b c d) 13 → r ≡ some_below (fault (row_job j)) 13
unfolding job_place
job_law j a b c d r h ea eb ec ed e =
    e ∙ ap (λ (z : ℕ). some_below z 13) (rw (ea, eb, ec, ed) (sym (job_scan j ∙ rw (le-leb 16 (length j) h)
    (flip_cond (leb (length j) 41520 && eqb (le32 j 0) (length j)) 0 _
    ∙ ap (λ (z : ℕ). cond (leb (length j) 41520 && eqb (le32 j 0) (length j)) z 0) (flip_cond (eqb (le32 j 4) 16) 4 _
    ∙ ap (λ (z : ℕ). cond (eqb (le32 j 4) 16) z 4) (flip_cond (leb 16 (le32 j 8) && leb (le32 j 8) (length j)) 8 _
    ∙ ap (λ (z : ℕ). cond (leb 16 (le32 j 8) && leb (le32 j 8) (length j)) z 8) (flip_cond (leb (le32 j 8) (le32 j 12) && leb (le32 j 12) (length j)) 12 13)))))))
