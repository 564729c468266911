-- 14 on a job's header, over plain numbers: no line names a test's own goal, so a wrong limit falls at the promise itself.
use Rattle.std.proofs.Common.{◌≡◌, ℕ, ◌<◌, ◌≤◌, ◌≢◌, None, Some}
use borrow.Author.Tests.{le-leb, lt-leb, eq-eqb, ne_eqb}
use Rattle.check_refusal.specs.Found.{some_below}
use Rattle.check_tests.specs.Mirror.{job_place}

module _ (n a b c d : ℕ) where
  pub job_too_long : 41520 < n → Some 0 ≡ some_below (job_place n a b c d) 13
  unfolding job_place
  job_too_long h = simp (lt-leb _ _ h)

  pub job_other_length : n ≤ 41520 → a ≢ n → Some 0 ≡ some_below (job_place n a b c d) 13
  unfolding job_place
  job_other_length f h = simp (le-leb _ _ f, ne_eqb _ _ h)

  pub job_circuit_elsewhere : n ≤ 41520 → a ≡ n → b ≢ 16 → Some 4 ≡ some_below (job_place n a b c d) 13
  unfolding job_place
  job_circuit_elsewhere f g h = simp (le-leb _ _ f, eq-eqb _ _ g, ne_eqb _ _ h)

  pub job_inputs_early : n ≤ 41520 → a ≡ n → b ≡ 16 → c < 16 → Some 8 ≡ some_below (job_place n a b c d) 13
  unfolding job_place
  job_inputs_early f g e h = simp (le-leb _ _ f, eq-eqb _ _ g, eq-eqb _ _ e, lt-leb _ _ h)

  pub job_inputs_late : n ≤ 41520 → a ≡ n → b ≡ 16 → 16 ≤ c → n < c → Some 8 ≡ some_below (job_place n a b c d) 13
  unfolding job_place
  job_inputs_late f g e i h = simp (le-leb _ _ f, eq-eqb _ _ g, eq-eqb _ _ e, le-leb _ _ i, lt-leb _ _ h)

  pub job_tapes_early : n ≤ 41520 → a ≡ n → b ≡ 16 → 16 ≤ c → c ≤ n → d < c → Some 12 ≡ some_below (job_place n a b c d) 13
  unfolding job_place
  job_tapes_early f g e i j h = simp (le-leb _ _ f, eq-eqb _ _ g, eq-eqb _ _ e, le-leb _ _ i, le-leb _ _ j, lt-leb _ _ h)

  pub job_tapes_late : n ≤ 41520 → a ≡ n → b ≡ 16 → 16 ≤ c → c ≤ n → c ≤ d → n < d → Some 12 ≡ some_below (job_place n a b c d) 13
  unfolding job_place
  job_tapes_late f g e i j k h = simp (le-leb _ _ f, eq-eqb _ _ g, eq-eqb _ _ e, le-leb _ _ i, le-leb _ _ j, le-leb _ _ k, lt-leb _ _ h)

  pub job_good : n ≤ 41520 → a ≡ n → b ≡ 16 → 16 ≤ c → c ≤ n → c ≤ d → d ≤ n → None ≡ some_below (job_place n a b c d) 13
  unfolding job_place
  job_good f g e i j k h = simp (le-leb _ _ f, eq-eqb _ _ g, eq-eqb _ _ e, le-leb _ _ i, le-leb _ _ j, le-leb _ _ k, le-leb _ _ h)

pub ruleset job_laws = (job_too_long, job_other_length, job_circuit_elsewhere, job_inputs_early, job_inputs_late, job_tapes_early, job_tapes_late, job_good)
