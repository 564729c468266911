-- The run on a clean line that a listing makes.
--     zeros_clean, front_clean    zeros are a clean line, and so is a part of one
--     clean_opens                 what a run on a clean line hands over
--     line_fits, store_fits, outputs_fit, ready    what checks 1 to 8 leave is what a run wants, and the rooms hold it
-- Assumes nothing.
use mathlib.Core.Path.{◌≡◌, refl, ap, ◌∙◌}
use mathlib.Core.List.{List, [], ◌∷◌}
use Prim.Native.Nat.{ℕ, zero, suc, ◌+◌, ◌*◌, ◌≤◌}
use native.Mathlib.Omega.{arith}
use lib.ListN.{length, get_or, take, replicate}
use Rattle.std.specs.Prelude.{Result}
use Rattle.theory_sharing.specs.Ops.{bits}
use Rattle.theory_sharing.specs.Circuit.{Circuit, Draws, Errors, no_errors}
use Rattle.theory_sharing.specs.Run.{outputs}
use Rattle.theory_sharing.specs.Line.{errors}
use Rattle.theory_sharing.proofs.Clean.{no_objection}
use Rattle.theory_sharing.proofs.RunLaws.{stop_none}
use Rattle.theory_sharing.proofs.BitLaws.{bit_group}
use Rattle.theory_calls.specs.File.{circuit}
use Rattle.theory_calls.specs.Answer.{After}
use Rattle.theory_calls.specs.Checks.{line_want}
use Rattle.theory_calls.specs.Statements.{Clean}
use Rattle.theory_calls.specs.AtBits.{ran}
use Rattle.theory_calls.proofs.RunCall.{clean_errors, bit_draws, ran_quiet}
use Rattle.file_header.specs.declared.Counts.{Counts}
use Rattle.check_given.proofs.GivenLaws.{line_is}
use Rattle.check_refusal.specs.declared.Refusal.{Refusal}
use Rattle.file_counts.specs.declared.Counted.{Counted}
use Rattle.run.specs.declared.Ran.{Ran}
use Rattle.run.specs.Answers.{run_after}
use Rattle.run.specs.Mirror.{Ready}
use Rattle.listing.specs.Mirror.{Fit}

pub zeros_clean : (n : ℕ) → Clean (replicate n 0)
unfolding Clean
zeros_clean zero k = refl
zeros_clean (suc n) zero = refl
zeros_clean (suc n) (suc k) = zeros_clean n k

pub front_clean : (n : ℕ) (l : List ℕ) → Clean l → Clean (take n l)
unfolding Clean
front_clean n l h k = go n l k (h k)
  where
    go : (m : ℕ) (s : List ℕ) (i : ℕ) → get_or s i 0 ≡ 0 → get_or (take m s) i 0 ≡ 0
    go zero s i e = refl
    go (suc m) [] i e = refl
    go (suc m) (v ∷ s) zero e = e
    go (suc m) (v ∷ s) (suc i) e = go m s i e

pub clean_opens : (C : Circuit) (x : ℕ → ℕ) (T : Draws) (l outs tr : List ℕ) (r : Result Ran Refusal) (o' t' s' : List ℕ) → Clean l
    → run_after r o' t' s' ≡ ran C x T (errors C l) outs tr → o' ≡ outputs bits C x T no_errors C.outs
clean_opens C x T l outs tr r o' t' s' h e =
    let q : errors C l ≡ no_errors = clean_errors C l h in
    ap (λ (z : After). get_or z.lent 0 [])
    (e ∙ ap (λ (E : Errors). ran C x T E outs tr) q
    ∙ ran_quiet bits C x T no_errors outs tr (stop_none bits C x T no_errors (λ p k. no_objection bit_group C x T (bit_draws T) p)))

-- ---- what a run wants
module _ (k : Counted) (x t : List ℕ) (d : Fit k x t) where
  abbrev f : List ℕ
  f = k.circuit.file.now

  abbrev c : Counts
  c = k.circuit.counts

  abbrev a : ℕ
  a = k.ands

  pub lines_are : 4 * c.inputs + 12 * a + 6 * c.outputs ≡ line_want (circuit f)
  lines_are = line_is f c a k.circuit.checked.opened k.counted.0

  -- the rooms hold what the largest circuit needs
  pub line_fits : (z : List ℕ) → length z ≡ 42496 → 4 * c.inputs + 12 * a + 6 * c.outputs ≤ length z
  line_fits z e = let o = k.circuit.checked.opened in let p = o.few_inputs in let q = o.few_gates in let r = o.few_outputs in let s = k.counted.1 in omega arith

  pub store_fits : (z : List ℕ) → length z ≡ 24576 → 6 * (c.inputs + c.gates) ≤ length z
  store_fits z e = let o = k.circuit.checked.opened in let p = o.few_inputs in let q = o.few_gates in omega arith

  pub outputs_fit : (z : List ℕ) → length z ≡ 768 → 3 * c.outputs ≤ length z
  outputs_fit z e = let r = k.circuit.checked.opened.few_outputs in omega arith

  pub ready : (l r s : ℕ) → l ≡ 4 * c.inputs + 12 * a + 6 * c.outputs → r ≡ 4 * c.inputs + 12 * a + 6 * c.outputs → s ≡ 6 * (c.inputs + c.gates)
      → Ready f c (length x) (length t) l r s
  ready l r s el er es = record { checked = k.circuit.checked; lx = d.in_x.long; lt = d.in_t; ll = el ∙ lines_are; lr = er ∙ lines_are; ls = es }
