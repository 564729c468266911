-- Check 2 as its test has it.
--     judged_large, judged_fields    a count that is too large; counts within their limits
-- Assumes nothing.
use mathlib.Core.Path.{◌≡◌, refl, ◌∙◌}
use mathlib.Core.Bool.{Bool, true, false, cond}
use Prim.Native.Nat.{ℕ}
use lib.Dec.{leb}
use Rattle.std.specs.Prelude.{Option, None, Some, Result, Ok, Err}
use Rattle.check_limits.specs.Mirror.{large_place}
use Rattle.check_refusal.specs.declared.Refusal.{Refusal}
use Rattle.check_refusal.specs.declared.Refusal.TheVariants.{Limit}
use Rattle.file_header.specs.declared.Counts.{Counts}
use Rattle.file_header.specs.declared.Fields.{Fields}
use Rattle.file_header.specs.Mirror.{fields_judged, judged}

-- the three tests in a row, with what follows them
abbrev places : Bool → Bool → Bool → Option ℕ
places a b c = cond a (cond b (cond c None (Some 2)) (Some 1)) (Some 0)

abbrev rows : Bool → Bool → Bool → Result Counts Refusal → Result Counts Refusal
rows a b c h = cond a (cond b (cond c h (Err (Limit 2))) (Err (Limit 1))) (Err (Limit 0))

large : (a b c : Bool) (h : Result Counts Refusal) (k : ℕ) → Some k ≡ places a b c → Err (Limit k) ≡ rows a b c h
large true true true h k e = absurd (cc)
large true true false h k e = cc
large true false c h k e = cc
large false b c h k e = cc

fine : (a b c : Bool) (h : Result Counts Refusal) → ◌≡◌ {A = Option ℕ} None (places a b c) → h ≡ rows a b c h
fine true true true h e = refl
fine true true false h e = absurd (cc)
fine true false c h e = absurd (cc)
fine false b c h e = absurd (cc)

module _ (len : ℕ) (f : Fields) where
  pub judged_large : (k : ℕ) → Some k ≡ large_place f.inputs f.gates f.outputs → Err (Limit k) ≡ judged len f
  unfolding judged large_place
  judged_large = large (leb f.inputs 1024) (leb f.gates 3072) (leb f.outputs 256) (fields_judged len f)

  pub judged_fields : ◌≡◌ {A = Option ℕ} None (large_place f.inputs f.gates f.outputs) → (h : Result Counts Refusal) → h ≡ fields_judged len f → h ≡ judged len f
  unfolding judged large_place
  judged_fields e h d = d ∙ fine (leb f.inputs 1024) (leb f.gates 3072) (leb f.outputs 256) (fields_judged len f) e
