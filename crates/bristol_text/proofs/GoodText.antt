-- An accepted text is a good one.
--     passes_good, good_passes        all checks but 10 pass exactly if it is good;  accepted_good, good_accepted: by their verdict
-- Assumes nothing.
use mathlib.Core.Path.{◌≡◌, refl, sym, ◌∙◌}
use mathlib.Core.Bool.{Bool, true, false, not, ◌&&◌, true≢false}
use mathlib.Core.List.{List, [], ◌∷◌}
use Prim.Native.Nat.{ℕ, suc, ◌<◌}
use native.Mathlib.Omega.{arith}
use lib.ListN.{length, get_or}
use lib.Dec.{ltb, eqb}
use borrow.Author.Tests.{lt-ltb, ltb-true, leb-true, le-leb, eqb-true, eq-eqb, not-false}
use Rattle.theory_calls.specs.Checks.{one_to_three, limits_row, tested, at_places, accepted, verdict}
use Rattle.theory_calls.proofs.Refusals.{Clears, Passes, accepted_passes, passes_accepted}
use Rattle.theory_files.specs.Written.{Within}
use Rattle.theory_files.proofs.Opens.{Fail, places_clear}
use Rattle.theory_calls.proofs.Limits.{or_first}
use Rattle.bristol_text.specs.Call.{row_values, text_checks}
use Rattle.bristol_text.specs.Good.{Good}

-- the one place of a row
alone : (p : ℕ) (t : Bool) → Clears (at_places (suc p) ((p, t) ∷ [])) → t ≡ false
unfolding tested
alone p t c = or_first t false (sym (rw (eq-eqb p p refl)) ∙ c p (omega arith))

within_limits : (i g o : ℕ) → Clears (limits_row i g o) → Within i g o
unfolding tested
within_limits i g o c = record {
  few_inputs = leb-true _ _ (not-false _ (or_first _ _ (c 0 (omega arith))));
  few_gates = leb-true _ _ (not-false _ (or_first _ _ (c 1 (omega arith))));
  few_outputs = leb-true _ _ (not-false _ (or_first _ _ (c 2 (omega arith))));
}

limits_within : (i g o : ℕ) → Within i g o → Clears (limits_row i g o)
unfolding Fail
limits_within i g o h =
    places_clear 3 _ (rw (le-leb i 1024 h.few_inputs), (rw (le-leb g 3072 h.few_gates), (rw (le-leb o 256 h.few_outputs), tt)))

module _ (owners : List ℕ) (v : ℕ) where
  values_long : Clears (row_values owners v) → length owners ≡ v
  values_long c = eqb-true _ _ (go (eqb (length owners) v) refl)
    where
      go : (b : Bool) → eqb (length owners) v ≡ b → b ≡ true
      go true e = refl
      go false e = absurd (true≢false (sym (rw (e, eq-eqb v v refl)) ∙ c v (omega arith)))

  values_good : Clears (row_values owners v) → (k : ℕ) → k < length owners → one_to_three (get_or owners k 0) ≡ true
  values_good c k h =
      let l = values_long c in
      let below : k < v = omega arith in
      not-false _ (sym (rw (eq-eqb (length owners) v l, lt-ltb k v below)) ∙ c k (omega arith))

  good_values : length owners ≡ v → ((k : ℕ) → k < length owners → one_to_three (get_or owners k 0) ≡ true) → Clears (row_values owners v)
  good_values l h p q = rw (eq-eqb (length owners) v l) (go (ltb p v) refl)
    where
      go : (b : Bool) → ltb p v ≡ b → (b && not (one_to_three (get_or owners p 0))) ≡ false
      go true e = let a : p < v = ltb-true p v e in rw (h p (omega arith))
      go false e = refl

module _ (ls : List (List ℕ)) (owners : List ℕ) where
  pub passes_good : Passes (text_checks ls owners) → Good ls owners
  unfolding Passes text_checks
  passes_good h = record {
    faultless = λ p q. eqb-true _ _ (not-false _ (h.0 p (omega arith)));
    whole = not-false _ (alone (length ls) _ h.1.0);
    outs_written = not-false _ (alone (length ls) _ h.1.1.0);
    an_owner_each = values_long owners _ h.1.1.1.0;
    owners_good = values_good owners _ h.1.1.1.0;
    within = within_limits _ _ _ h.1.1.1.1.0;
  }

  pub good_passes : Good ls owners → Passes (text_checks ls owners)
  unfolding Passes text_checks Fail
  good_passes h = (
    λ p q. rw (h.faultless p (omega arith)),
    (
      places_clear (suc (length ls)) _ (rw h.whole, tt),
      (
        places_clear (suc (length ls)) _ (rw h.outs_written, tt),
        (good_values owners _ h.an_owner_each h.owners_good, (limits_within _ _ _ h.within, tt)),
      ),
    ),
  )

  pub accepted_good : verdict (text_checks ls owners) ≡ accepted → Good ls owners
  accepted_good e = passes_good (accepted_passes (text_checks ls owners) e)

  pub good_accepted : Good ls owners → verdict (text_checks ls owners) ≡ accepted
  good_accepted h = passes_accepted (text_checks ls owners) (good_passes h)
