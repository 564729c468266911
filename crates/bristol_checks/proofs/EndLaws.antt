-- The checks behind the last line, as their searches and tests meet them.
--     outs_said                     the output wires;  outs_on, outs_off, written, unwritten: one after the other
--     owners_short, owners_first    4
--     given_4, given_2              4, then 2
-- Assumes nothing.
use mathlib.Core.Path.{◌≡◌, refl, sym, ap, ◌∙◌}
use Rattle.std.specs.Option.{is_some, MatchOption}
use mathlib.Core.Bool.{true≢false}
use Rattle.std.proofs.Common.{◌≢◌, Option, None, Some, position}
use mathlib.Core.Bool.{Bool, true, false, not, ◌&&◌}
use mathlib.Core.List.{List, [], ◌∷◌}
use Prim.Native.Nat.{ℕ, zero, suc, ◌+◌, ◌-◌, ◌<◌, ◌≤◌}
use native.Mathlib.Omega.{arith}
use lib.ListN.{length, get_or}
use lib.Dec.{leb, ltb, eqb}
use borrow.Author.Tests.{ltb-true, ltb-false, eq-eqb, ne_eqb}
use Rattle.theory_sharing.specs.First.{first}
use Rattle.theory_calls.specs.Checks.{refusal, one_to_three, limits_row, fault, Verdict, accepted, refuses, verdict}
use Rattle.theory_calls.proofs.Refusals.{row_refuses, row_passes}
use Rattle.theory_calls.proofs.RowLaws.{listed_short, listed_bad, listed_sound}
use Rattle.theory_calls.proofs.Places.{Rising, refuse_at, place_verdict}
use Rattle.check_limits.specs.Mirror.{large_place}
use Rattle.check_refusal.specs.Found.{some_below}
use Rattle.check_refusal.proofs.FoundLaws.{some_is, none_is, some_found, none_found, position_first}
use Rattle.bristol_text.specs.Heard.{count_up}
use Rattle.bristol_text.specs.Call.{row_values}
use Rattle.bristol_text.proofs.CountLaws.{count_one}
use Rattle.bristol_wires.specs.declared.Text.{Text}
use Rattle.bristol_wires.specs.Mirror.{entry_of}
use Rattle.bristol_laws.specs.Matches.{all_entered}
use Rattle.bristol_checks.specs.Mirror.{given_checks}

-- every wire of n from a on has an entry, or one has none
module _ (m : List ℕ) (I : ℕ) where
  all_written : (a n : ℕ) → ((w : ℕ) → a ≤ w → w < a + n → eqb (entry_of m I w) 0 ≡ false) → true ≡ all_entered m I (count_up a n)
  unfolding all_entered count_up
  all_written a zero h = refl
  all_written a (suc n) h = rw (h a (omega arith) (omega arith)) (all_written (suc a) n (λ w b l. h w (omega arith) (omega arith)))

  one_unwritten : (a n w : ℕ) → a ≤ w → w < a + n → eqb (entry_of m I w) 0 ≡ true → false ≡ all_entered m I (count_up a n)
  unfolding all_entered count_up
  one_unwritten a zero w b l e = absurd (omega arith)
  one_unwritten a (suc n) w b l e = go (eqb (entry_of m I a) 0) refl (λ o. one_unwritten (suc a) n w (omega arith) (omega arith) e)
    where
      go : (z : Bool) → eqb (entry_of m I a) 0 ≡ z → (a ≢ w → false ≡ all_entered m I (count_up (suc a) n)) → false ≡ (not z && all_entered m I (count_up (suc a) n))
      go true q ih = refl
      go false q ih = ih (λ k. true≢false (sym e ∙ ap (λ (i : ℕ). eqb (entry_of m I i) 0) (sym k) ∙ q))

  pub outs_said : (a b n : ℕ) → b ≡ a + n → (r : Option ℕ)
      → MatchOption r ((k : ℕ) → a ≤ k → k < b → eqb (entry_of m I k) 0 ≡ false) (λ i. (a ≤ i) × (i < b) × (eqb (entry_of m I i) 0 ≡ true) × ((k : ℕ) → a ≤ k → k < i → eqb (entry_of m I k) 0 ≡ false))
      → (q : Bool) → is_some r ≡ not q → q ≡ all_entered m I (count_up a n)
  outs_said a b n e None h true q = all_written a n (λ w l k. h w l (omega arith))
  outs_said a b n e None h false q = cc
  outs_said a b n e (Some i) h true q = cc
  outs_said a b n e (Some i) h false q = one_unwritten a n i h.0 (omega (arith, h.1)) h.2

-- 4, as every list of a wanted length has it
module _ (os : List ℕ) (v : ℕ) where
  pub owners_short : (length os ≡ v → ⊥) → Some v ≡ some_below (fault (row_values os v)) (v + 1)
  owners_short h = rw (← listed_short one_to_three os v h) (some_is v (v + 1) (omega arith))

  abbrev first_bad : ℕ
  first_bad = first (λ (i : ℕ). not (one_to_three (get_or os i 0))) (length os)

  pub owners_first : length os ≡ v → (r : Option ℕ) → r ≡ position (λ o. not (one_to_three o)) os → r ≡ some_below (fault (row_values os v)) (v + 1)
  owners_first h r e = e ∙ position_first (λ o. not (one_to_three o)) 0 os ∙ go first_bad (ap (first (λ (i : ℕ). not (one_to_three (get_or os i 0)))) h) (ltb first_bad (length os)) refl
    where
      go : (k : ℕ) → k ≡ first (λ (i : ℕ). not (one_to_three (get_or os i 0))) v → (b : Bool) → ltb k (length os) ≡ b → some_below k (length os) ≡ some_below (fault (row_values os v)) (v + 1)
      go k d true q =
          let l : k < length os = ltb-true _ _ q in
          let f = listed_bad one_to_three os v k h d (omega arith) in
          sym (some_is k (length os) l) ∙ rw (← f) (some_is k (v + 1) (omega arith))
      go k d false q =
          let l : length os ≤ k = ltb-false _ _ q in
          let f = listed_sound one_to_three os v k h d (omega arith) in
          sym (none_is k (length os) l) ∙ rw (← f) (none_is (v + 1) (v + 1) (omega arith))

-- 2, by the place that the test of the limits gives
module _ (i g x : ℕ) where
  tests : List (ℕ × Bool)
  tests = (0, not (leb i 1024)) ∷ (1, not (leb g 3072)) ∷ (2, not (leb x 256)) ∷ []

  limits_verdict : verdict (refusal 2 (limits_row i g x) ∷ []) ≡ refuse_at 2 tests accepted
  unfolding Rising verdict tests
  limits_verdict = place_verdict 2 3 tests [] (omega arith, omega arith, (omega arith, omega arith, (omega arith, omega arith, tt)))

  -- the verdict on a place
  abbrev pub limit : Option ℕ → Verdict
  limit None = accepted
  limit (Some p) = refuses 2 p

  by_cases : (a b c : Bool) → leb i 1024 ≡ a → leb g 3072 ≡ b → leb x 256 ≡ c → limit (large_place i g x) ≡ refuse_at 2 tests accepted
  unfolding large_place refuse_at tests
  by_cases false b c p q r = rw p
  by_cases true false c p q r = rw (p, q)
  by_cases true true false p q r = rw (p, q, r)
  by_cases true true true p q r = rw (p, q, r)

  limits_say : limit (large_place i g x) ≡ verdict (refusal 2 (limits_row i g x) ∷ [])
  limits_say = by_cases (leb i 1024) (leb g 3072) (leb x 256) refl refl refl ∙ sym limits_verdict

module _ (t : Text) (os : List ℕ) where
  pub given_4 : (o : ℕ) → Some o ≡ some_below (fault (row_values os t.values)) (t.values + 1) → refuses 4 o ≡ verdict (given_checks t os)
  given_4 o e =
      let f = some_found o _ _ e in
      row_refuses 4 _ (row_values os t.values) o f.0 (omega (arith, f.0, f.1))

  pub given_2 : ◌≡◌ {A = Option ℕ} None (some_below (fault (row_values os t.values)) (t.values + 1)) → (r : Option ℕ) → r ≡ large_place t.ins t.made t.outs
      → limit t.ins t.made t.outs r ≡ verdict (given_checks t os)
  given_2 e r q =
      let h = none_found _ _ e in
      rw q (limits_say t.ins t.made t.outs) ∙ row_passes 4 _ (row_values os t.values) _ refl (omega (arith, h))

-- the output wires one by one, from number o on
module _ (m : List ℕ) (I a n : ℕ) where
  -- whether the wires from number o on have entries
  abbrev from_out : ℕ → Bool
  from_out o = all_entered m I (count_up (a + o) (n - o))

  one : (o : ℕ) → o < n → from_out o ≡ (not (eqb (entry_of m I (a + o)) 0) && from_out (o + 1))
  unfolding all_entered
  one o h = ap (all_entered m I) (count_one a n o h)

  pub outs_on : (o e : ℕ) → o < n → e ≡ entry_of m I (a + o) → (e ≡ 0 → ⊥) → from_out (o + 1) ≡ from_out o
  outs_on o e h p z = sym (one o h ∙ rw (← p, ne_eqb e 0 z))

  pub outs_off : (o e : ℕ) → o < n → e ≡ entry_of m I (a + o) → e ≡ 0 → false ≡ from_out o
  outs_off o e h p z = sym (one o h ∙ rw (← p, eq-eqb e 0 z))

  -- the same, as the loop meets them: no line names the test's own goal, so a wrong test falls at the promise itself
  pub unwritten : (o e : ℕ) (r : Bool) → o < n → e ≡ entry_of m I (a + o) → e ≡ 0 → from_out o ≡ r → false ≡ r
  unwritten o e r h p z q = outs_off o e h p z ∙ q

  pub written : (o e : ℕ) (r : Bool) → o < n → e ≡ entry_of m I (a + o) → e ≢ 0 → from_out o ≡ r → from_out (o + 1) ≡ r
  written o e r h p z q = outs_on o e h p z ∙ q
