-- Checks as code goes through them, one after the other: where the first ones of an order passed, the rest of it gives the verdict.
--     nothing                    an order of no checks refuses nothing
--     Left                       ms is left of an order
--     bits_stop, bits_go         7, 8, 9 or 12 stops at a slice of bits; or goes on
--     sizes_left, sizes_stop, sizes_go    10, at the lengths of buffers: it is what is left; and stops or goes on
--     site_stop, site_go         11
-- Assumes nothing.
use mathlib.Core.Path.{◌≡◌, refl, sym, ap, ◌∙◌, subst}
use mathlib.Core.Bool.{Bool, true, false, not}
use mathlib.Core.List.{List, [], ◌∷◌, ◌++◌}
use Prim.Native.Nat.{ℕ, ◌+◌, ◌<◌}
use native.Mathlib.Omega.{arith}
use Rattle.std.specs.Prelude.{Option, None, Some, Result, Ok, Err, map}
use Rattle.theory_sharing.specs.First.{first}
use Rattle.theory_calls.specs.Checks.{Refusal, refusal, one_to_three, tested, row_buffer, row_site, fault, accepted, refuses, verdict}
use Rattle.theory_calls.specs.AtBits.{bits_row}
use Rattle.theory_calls.proofs.Refusals.{accepted_passes, verdict_skips, verdict_stays, row_refuses, row_passes}
use Rattle.check_refusal.specs.declared.Refusal.{Refusal as Refused}
use Rattle.check_refusal.specs.Number.{number_of, place_of}
use Rattle.check_refusal.specs.Found.{some_below}
use Rattle.check_refusal.proofs.FoundLaws.{some_found, none_found}
use Rattle.check_tests.specs.declared.Site.{Site}
use Rattle.check_tests.specs.Seat.{seated}
use Rattle.check_tests.proofs.SeatLaws.{seated_good, seated_bad}
use Rattle.check_slices.specs.Mirror.{sizes_checks}

pub nothing : accepted ≡ verdict []
unfolding verdict
nothing = refl

module _ (all : List Refusal) where
  abbrev pub Left : List Refusal → Type 0
  Left cs = verdict cs ≡ verdict all

  module _ (n : ℕ) (cs : List Refusal) (l : List ℕ) (have want : ℕ) (w : have ≡ want) (p : Left (refusal n (bits_row l want) ∷ cs)) where
    pub bits_stop : (k : ℕ) → Some k ≡ some_below (fault (bits_row l have)) (have + 1) → refuses n k ≡ verdict all
    bits_stop k e =
        let f = some_found k _ _ e in
        let h : k < have + 1 = subst (λ (z : ℕ). z < have + 1) (sym f.0) f.1 in
        row_refuses n cs _ k (f.0 ∙ ap (λ (z : ℕ). fault (bits_row l z)) w) (omega (arith, w, h)) ∙ p

    pub bits_go : ◌≡◌ {A = Option ℕ} None (some_below (fault (bits_row l have)) (have + 1)) → Left cs
    bits_go e = let f = none_found _ _ e in row_passes n cs _ (fault (bits_row l have)) (ap (λ (z : ℕ). fault (bits_row l z)) w) (omega (arith, w, f)) ∙ p

  module _ (cs : List Refusal) (bs : List (ℕ × ℕ)) (lengths wanted : List ℕ) (l : map (λ b. b.0) bs ≡ lengths) (w : map (λ b. b.1) bs ≡ wanted)
      (p : Left (refusal 10 (row_buffer lengths wanted) ∷ cs)) where
    -- the buffers' own check is the one that is left
    pub sizes_left : verdict (sizes_checks bs ++ cs) ≡ verdict all
    sizes_left = (λ j. verdict (refusal 10 (row_buffer (l j) (w j)) ∷ cs)) ∙ p

    pub sizes_stop : (d : Refused) → refuses (number_of d) (place_of d) ≡ verdict (sizes_checks bs) → refuses (number_of d) (place_of d) ≡ verdict all
    sizes_stop d e = sym (verdict_stays (sizes_checks bs) cs _ _ (sym e)) ∙ sizes_left

    pub sizes_go : accepted ≡ verdict (sizes_checks bs) → Left cs
    sizes_go e = sym (verdict_skips (sizes_checks bs) cs (accepted_passes (sizes_checks bs) (sym e))) ∙ sizes_left

  module _ (cs : List Refusal) (s : ℕ) (p : Left (refusal 11 (row_site s) ∷ cs)) where
    -- the test's value tells the fault
    site_fault : (t : Bool) → one_to_three s ≡ t → fault (row_site s) ≡ first (tested ((0, not t) ∷ [])) 1
    unfolding fault
    site_fault t q = ap (λ (z : Bool). first (tested ((0, not z) ∷ [])) 1) q

    pub site_stop : (d : Refused) → Err d ≡ seated s → refuses (number_of d) (place_of d) ≡ verdict all
    unfolding first tested
    site_stop d e =
        let f = seated_bad s d e in
        (λ i. refuses (number_of (f.1 i)) (place_of (f.1 i))) ∙ row_refuses 11 cs _ 0 (sym (site_fault false f.0)) (omega arith) ∙ p

    pub site_go : (t : Site) → Ok t ≡ seated s → Left cs
    unfolding first tested
    site_go t e = row_passes 11 cs _ 1 (sym (site_fault true (seated_good s t e))) (omega arith) ∙ p
