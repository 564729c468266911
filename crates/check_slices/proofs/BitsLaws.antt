-- The fault of a slice of bits, as the code meets it.
--     bits_short, bits_long    of a slice that has not its length, and of one that has it
--     bits_right        where there is no fault the slice has its length
--     sizes_found       the first buffer that has not its length;  sizes_bad, sizes_good: 10's verdict by it
--     under_first       where the largest byte is 0 or 1 there is none above 1
--     above_found       the first byte above 1, looked for
-- Assumes nothing.
use mathlib.Core.Path.{◌≡◌, refl, sym, ap, ◌∙◌, subst}
use mathlib.Core.Bool.{Bool, true, false, not, cond}
use mathlib.Core.List.{List, []}
use Prim.Native.Nat.{ℕ, suc, ◌+◌, ◌<◌, ◌≤◌}
use native.Mathlib.Omega.{arith}
use lib.ListN.{length, get_or, length-map, get_or-map}
use lib.Dec.{leb, ltb, eqb}
use borrow.Author.Tests.{le-leb, ltb-true, ltb-false}
use Rattle.std.specs.Prelude.{Option, None, Some, map, position}
use Rattle.theory_sharing.specs.First.{first}
use Rattle.theory_sharing.proofs.FirstLaws.{first_none, first_clear}
use Rattle.theory_calls.specs.Checks.{row_buffer, fault, accepted, refuses, verdict}
use Rattle.theory_calls.specs.AtBits.{bits_row}
use Rattle.theory_calls.proofs.Refusals.{row_refuses, row_passes}
use Rattle.theory_calls.proofs.RowLaws.{listed_short, listed_bad, listed_sound, bits_clear}
use Rattle.check_refusal.specs.Found.{some_below}
use Rattle.check_refusal.proofs.FoundLaws.{some_is, none_is, some_found, none_found, position_first}
use Rattle.check_tests.specs.Mirror.{above, wrong_size}
use Rattle.check_slices.specs.Mirror.{Under, sizes_checks}

above_found : (s : List ℕ) → position (λ b. not (leb b 1)) s ≡ some_below (first (above s) (length s)) (length s)
unfolding above
above_found s = position_first (λ b. not (leb b 1)) 0 s

-- the fault of a slice of bits: the wanted length, or an index
module _ (s : List ℕ) (want : ℕ) where
  pub bits_short : (length s ≡ want → ⊥) → Some want ≡ some_below (fault (bits_row s want)) (want + 1)
  bits_short h = rw (← listed_short (λ n. leb n 1) s want h) (some_is want (want + 1) (omega arith))

  at_place : (k : ℕ) → length s ≡ want → k ≡ first (above s) want → some_below k want ≡ some_below (fault (bits_row s want)) (want + 1)
  unfolding above
  at_place k l e = go (ltb k want) refl
    where
      go : (b : Bool) → ltb k want ≡ b → cond b (Some k) None ≡ some_below (fault (bits_row s want)) (want + 1)
      go true q = rw (← listed_bad (λ n. leb n 1) s want k l e (ltb-true k want q)) (let h = ltb-true k want q in some_is k (want + 1) (omega arith))
      go false q = rw (← listed_sound (λ n. leb n 1) s want k l e (ltb-false k want q)) (none_is (want + 1) (want + 1) (omega arith))

  pub bits_long : length s ≡ want → (r : Option ℕ) → r ≡ position (λ b. not (leb b 1)) s → r ≡ some_below (fault (bits_row s want)) (want + 1)
  bits_long l r e = e ∙ above_found s ∙ ap (λ (n : ℕ). some_below (first (above s) n) n) l ∙ at_place _ l refl

  -- where there is no fault the slice has its length
  pub bits_right : ◌≡◌ {A = Option ℕ} None (some_below (fault (bits_row s want)) (want + 1)) → length s ≡ want
  unfolding fault
  bits_right e = let h = none_found _ _ e in (bits_clear s want (first_clear (bits_row s want).bad (suc want) (omega arith))).long

-- the largest byte
pub under_first : (s : List ℕ) (m : ℕ) → Under s m (length s) → m ≤ 1 → None ≡ position (λ b. not (leb b 1)) s
unfolding above
under_first s m u h =
    none_is (length s) (length s) (omega arith)
    ∙ ap (λ (n : ℕ). some_below n (length s)) (sym (first_none (above s) (length s) (λ k l. let z : get_or s k 0 ≤ m = u k l in rw (le-leb (get_or s k 0) 1 (omega arith)))))
    ∙ sym (above_found s)

pub sizes_found : (bs : List (ℕ × ℕ)) → position (λ b. not (eqb b.0 b.1)) bs ≡ some_below (first (wrong_size (map (λ b. b.0) bs) (map (λ b. b.1) bs)) (length bs)) (length bs)
unfolding wrong_size
sizes_found bs =
    position_first (λ b. not (eqb b.0 b.1)) (0, 0) bs
    ∙ (λ i. some_below (first (λ (k : ℕ). not (eqb (sym (get_or-map (λ b. b.0) bs k (0, 0)) i) (sym (get_or-map (λ b. b.1) bs k (0, 0)) i))) (length bs)) (length bs))

module _ (bs : List (ℕ × ℕ)) where
  long : length bs ≡ length (map (λ (b : ℕ × ℕ). b.1) bs)
  long = sym (length-map bs (λ b. b.1))

  same : first (wrong_size (map (λ b. b.0) bs) (map (λ b. b.1) bs)) (length bs) ≡ fault (row_buffer (map (λ b. b.0) bs) (map (λ b. b.1) bs))
  unfolding fault wrong_size
  same = λ j. first (λ i. not (eqb (get_or (map (λ b. b.0) bs) i 0) (get_or (map (λ b. b.1) bs) i 0))) (long j)

  pub sizes_bad : (k : ℕ) → Some k ≡ position (λ b. not (eqb b.0 b.1)) bs → refuses 10 k ≡ verdict (sizes_checks bs)
  sizes_bad k e =
      let f = some_found k _ _ (e ∙ sizes_found bs) in
      let h : k < length bs = subst (λ (z : ℕ). z < length bs) (sym f.0) f.1 in
      row_refuses 10 [] _ k (f.0 ∙ same) (omega (arith, long, h))

  pub sizes_good : ◌≡◌ {A = Option ℕ} None (position (λ b. not (eqb b.0 b.1)) bs) → accepted ≡ verdict (sizes_checks bs)
  unfolding verdict
  sizes_good e = let f = none_found _ _ (e ∙ sizes_found bs) in row_passes 10 [] _ _ same (omega (arith, long, f))
