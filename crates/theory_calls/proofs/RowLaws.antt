-- What it means that a row of the table of refusals holds nowhere.
--     numbers_clear, clear_numbers      7, 8, 9, 12: the wanted length, and every number the family's;  bits_clear: at bits
--     sizes_clear, clear_sizes          10: every buffer has its length
--     Keeps, keeps_clear, clear_keeps   13: own inputs and opened bits are kept
-- Assumes nothing.
use mathlib.Core.Path.{◌≡◌, refl, sym, ap, ◌∙◌, subst}
use mathlib.Core.Bool.{Bool, true, false, not, cond, ◌&&◌, true≢false}
use mathlib.Core.List.{List}
use Prim.Native.Nat.{ℕ, suc, ◌+◌, ◌-◌, ◌<◌, ◌≤◌}
use native.Mathlib.Omega.{arith}
use native.Mathlib.Numerals.{add-one}
use lib.ListN.{length, get_or, get_or-eq_default}
use lib.Dec.{ltb, eqb}
use borrow.Author.Tests.{lt-ltb, le-ltb, ltb-true, ltb-false, eqb-true, eq-eqb, ne_eqb, not-false}
use Rattle.theory_sharing.specs.Sites.{Site, is}
use Rattle.theory_sharing.specs.Circuit.{Circuit}
use Rattle.theory_sharing.specs.First.{first}
use Rattle.theory_sharing.proofs.FirstLaws.{Clear, first_at, first_none, first_hit, first_before, first_clear}
use Rattle.theory_sharing.proofs.SiteLaws.{is_itself, Seen, itself, behind, before, seen, is_behind, is_before}
use Rattle.theory_calls.specs.Checks.{Row, listed_row, numbers_row, fault}
use Rattle.theory_calls.specs.AtBits.{bits_row}
use Rattle.theory_calls.specs.Statements.{Family, bit_family, Fitting, Numbers, Bits, out_of, Keeps}
use Rattle.theory_calls.proofs.FamilyLaws.{Lawful, bit_lawful}

and_left : (a b : Bool) → a ≡ true → (a && b) ≡ false → b ≡ false
and_left a b e h = rw e at h

-- the fault of such a list: the wanted length, an index, or one beyond
module _ (fine : ℕ → Bool) (l : List ℕ) (want : ℕ) where
  abbrev row : Row
  row = listed_row fine l want

  abbrev unfit : ℕ → Bool
  unfit p = not (fine (get_or l p 0))

  as_long : length l ≡ want → (p : ℕ) → p < want → row.bad p ≡ unfit p
  as_long e p h = rw (eq-eqb _ _ e, lt-ltb p want h)

  pub listed_short : (length l ≡ want → ⊥) → want ≡ fault row
  unfolding fault
  listed_short h =
      sym (first_at row.bad want (suc want) (λ p k. rw (ne_eqb (length l) want h, ne_eqb p want (λ e. omega arith))) (omega arith)
      (rw (ne_eqb (length l) want h, eq-eqb want want refl)))

  pub listed_bad : (k : ℕ) → length l ≡ want → k ≡ first unfit want → k < want → k ≡ fault row
  unfolding fault
  listed_bad k e q h =
      let f : first unfit want < want = (let z : k ≡ first unfit want = q in omega arith) in
      q
      ∙ sym (first_at row.bad (first unfit want) (suc want) (λ p j. as_long e p (omega arith) ∙ first_before unfit want p j) (omega arith)
      (as_long e (first unfit want) f ∙ first_hit unfit want f))

  pub listed_sound : (k : ℕ) → length l ≡ want → k ≡ first unfit want → want ≤ k → want + 1 ≡ fault row
  unfolding fault
  listed_sound k e q h = add-one want ∙ sym (first_none row.bad (suc want) (λ p j. go p (ltb p want) refl))
    where
      clear : Clear unfit want
      clear = first_clear unfit want (let z : k ≡ first unfit want = q in omega arith)

      go : (p : ℕ) (b : Bool) → ltb p want ≡ b → row.bad p ≡ false
      go p true t = let j : p < want = ltb-true p want t in as_long e p j ∙ clear p j
      go p false t = rw (eq-eqb _ _ e, t)

module _ (F : Family) (L : Lawful F) (l : List ℕ) (want : ℕ) where
  pub numbers_clear : Fitting F l → Clear (numbers_row F l want).bad (suc want) → Numbers F l want
  numbers_clear fits c = record { long = long; small = small }
    where
      go : (b : Bool) → eqb (length l) want ≡ b → b ≡ true
      go true e = refl
      go false e = absurd (true≢false (sym (rw (e, eq-eqb want want refl)) ∙ c want (omega arith)))

      long : length l ≡ want
      long = eqb-true _ _ (go (eqb (length l) want) refl)

      below : (k : ℕ) → k < want → F.Small (get_or l k 0)
      below k h =
          let e : (ltb k want && not (F.fine (get_or l k 0))) ≡ false = sym (rw (eq-eqb _ _ long)) ∙ c k (omega arith) in
          L.fine_small _ (fits k) (not-false _ (and_left (ltb k want) _ (lt-ltb k want h) e))

      small : (k : ℕ) → F.Small (get_or l k 0)
      small k = pick (ltb k want) refl
        where
          pick : (b : Bool) → ltb k want ≡ b → F.Small (get_or l k 0)
          pick true e = below k (ltb-true _ _ e)
          pick false e =
              let h : want ≤ k = ltb-false _ _ e in
              let d : get_or l k 0 ≡ 0 = get_or-eq_default l 0 (omega (arith, long)) in
              subst F.Small (sym d) L.closed.in_zero

  pub clear_numbers : Numbers F l want → Clear (numbers_row F l want).bad (suc want)
  clear_numbers b p h = rw (eq-eqb _ _ b.long, L.small_fine _ (b.small p)) (no (ltb p want))
    where
      no : (c : Bool) → (c && false) ≡ false
      no true = refl
      no false = refl

pub bits_clear : (l : List ℕ) (want : ℕ) → Clear (bits_row l want).bad (suc want) → Bits l want
bits_clear l want c = numbers_clear bit_family bit_lawful l want (λ k. tt) c

module _ (ls ws : List ℕ) where
  abbrev wrong_size : ℕ → Bool
  wrong_size p = not (eqb (get_or ls p 0) (get_or ws p 0))

  pub sizes_clear : (n : ℕ) → Clear wrong_size n → (p : ℕ) → p < n → get_or ls p 0 ≡ get_or ws p 0
  sizes_clear n c p h = eqb-true _ _ (not-false _ (c p h))

  pub clear_sizes : (n : ℕ) → ((p : ℕ) → p < n → get_or ls p 0 ≡ get_or ws p 0) → Clear wrong_size n
  clear_sizes n e p h = rw (eq-eqb _ _ (e p h))

pub is_true : (s t : Site) → is s t ≡ true → t ≡ s
is_true s t e = go t (seen s t) e
  where
    go : (t : Site) → Seen s t → is s t ≡ true → t ≡ s
    go t itself e = refl
    go t behind e = absurd (true≢false (sym e ∙ is_behind s))
    go t before e = absurd (true≢false (sym e ∙ is_before s))

module _ (F : Family) (s : Site) (C : Circuit) (x y : List ℕ) where
  abbrev pub differs_in : ℕ → Bool
  differs_in p =
      cond (ltb p C.ins) (is s (C.owner p) && not (eqb (get_or x p 0) (get_or y p 0)))
      (not (eqb (out_of F C x (p - C.ins)) (out_of F C y (p - C.ins))))

  pub keeps_clear : Clear differs_in (C.ins + C.outs) → Keeps F s C x y
  keeps_clear c = record {
    own = λ i h e.
        let q : (is s (C.owner i) && not (eqb (get_or x i 0) (get_or y i 0))) ≡ false = sym (rw (lt-ltb _ _ h)) ∙ c i (omega arith) in
        sym (eqb-true _ _ (not-false _ (and_left _ _ (ap (is s) e ∙ is_itself s) q)));
    opens = λ o h.
        let d : C.ins + o - C.ins ≡ o = omega arith in
        let q : not (eqb (out_of F C x (C.ins + o - C.ins)) (out_of F C y (C.ins + o - C.ins))) ≡ false =
        sym (rw (le-ltb (C.ins + o) C.ins (omega arith))) ∙ c (C.ins + o) (omega arith) in
        sym (eqb-true _ _ (not-false _ (sym (ap (λ (z : ℕ). not (eqb (out_of F C x z) (out_of F C y z))) d) ∙ q)));
  }

  pub clear_keeps : Keeps F s C x y → Clear differs_in (C.ins + C.outs)
  clear_keeps k p h = go (ltb p C.ins) refl
    where
      own : (b : Bool) → is s (C.owner p) ≡ b → p < C.ins → (b && not (eqb (get_or x p 0) (get_or y p 0))) ≡ false
      own true e l = rw (eq-eqb (get_or x p 0) (get_or y p 0) (sym (k.own p l (is_true s (C.owner p) e))))
      own false e l = refl

      go : (b : Bool) → ltb p C.ins ≡ b
          → cond b (is s (C.owner p) && not (eqb (get_or x p 0) (get_or y p 0))) (not (eqb (out_of F C x (p - C.ins)) (out_of F C y (p - C.ins)))) ≡ false
      go true e = own (is s (C.owner p)) refl (ltb-true _ _ e)
      go false e =
          let l : C.ins ≤ p = ltb-false _ _ e in
          rw (eq-eqb (out_of F C x (p - C.ins)) (out_of F C y (p - C.ins)) (sym (k.opens (p - C.ins) (omega arith))))

-- at bits
abbrev pub differs : Site → Circuit → List ℕ → List ℕ → ℕ → Bool
differs = differs_in bit_family
