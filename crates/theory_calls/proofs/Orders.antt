-- A call's checks in one order: how it is seen of a list that is written out, and that two calls of one order agree.
--     OneEach, Rising     each check gives one number; the places of these numbers in an order rise
--     in_one_order        so the checks stand as in that order
--     order_agrees        what two calls of one order both check, they check in the same order
-- Assumes nothing.
use mathlib.Core.Path.{◌≡◌, refl, sym, subst}
use mathlib.Core.Bool.{Bool, true, false}
use mathlib.Core.Logic.{◌↔◌, ⊎_elim}
use mathlib.Core.List.{List, [], ◌∷◌, map}
use Prim.Native.Nat.{ℕ, zero, suc, ◌<◌, ◌≤◌}
use native.Mathlib.Omega.{arith}
use native.Mathlib.Nat.{eq-or-lt_of_le}
use lib.ListN.{length}
use lib.Dec.{ltb}
use borrow.Author.Tests.{ltb-true, ltb-false}
use Rattle.theory_calls.specs.Checks.{Refusal, refusal}
use Rattle.theory_calls.specs.Refusal.{check, position, InOneOrder}

-- each check gives one number at all its places
abbrev single : Refusal → Refusal
single c = refusal (c.number 0) c.row

unfoldable pub OneEach : List Refusal → Type 0
OneEach cs = cs ≡ map single cs

single_one : (cs : List Refusal) (k P Q : ℕ) → (check (map single cs) k).number P ≡ (check (map single cs) k).number Q
single_one [] k P Q = refl
single_one (c ∷ cs) zero P Q = refl
single_one (c ∷ cs) (suc k) P Q = single_one cs k P Q

one_number : (cs : List Refusal) → OneEach cs → (k P Q : ℕ) → (check cs k).number P ≡ (check cs k).number Q
unfolding OneEach
one_number cs e k P Q = subst (λ (ds : List Refusal). (check ds k).number P ≡ (check ds k).number Q) (sym e) (single_one cs k P Q)

module _ (order : List ℕ) where
  abbrev at : Refusal → ℕ
  at c = position order (c.number 0)

  -- no check stands before lo, and each stands behind the one before it
  unfoldable pub Rising : ℕ → List Refusal → Type 0
  Rising lo [] = Unit {0}
  Rising lo (c ∷ cs) = (lo ≤ at c) × (at c < length order) × Rising (suc (at c)) cs

  rising_at : (lo : ℕ) (cs : List Refusal) → Rising lo cs → (k : ℕ) → k < length cs → (lo ≤ at (check cs k)) × (at (check cs k) < length order)
  unfolding Rising
  rising_at lo [] r k h = absurd (omega arith)
  rising_at lo (c ∷ cs) r zero h = (r.0, r.1)
  rising_at lo (c ∷ cs) r (suc k) h = let q = rising_at (suc (at c)) cs r.2 k (omega arith) in let p = r.0 in (omega arith, q.1)

  rising_two : (lo : ℕ) (cs : List Refusal) → Rising lo cs → (j k : ℕ) → j < k → k < length cs → at (check cs j) < at (check cs k)
  unfolding Rising
  rising_two lo [] r j k l h = absurd (omega arith)
  rising_two lo (c ∷ cs) r zero zero l h = absurd (omega arith)
  rising_two lo (c ∷ cs) r zero (suc k) l h = (rising_at (suc (at c)) cs r.2 k (omega arith)).0
  rising_two lo (c ∷ cs) r (suc j) zero l h = absurd (omega arith)
  rising_two lo (c ∷ cs) r (suc j) (suc k) l h = rising_two (suc (at c)) cs r.2 j k (omega arith) (omega arith)

  pub in_one_order : (cs : List Refusal) → OneEach cs → Rising 0 cs → InOneOrder order cs
  in_one_order cs e r = record {
    one = one_number cs e;
    stands = λ k P h. subst (λ (n : ℕ). position order n < length order) (one_number cs e k 0 P) (rising_at 0 cs r k h).1;
    rises = λ j k P Q l h.
        subst (λ (n : ℕ). position order ((check cs j).number P) < position order n) (one_number cs e k 0 Q)
        (subst (λ (n : ℕ). position order n < at (check cs k)) (one_number cs e j 0 P) (rising_two 0 cs r j k l h));
  }

  -- what comes first in the one comes first in the other
  first_there : (cs ds : List Refusal) → InOneOrder order cs → InOneOrder order ds → (j k j' k' : ℕ) → k < length cs → j' < length ds
      → (check cs j).number 0 ≡ (check ds j').number 0 → (check cs k).number 0 ≡ (check ds k').number 0 → j < k → j' < k'
  first_there cs ds oc od j k j' k' hk hj p q l = by_test (ltb j' k') refl
    where
      before : at (check ds j') < at (check ds k')
      before =
          subst (λ (n : ℕ). position order n < at (check ds k')) p
          (subst (λ (n : ℕ). position order ((check cs j).number 0) < position order n) q (oc.rises j k 0 0 l hk))

      -- neither itself
      same : k' ≡ j' → ⊥
      same e = let b = subst (λ (n : ℕ). at (check ds j') < at (check ds n)) e before in omega arith

      -- nor after it
      after : k' < j' → ⊥
      after h = let b = before in let c = od.rises k' j' 0 0 h hj in omega arith

      by_test : (b : Bool) → ltb j' k' ≡ b → j' < k'
      by_test true e = ltb-true j' k' e
      by_test false e = absurd (⊎_elim same after (eq-or-lt_of_le (ltb-false j' k' e)))

  pub order_agrees : (cs ds : List Refusal) → InOneOrder order cs → InOneOrder order ds → (j k j' k' : ℕ)
      → j < length cs → k < length cs → j' < length ds → k' < length ds
      → (check cs j).number 0 ≡ (check ds j').number 0 → (check cs k).number 0 ≡ (check ds k').number 0 → (j < k) ↔ (j' < k')
  order_agrees cs ds oc od j k j' k' hj hk hj' hk' p q =
      (first_there cs ds oc od j k j' k' hk hj' p q, first_there ds cs od oc j' k' j k hk' hj (sym p) (sym q))
