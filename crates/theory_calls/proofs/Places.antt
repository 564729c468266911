-- Rows with few places: the verdict goes by their tests, one after the other.
--     Rising            the places of a list rise, and lie below a span
--     refuse_at         the first test that holds refuses, else what comes after
--     place_verdict     a row of such places in a verdict;  place_fault: by itself
-- Assumes nothing.
use mathlib.Core.Path.{◌≡◌, refl, ap, ◌∙◌, fun_ext}
use mathlib.Core.Bool.{Bool, true, false, cond, ◌&&◌}
use mathlib.Core.List.{List, [], ◌∷◌}
use Prim.Native.Nat.{ℕ, suc, ◌<◌, ◌≤◌}
use native.Mathlib.Omega.{arith}
use lib.Dec.{ltb, eqb}
use borrow.Author.Tests.{lt-ltb, le-ltb, eq-eqb, ne_eqb}
use Rattle.theory_sharing.specs.First.{first}
use Rattle.theory_sharing.proofs.FirstLaws.{first_at, first_none}
use Rattle.theory_calls.specs.Checks.{tested, at_places, Refusal, refusal, fault, Verdict, refuses, verdict}

unfoldable pub Rising : ℕ → List (ℕ × Bool) → ℕ → Type 0
Rising lo [] n = Unit {0}
Rising lo (t ∷ ts) n = (lo ≤ t.0) × (t.0 < n) × Rising (suc t.0) ts n

unfoldable pub refuse_at : ℕ → List (ℕ × Bool) → Verdict → Verdict
refuse_at N [] v = v
refuse_at N (t ∷ ts) v = cond t.1 (refuses N t.0) (refuse_at N ts v)

-- the first place whose test holds, or n
unfoldable pub scan : List (ℕ × Bool) → ℕ → ℕ
scan [] n = n
scan (t ∷ ts) n = cond t.1 t.0 (scan ts n)

and_false : (a b : Bool) → b ≡ false → (a && b) ≡ false
and_false true b e = e
and_false false b e = refl

-- nothing is tested below the first place
tested_below : (ts : List (ℕ × Bool)) (lo n p : ℕ) → Rising lo ts n → p < lo → tested ts p ≡ false
unfolding Rising tested
tested_below [] lo n p r h = refl
tested_below (t ∷ ts) lo n p r h =
    let a = r.0 in
    rw (ne_eqb p t.0 (λ e. omega arith)) (tested_below ts (suc t.0) n p r.2 (omega arith))

first_tested : (ts : List (ℕ × Bool)) (lo n : ℕ) → Rising lo ts n → first (tested ts) n ≡ scan ts n
unfolding Rising tested scan
first_tested [] lo n r = first_none (tested []) n (λ k h. refl)
first_tested (t ∷ ts) lo n r = go t.1 refl (first_tested ts (suc t.0) n r.2)
  where
    hit : t.1 ≡ true → first (tested (t ∷ ts)) n ≡ t.0
    hit e =
        first_at (tested (t ∷ ts)) t.0 n
        (λ p h. rw (ne_eqb p t.0 (λ q. omega arith)) (tested_below ts (suc t.0) n p r.2 (omega arith)))
        r.1 (rw (eq-eqb t.0 t.0 refl, e))

    miss : t.1 ≡ false → (p : ℕ) → tested (t ∷ ts) p ≡ tested ts p
    miss e p = rw (and_false (eqb p t.0) t.1 e)

    go : (b : Bool) → t.1 ≡ b → first (tested ts) n ≡ scan ts n → first (tested (t ∷ ts)) n ≡ cond b t.0 (scan ts n)
    go true e ih = hit e
    go false e ih = ap (λ (p : ℕ → Bool). first p n) (fun_ext (miss e)) ∙ ih

scan_verdict : (N : ℕ) (ts : List (ℕ × Bool)) (lo n : ℕ) (v : Verdict) → Rising lo ts n → cond (ltb (scan ts n) n) (refuses N (scan ts n)) v ≡ refuse_at N ts v
unfolding Rising scan refuse_at
scan_verdict N [] lo n v r = rw (le-ltb n n (omega arith))
scan_verdict N (t ∷ ts) lo n v r = go t.1 (scan_verdict N ts (suc t.0) n v r.2)
  where
    go : (b : Bool) → cond (ltb (scan ts n) n) (refuses N (scan ts n)) v ≡ refuse_at N ts v
        → cond (ltb (cond b t.0 (scan ts n)) n) (refuses N (cond b t.0 (scan ts n))) v ≡ cond b (refuses N t.0) (refuse_at N ts v)
    go true ih = rw (lt-ltb t.0 n r.1)
    go false ih = ih

pub place_verdict : (N n : ℕ) (ts : List (ℕ × Bool)) (cs : List Refusal) → Rising 0 ts n → verdict (refusal N (at_places n ts) ∷ cs) ≡ refuse_at N ts (verdict cs)
unfolding verdict fault
place_verdict N n ts cs r = rw (first_tested ts 0 n r) (scan_verdict N ts 0 n (verdict cs) r)

-- the fault of such a row by itself
pub place_fault : (n : ℕ) (ts : List (ℕ × Bool)) → Rising 0 ts n → fault (at_places n ts) ≡ scan ts n
unfolding fault
place_fault n ts r = first_tested ts 0 n r
