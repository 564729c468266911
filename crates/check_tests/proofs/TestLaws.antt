-- The tests of a gate's numbers, as the code meets them.
--     kind_test         the test of a gate's numbers
--     even_kind         of the four kinds those that deal are the even ones
-- Assumes nothing.
use mathlib.Core.Path.{◌≡◌, refl, sym, ap, ◌∙◌}
use mathlib.Core.Bool.{Bool, true, false, not, cond, ◌&&◌}
use Prim.Native.Nat.{ℕ, zero, suc, ◌-◌, ◌≤◌}
use native.Mathlib.Omega.{arith}
use lib.Dec.{leb, ltb, eqb}
use lib.Bits.{bit_and}
use borrow.Author.Tests.{le-ltb, ne_eqb}
use Rattle.theory_calls.specs.Checks.{good_gate}
use Rattle.check_tests.specs.Mirror.{bad_kind, deals}

grouped : (x y z : Bool) → ((x && y) && z) ≡ (x && y && z)
grouped true y z = refl
grouped false y z = refl

-- below 1 is 0
below_one : (b : ℕ) → ltb b 1 ≡ eqb b 0
below_one zero = refl
below_one (suc n) = le-ltb (suc n) 1 (omega arith) ∙ sym (ne_eqb (suc n) 0 (λ e. omega arith))

-- what the second number must be below, as one limit
one_limit : (c : Bool) (b w : ℕ) → ltb b (cond c 1 w) ≡ cond c (eqb b 0) (ltb b w)
one_limit true b w = below_one b
one_limit false b w = refl

pub kind_test : (kind a b w limit : ℕ) → limit ≡ cond (eqb kind 3) 1 w → not (((leb 1 kind && leb kind 4) && ltb a w) && ltb b limit) ≡ bad_kind kind a b w
unfolding bad_kind good_gate
kind_test kind a b w limit e = ap not (grouped (leb 1 kind && leb kind 4) (ltb a w) (ltb b limit) ∙ ap (λ (z : Bool). (leb 1 kind && leb kind 4) && ltb a w && z) (ap (ltb b) e ∙ one_limit (eqb kind 3) b w))

pub even_kind : (kind : ℕ) → kind ≤ 4 → 1 - bit_and kind 1 ≡ deals kind
unfolding deals
even_kind zero h = refl
even_kind (suc zero) h = refl
even_kind (suc (suc zero)) h = refl
even_kind (suc (suc (suc zero))) h = refl
even_kind (suc (suc (suc (suc zero)))) h = refl
even_kind (suc (suc (suc (suc (suc n))))) h = absurd (omega arith)
