-- Bits are a group with a product: xor and and, on all numbers, so that no law asks for a bound.
--     bit_laws, bit_group     the laws
--     bit_closed    0 and 1 stay 0 and 1
-- Assumes nothing.
use mathlib.Core.Path.{◌≡◌, refl, sym, ap, ap₂, ◌∙◌}
use Prim.Native.Nat.{ℕ, zero, suc, ◌+◌, ◌*◌, ◌/◌, ◌%◌, ◌<◌, min}
use native.Mathlib.Nat.{mod-lt, zero-lt-suc}
use lib.Arith.{bin_ind, digits_mod}
use lib.Bits.{bit_xor, bit_and, differ, xor_step, and_step, xor_comm, and_comm, xor_self, xor_zero_r, xor_shr, and_shr, xor_lt, and_lt}
use native.Mathlib.Omega.{arith}
use Rattle.theory_sharing.specs.Ops.{bits}
use Rattle.theory_sharing.proofs.Group.{Group, Laws, Closed}

-- a fact of 0 and of 1 is a fact of each digit
digit : (P : ℕ → Type 0) → P 0 → P 1 → (a : ℕ) → P (a % 2)
digit P p0 p1 a = go (a % 2) (mod-lt a (zero-lt-suc 1))
  where
    go : (n : ℕ) → n < 2 → P n
    go zero h = p0
    go (suc zero) h = p1
    go (suc (suc n)) h = absurd (omega arith)

differ_lt : (a b : ℕ) → differ (a % 2) (b % 2) < 2
differ_lt a b = digit (λ x. differ x (b % 2) < 2) (mod-lt b (zero-lt-suc 1)) (digit (λ y. differ 1 y < 2) (omega arith) (omega arith) b) a

min_lt : (a b : ℕ) → min (a % 2) (b % 2) < 2
min_lt a b = let h : a % 2 < 2 = mod-lt a (zero-lt-suc 1) in omega arith

xor_half : (a b : ℕ) → bit_xor a b / 2 ≡ bit_xor (a / 2) (b / 2)
xor_half a b = xor_shr a b 1

xor_low : (a b : ℕ) → bit_xor a b % 2 ≡ differ (a % 2) (b % 2)
xor_low a b = ap (λ (n : ℕ). n % 2) (xor_step a b) ∙ digits_mod (bit_xor (a / 2) (b / 2)) (differ_lt a b)

and_half : (a b : ℕ) → bit_and a b / 2 ≡ bit_and (a / 2) (b / 2)
and_half a b = and_shr a b 1

and_low : (a b : ℕ) → bit_and a b % 2 ≡ min (a % 2) (b % 2)
and_low a b = ap (λ (n : ℕ). n % 2) (and_step a b) ∙ digits_mod (bit_and (a / 2) (b / 2)) (min_lt a b)

join : {r r' c c' : ℕ} → r ≡ r' → c ≡ c' → r * 2 + c ≡ r' * 2 + c'
join p q = ap₂ (λ (x y : ℕ). x * 2 + y) p q

differ_assoc : (a b c : ℕ) → differ (differ (a % 2) (b % 2)) (c % 2) ≡ differ (a % 2) (differ (b % 2) (c % 2))
differ_assoc a b c =
    digit (λ x. differ (differ x (b % 2)) (c % 2) ≡ differ x (differ (b % 2) (c % 2))) refl
    (digit (λ y. differ (differ 1 y) (c % 2) ≡ differ 1 (differ y (c % 2)))
    refl (digit (λ z. differ (differ 1 1) z ≡ differ 1 (differ 1 z)) refl refl c) b) a

min_differ : (a b c : ℕ) → min (a % 2) (differ (b % 2) (c % 2)) ≡ differ (min (a % 2) (b % 2)) (min (a % 2) (c % 2))
min_differ a b c =
    digit (λ x. min x (differ (b % 2) (c % 2)) ≡ differ (min x (b % 2)) (min x (c % 2)))
    (digit (λ y. min 0 (differ y (c % 2)) ≡ differ (min 0 y) (min 0 (c % 2)))
    (digit (λ z. min 0 (differ 0 z) ≡ differ (min 0 0) (min 0 z)) refl refl c)
    (digit (λ z. min 0 (differ 1 z) ≡ differ (min 0 1) (min 0 z)) refl refl c) b)
    (digit (λ y. min 1 (differ y (c % 2)) ≡ differ (min 1 y) (min 1 (c % 2)))
    (digit (λ z. min 1 (differ 0 z) ≡ differ (min 1 0) (min 1 z)) refl refl c)
    (digit (λ z. min 1 (differ 1 z) ≡ differ (min 1 1) (min 1 z)) refl refl c) b) a

pub xor_assoc : (a b c : ℕ) → bit_xor (bit_xor a b) c ≡ bit_xor a (bit_xor b c)
xor_assoc a =
    bin_ind (λ (n : ℕ). (b c : ℕ) → bit_xor (bit_xor n b) c ≡ bit_xor n (bit_xor b c)) (λ b c. refl)
    (λ n ih b c.
    xor_step (bit_xor n b) c
    ∙ join (ap (λ (z : ℕ). bit_xor z (c / 2)) (xor_half n b) ∙ ih (b / 2) (c / 2) ∙ ap (λ (z : ℕ). bit_xor (n / 2) z) (sym (xor_half b c)))
    (ap (λ (z : ℕ). differ z (c % 2)) (xor_low n b) ∙ differ_assoc n b c ∙ ap (λ (z : ℕ). differ (n % 2) z) (sym (xor_low b c)))
    ∙ sym (xor_step n (bit_xor b c))) a

pub and_xor : (a b c : ℕ) → bit_and a (bit_xor b c) ≡ bit_xor (bit_and a b) (bit_and a c)
and_xor a =
    bin_ind (λ (n : ℕ). (b c : ℕ) → bit_and n (bit_xor b c) ≡ bit_xor (bit_and n b) (bit_and n c)) (λ b c. refl)
    (λ n ih b c.
    and_step n (bit_xor b c)
    ∙ join (ap (λ (z : ℕ). bit_and (n / 2) z) (xor_half b c) ∙ ih (b / 2) (c / 2) ∙ ap₂ bit_xor (sym (and_half n b)) (sym (and_half n c)))
    (ap (λ (z : ℕ). min (n % 2) z) (xor_low b c) ∙ min_differ n b c ∙ ap₂ differ (sym (and_low n b)) (sym (and_low n c)))
    ∙ sym (xor_step (bit_and n b) (bit_and n c))) a

pub xor_and : (a b c : ℕ) → bit_and (bit_xor a b) c ≡ bit_xor (bit_and a c) (bit_and b c)
xor_and a b c = and_comm (bit_xor a b) c ∙ and_xor c a b ∙ ap₂ bit_xor (and_comm c a) (and_comm c b)

pub xor_twice : (a b : ℕ) → bit_xor (bit_xor a b) b ≡ a
xor_twice a b = xor_assoc a b b ∙ ap (λ (z : ℕ). bit_xor a z) (xor_self b) ∙ xor_zero_r a

abbrev pub bit_laws : Laws bits
bit_laws = record {
  Ok = λ _. Unit {0};
  ok_zero = tt;
  add_zero = λ a h. xor_zero_r a;
  ok_add = λ a b. tt;
  ok_sub = λ a b. tt;
  add_assoc = xor_assoc;
  add_comm = xor_comm;
  mul_add = and_xor;
  add_mul = xor_and;
  sub_add = λ a b h. xor_twice a b;
  add_sub = λ a b h. xor_twice a b;
}

abbrev pub bit_group : Group
bit_group = record { ops = bits; laws = bit_laws }

abbrev pub bit_closed : Closed bits (λ a. a < 2)
bit_closed = record {
  in_zero = omega arith;
  in_one = omega arith;
  in_add = λ a b. xor_lt 1 a b;
  in_sub = λ a b. xor_lt 1 a b;
  in_mul = λ a b. and_lt 1 a b;
}
