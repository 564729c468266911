-- A group with a product, over the numbers, and what follows from its laws.
--     Laws           the numbers that stand for themselves (Ok), and the laws;  Group: operations with their laws
--     nine           all nine products of three parts by three occur once
--     deal_sum       a value shared and added up again
--     move           a value and its first draw move together, and the dealer's own part stays
--     third_part     the part that a site lacks is the value less its two
--     rest_inj       the draw behind a part that was seen is known
--     Closed         a set of numbers that no operation leaves (at bits: 0 and 1)
-- A product need not commute and has no one; only NOT adds the number 1. Ok is asked where a sum with 0, or a difference and a sum, must
-- give back the number they began with. Assumes nothing.
use mathlib.Core.Path.{◌≡◌, sym, ap, ◌∙◌}
use Prim.Native.Nat.{ℕ}
use Rattle.theory_sharing.specs.Ops.{Ops}

-- the laws of operations that are given
pub record Laws (R : Ops) : Type 1 where
  pub Ok : ℕ → Type 0
  pub ok_zero : Ok 0
  pub add_zero : (a : ℕ) → Ok a → R.add a 0 ≡ a
  pub ok_add : (a b : ℕ) → Ok (R.add a b)
  pub ok_sub : (a b : ℕ) → Ok (R.sub a b)
  pub add_assoc : (a b c : ℕ) → R.add (R.add a b) c ≡ R.add a (R.add b c)
  pub add_comm : (a b : ℕ) → R.add a b ≡ R.add b a
  pub mul_add : (a b c : ℕ) → R.mul a (R.add b c) ≡ R.add (R.mul a b) (R.mul a c)
  pub add_mul : (a b c : ℕ) → R.mul (R.add a b) c ≡ R.add (R.mul a c) (R.mul b c)
  pub sub_add : (a b : ℕ) → Ok a → R.add (R.sub a b) b ≡ a
  pub add_sub : (a b : ℕ) → Ok a → R.sub (R.add a b) b ≡ a

pub record Group : Type 1 where
  pub ops : Ops
  pub laws : Laws ops

module _ (G : Group) where
  open G use {ops as R}
  open G.laws use {Ok, ok_zero, ok_add, ok_sub, add_zero, add_assoc, add_comm, mul_add, add_mul, sub_add, add_sub}
  open R use {add, sub, mul}

  pub assoc : (a b c : ℕ) → add (add a b) c ≡ add a (add b c)
  assoc = add_assoc

  pub comm : (a b : ℕ) → add a b ≡ add b a
  comm = add_comm

  pub left_comm : (a b c : ℕ) → add a (add b c) ≡ add b (add a c)
  left_comm a b c = sym (add_assoc a b c) ∙ ap (λ (z : ℕ). add z c) (add_comm a b) ∙ add_assoc b a c

  pub ruleset sums = (assoc, left_comm, comm)

  pub turn : (a b c : ℕ) → add a (add b c) ≡ add b (add c a)
  turn a b c = left_comm a b c ∙ ap (λ (z : ℕ). add b z) (comm a c)

  -- the nine products
  pub nine : (x1 x2 x3 y1 y2 y3 : ℕ)
      → add (add (add (mul x1 y1) (mul x1 y2)) (mul x2 y1))
      (add (add (add (mul x2 y2) (mul x2 y3)) (mul x3 y2))
      (add (add (mul x3 y3) (mul x3 y1)) (mul x1 y3)))
      ≡ mul (add x1 (add x2 x3)) (add y1 (add y2 y3))
  nine x1 x2 x3 y1 y2 y3 = simp (mul_add, add_mul, sums)

  -- the sum of a deal's parts is the value
  pub deal_sum : (v a b : ℕ) → Ok v → add (sub (sub v a) b) (add a b) ≡ v
  deal_sum v a b h =
      ap (λ (z : ℕ). add (sub (sub v a) b) z) (add_comm a b) ∙ sym (add_assoc (sub (sub v a) b) b a)
      ∙ ap (λ (z : ℕ). add z a) (sub_add (sub v a) b (ok_sub v a)) ∙ sub_add v a h

  -- what is left of a sum when a summand goes
  pub cancel : (a b c : ℕ) → Ok a → Ok b → add a c ≡ add b c → a ≡ b
  cancel a b c ha hb h = sym (add_sub a c ha) ∙ ap (λ (z : ℕ). sub z c) h ∙ add_sub b c hb

  -- a value and a draw move together, and the rest stays
  pub move : (v v' a : ℕ) → Ok v → Ok v' → sub v' (add a (sub v' v)) ≡ sub v a
  move v v' a h h' =
      cancel _ _ (add a (sub v' v)) (ok_sub _ _) (ok_sub _ _)
      (sub_add v' (add a (sub v' v)) h'
      ∙ sym (sym (assoc (sub v a) a (sub v' v)) ∙ ap (λ (z : ℕ). add z (sub v' v)) (sub_add v a h) ∙ comm v (sub v' v) ∙ sub_add v' v h'))

  -- the last part is the sum less the other two
  pub third_part : (p q t : ℕ) → Ok t → sub (sub (add p (add q t)) p) q ≡ t
  third_part p q t h =
      ap (λ (z : ℕ). sub (sub z p) q) (left_comm p q t ∙ ap (λ (z : ℕ). add q z) (comm p t) ∙ sym (assoc q t p))
      ∙ ap (λ (z : ℕ). sub z q) (add_sub (add q t) p (ok_add _ _) ∙ comm q t) ∙ add_sub t q h

  -- a draw is known from what is left
  pub rest_inj : (v a a' b : ℕ) → Ok v → Ok a → Ok a' → sub (sub v a) b ≡ sub (sub v a') b → a ≡ a'
  rest_inj v a a' b hv ha ha' e =
      cancel a a' (sub v a) ha ha'
      (comm a (sub v a) ∙ sub_add v a hv ∙ sym (sub_add v a' hv) ∙ comm (sub v a') a' ∙ ap (λ (z : ℕ). add a' z) (sym same))
    where
      same : sub v a ≡ sub v a'
      same = sym (sub_add (sub v a) b (ok_sub _ _)) ∙ ap (λ (z : ℕ). add z b) e ∙ sub_add (sub v a') b (ok_sub _ _)

-- a set of numbers that holds 0 and 1 and that no operation leaves
pub record Closed (R : Ops) (In : ℕ → Type 0) : Type 0 where
  pub in_zero : In 0
  pub in_one : In 1
  pub in_add : (a b : ℕ) → In a → In b → In (R.add a b)
  pub in_sub : (a b : ℕ) → In a → In b → In (R.sub a b)
  pub in_mul : (a b : ℕ) → In a → In b → In (R.mul a b)
