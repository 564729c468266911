-- Whole numbers modulo m are a group with a product.
--     modulo_laws      the laws: a number below m stands for itself
--     modulo_closed    what is below m stays below m
-- Assumes nothing.
use mathlib.Core.Path.{◌≡◌, sym, ap, ap₂, ◌∙◌}
use Prim.Native.Nat.{ℕ, ◌+◌, ◌-◌, ◌*◌, ◌/◌, ◌%◌, ◌<◌}
use native.Mathlib.Nat.{mod-lt, mod-add-mod, add-mod-mod, add-mod, add-mod_right, mod-eq_of_lt, add_assoc, add_comm, mul_comm, mul-add, add-sub_of_le, le_of_lt, add-mul-mod_self_right, div-add-mod', mul_assoc, sub-add_cancel}
use native.Mathlib.Nat
use Rattle.theory_sharing.proofs.Group.{Laws, Closed}
use Rattle.theory_modulo.specs.Modulo.{addm, subm, mulm, modulo}

module _ (m : ℕ) where
  pub addm_assoc : (a b c : ℕ) → addm m (addm m a b) c ≡ addm m a (addm m b c)
  unfolding addm
  addm_assoc a b c = mod-add-mod (a + b) m c ∙ ap (λ (z : ℕ). z % m) (add_assoc a b c) ∙ sym (add-mod-mod a (b + c) m)

  pub addm_comm : (a b : ℕ) → addm m a b ≡ addm m b a
  unfolding addm
  addm_comm a b = ap (λ (z : ℕ). z % m) (add_comm a b)

  -- a factor's multiple of m goes
  mul_mod_l : (a b : ℕ) → a * (b % m) % m ≡ a * b % m
  mul_mod_l a b =
      sym (add-mul-mod_self_right (a * (b % m)) (a * (b / m)) m)
      ∙ ap (λ (z : ℕ). z % m) (ap (λ (z : ℕ). a * (b % m) + z) (mul_assoc a (b / m) m) ∙ sym (mul-add a (b % m) (b / m * m))
      ∙ ap (λ (z : ℕ). a * z) (add_comm (b % m) (b / m * m) ∙ div-add-mod' b m))

  pub mulm_add : (a b c : ℕ) → mulm m a (addm m b c) ≡ addm m (mulm m a b) (mulm m a c)
  unfolding addm mulm
  mulm_add a b c = mul_mod_l a (b + c) ∙ ap (λ (z : ℕ). z % m) (mul-add a b c) ∙ add-mod (a * b) (a * c) m

  mulm_comm : (a b : ℕ) → mulm m a b ≡ mulm m b a
  unfolding mulm
  mulm_comm a b = ap (λ (z : ℕ). z % m) (mul_comm a b)

  pub addm_mul : (a b c : ℕ) → mulm m (addm m a b) c ≡ addm m (mulm m a c) (mulm m b c)
  addm_mul a b c = mulm_comm (addm m a b) c ∙ mulm_add c a b ∙ ap₂ (addm m) (mulm_comm c a) (mulm_comm c b)

  module _ (pos : 0 < m) where
    pub subm_add : (a b : ℕ) → a < m → addm m (subm m a b) b ≡ a
    unfolding addm subm
    subm_add a b h =
        mod-add-mod (a + (m - b % m)) m b ∙ sym (add-mod-mod (a + (m - b % m)) b m)
        ∙ ap (λ (z : ℕ). z % m) (add_assoc a (m - b % m) (b % m) ∙ ap (λ (z : ℕ). a + z) (sub-add_cancel (le_of_lt (mod-lt b pos))))
        ∙ add-mod_right a m ∙ mod-eq_of_lt h

    pub addm_sub : (a b : ℕ) → a < m → subm m (addm m a b) b ≡ a
    unfolding addm subm
    addm_sub a b h =
        mod-add-mod (a + b) m (m - b % m)
        ∙ ap (λ (z : ℕ). z % m) (add_assoc a b (m - b % m)) ∙ sym (add-mod-mod a (b + (m - b % m)) m)
        ∙ ap (λ (z : ℕ). (a + z) % m) (sym (mod-add-mod b m (m - b % m)) ∙ ap (λ (z : ℕ). z % m) (add-sub_of_le (le_of_lt (mod-lt b pos))))
        ∙ add-mod-mod a m m ∙ add-mod_right a m ∙ mod-eq_of_lt h

    pub addm_zero : (a : ℕ) → a < m → addm m a 0 ≡ a
    unfolding addm
    addm_zero a h = ap (λ (z : ℕ). z % m) (Nat.add-zero a) ∙ mod-eq_of_lt h

    pub addm_lt : (a b : ℕ) → addm m a b < m
    unfolding addm
    addm_lt a b = mod-lt (a + b) pos

    pub subm_lt : (a b : ℕ) → subm m a b < m
    unfolding subm
    subm_lt a b = mod-lt (a + (m - b % m)) pos

    pub mulm_lt : (a b : ℕ) → mulm m a b < m
    unfolding mulm
    mulm_lt a b = mod-lt (a * b) pos

    abbrev pub modulo_laws : Laws (modulo m)
    modulo_laws = record {
      Ok = λ n. n < m;
      ok_zero = pos;
      add_zero = addm_zero;
      ok_add = addm_lt;
      ok_sub = subm_lt;
      add_assoc = addm_assoc;
      add_comm = addm_comm;
      mul_add = mulm_add;
      add_mul = addm_mul;
      sub_add = subm_add;
      add_sub = addm_sub;
    }

    abbrev pub modulo_closed : 1 < m → Closed (modulo m) (λ n. n < m)
    modulo_closed one = record {
      in_zero = pos;
      in_one = one;
      in_add = λ a b h k. addm_lt a b;
      in_sub = λ a b h k. subm_lt a b;
      in_mul = λ a b h k. mulm_lt a b;
    }
