-- Numbers modulo m, for any m above 1, are a family with the laws.
--     value_inputs_many, values_many    one value a wire
--     modulo_lawful                     the laws
-- Assumes nothing.
use mathlib.Core.Path.{◌≡◌, refl, ◌∙◌}
use Prim.Native.Nat.{ℕ, zero, suc, ◌+◌, ◌<◌}
use native.Mathlib.Omega.{arith}
use lib.ListN.{length, get_or, length-append}
use Rattle.theory_sharing.specs.Ops.{Ops}
use Rattle.theory_sharing.specs.Circuit.{Circuit}
use Rattle.theory_sharing.specs.Values.{value_inputs, values}
use Rattle.theory_calls.proofs.FamilyLaws.{Lawful}
use Rattle.theory_modulo.specs.Modulo.{modulo, modulo_family}
use Rattle.theory_modulo.proofs.GroupLaws.{modulo_laws, modulo_closed}

module _ (R : Ops) where
  pub value_inputs_many : (x : ℕ → ℕ) (i : ℕ) → length (value_inputs R x i) ≡ i
  unfolding value_inputs
  value_inputs_many x zero = refl
  value_inputs_many x (suc i) = length-append (value_inputs R x i) _ ∙ (let k = value_inputs_many x i in omega arith)

  pub values_many : (C : Circuit) (x : ℕ → ℕ) (g : ℕ) → length (values R C x g) ≡ C.ins + g
  unfolding values
  values_many C x zero = let k = value_inputs_many x C.ins in omega arith
  values_many C x (suc g) = length-append (values R C x g) _ ∙ (let k = values_many C x g in omega arith)

abbrev pub modulo_lawful : (m : ℕ) → 1 < m → Lawful (modulo_family m)
modulo_lawful m h = record {
  laws = modulo_laws m (omega arith);
  closed = modulo_closed m (omega arith) h;
  small_ok = λ n k. k;
  fine_small = λ n k e. k;
  small_fine = λ n k. refl;
  small_fits = λ n k. k;
  values_are = λ C xs k. refl;
  values_many = λ C xs. values_many (modulo m) C (λ k. get_or xs k 0) C.gates;
}
