-- What the numbers that go out say, so that good, abort and refusal are never mistaken for each other. About every public call.
--     numbers_tell       the answer, from number, place and sites
--     answer_by, tells_by    a call's statement, from what its own function ensures: of the answer alone, and with the buffers
--     given_one          two structs that meet one equation are one: those of open, check, gate, owner, output, sizes and traffic
--     tells_one          with the lent buffers: those of plain values, run, view, re-taping and listing
-- Assumes nothing.
use mathlib.Core.Path.{◌≡◌, refl, sym, ap, ◌∙◌}
use mathlib.Core.List.{List}
use Prim.Native.Nat.{ℕ}
use native.Mathlib.Omega.{arith}
use Rattle.theory_calls.specs.Answer.{Answer as Said, good, abort, refused, After, number_of, place_of}
use Rattle.theory_calls.specs.Calls.{Call, does}
use Rattle.theory_demands.specs.Public.{Public}
use Rattle.theory_demands.proofs.PublicLaws.{refusal_numbers}
use Rattle.door_answers.specs.Told.{sites_of, TellsBy}

module _ (c : Call) (o : Public c) where
  abbrev a : Said
  a = (does c).answer

  abbrev Read : Said → Type 0
  Read z =
      (number_of z ≡ 0 → (vs : List ℕ) × (z ≡ good vs))
      × (number_of z ≡ 100 → z ≡ abort (place_of z) (sites_of z))
      × (¬ (number_of z ≡ 0) → ¬ (number_of z ≡ 100) → z ≡ refused (number_of z) (place_of z))

  -- 0 is good, 100 an abort with its output and its sites, and every other number is a refusal's, with its place
  pub numbers_tell : Read a
  unfolding number_of place_of sites_of
  numbers_tell = go a refl
    where
      go : (z : Said) → a ≡ z → Read z
      go (good vs) e = (λ _. (vs, refl), (λ h. absurd (omega (arith, h))), (λ h _. absurd (h refl)))
      go (abort i m) e = ((λ h. absurd (omega (arith, h))), (λ _. refl), (λ _ h. absurd (h refl)))
      go (refused n p) e = ((λ h. absurd (omega (arith, h, refusal_numbers c o n p e))), (λ h. absurd (omega (arith, h, refusal_numbers c o n p e))), (λ _ _. refl))

pub given_one : {A : Type 0} (x r s : A) → r ≡ x → s ≡ x → r ≡ s
given_one x r s h k = h ∙ sym k

-- the statement is an equation for the answer and one for the buffers, so two that meet it are one
pub tells_one : {A : Type 0} (f : Said → A) (c : Call) (r s : A) (l m : List (List ℕ)) → TellsBy f r l c → TellsBy f s m c → (r ≡ s) × (l ≡ m)
tells_one f c r s l m h k = (given_one _ r s h.0 k.0, given_one _ l m h.1 k.1)

-- the statement, from what the call's own function ensures
pub answer_by : {A : Type 0} (f : Said → A) (after then : After) (r : A) → r ≡ f after.answer → after ≡ then → r ≡ f then.answer
answer_by f after then r h e = h ∙ ap (λ (z : After). f z.answer) e

pub tells_by : {A : Type 0} (f : Said → A) (c : Call) (after : After) (r : A) → r ≡ f after.answer → after ≡ does c → TellsBy f r after.lent c
tells_by f c after r h e = (answer_by f after (does c) r h e, ap (λ (z : After). z.lent) e)
