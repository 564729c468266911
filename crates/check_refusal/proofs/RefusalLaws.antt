-- A refusal is known by its number and its place.
--     refusal_one     two refusals with one number and one place are one
--     answer_one      two refusals that are one answer are one
-- Assumes nothing.
use mathlib.Core.Path.{◌≡◌, refl, sym, ap, ◌∙◌}
use Prim.Native.Nat.{ℕ}
use Rattle.theory_calls.specs.Answer.{Answer, good, abort, refused, number_of as number_in, place_of as place_in}
use Rattle.check_refusal.specs.declared.Refusal.{Refusal}
use Rattle.check_refusal.specs.declared.Refusal.TheVariants.{Short, Limit, Header, Owner, Gate, Output, Inputs, Tapes, Line, Buffer, Site, Second, Differs, Job, TextLine, GateWord, TextWire}
use Rattle.check_refusal.specs.Number.{number_of, place_of, refused_by, refusal_with}

back : (e : Refusal) → refusal_with (number_of e) (place_of e) ≡ e
back Short = refl
back (Limit p) = refl
back (Header p) = refl
back (Owner p) = refl
back (Gate p) = refl
back (Output p) = refl
back (Inputs p) = refl
back (Tapes p) = refl
back (Line p) = refl
back (Buffer p) = refl
back Site = refl
back (Second p) = refl
back (Differs p) = refl
back (Job p) = refl
back (TextLine p) = refl
back (GateWord p) = refl
back (TextWire p) = refl

pub refusal_one : (e d : Refusal) → number_of e ≡ number_of d → place_of e ≡ place_of d → e ≡ d
refusal_one e d n p = sym (back e) ∙ (λ i. refusal_with (n i) (p i)) ∙ back d

pub answer_one : (e d : Refusal) → refused_by e ≡ refused_by d → e ≡ d
unfolding number_in place_in
answer_one e d q = refusal_one e d (ap number_in q) (ap place_in q)
