-- The questions to a file as calls.
--     gate_in, owner_in, output_in    a question to a file whose header is good, as the code meets it
--     gate_inj, owner_inj, output_inj    an answer can be told from what it stands for
--     gate_one, owner_one, output_one    two answers to a question to a file are equal
-- Assumes nothing.
use mathlib.Core.Path.{◌≡◌, refl, sym, ap, ◌∙◌}
use mathlib.Core.List.{List, [], ◌∷◌}
use Prim.Native.Nat.{ℕ}
use Rattle.std.specs.Prelude.{Result, Ok, Err}
use Rattle.theory_calls.specs.Answer.{good}
use Rattle.theory_calls.specs.Calls.{GateAt, OwnerAt, OutputAt, answers, does}
use Rattle.check_refusal.specs.declared.Refusal.{Refusal}
use Rattle.file_header.specs.declared.Counts.{Counts}
use Rattle.file_header.specs.Mirror.{header_of}
use Rattle.file_header.specs.Opened.{Opened}
use Rattle.file_header.proofs.OpenLaws.{told, told_one, one_answer}
use Rattle.file_parts.specs.declared.Gate.{Gate}
use Rattle.file_parts.specs.Answers.{gate_answer, owner_answer, output_answer}
use Rattle.file_parts.specs.Mirror.{gate_by, owner_by, output_by}
use Rattle.file_parts.proofs.ReaderLaws.{gate_law, owner_law, output_law}

-- a question to a file whose header is good
module _ (s : List ℕ) (c : Counts) (k : ℕ) (e : Ok c ≡ header_of s) (o : Opened s c) where
  pub gate_in : (r : Result Gate Refusal) → r ≡ gate_by s c k → answers (gate_answer r) ≡ does (GateAt s k)
  gate_in r a = ap (λ (z : Result Gate Refusal). answers (gate_answer z)) a ∙ gate_law s c k o (sym e)

  pub owner_in : (r : Result ℕ Refusal) → r ≡ owner_by s c k → answers (owner_answer r) ≡ does (OwnerAt s k)
  owner_in r a = ap (λ (z : Result ℕ Refusal). answers (owner_answer z)) a ∙ owner_law s c k o (sym e)

  pub output_in : (r : Result ℕ Refusal) → r ≡ output_by s c k → answers (output_answer r) ≡ does (OutputAt s k)
  output_in r a = ap (λ (z : Result ℕ Refusal). answers (output_answer z)) a ∙ output_law s c k o (sym e)

-- an answer's case and numbers can be told from what it stands for
gate_told : (g h : Gate) → good (g.kind ∷ g.first ∷ g.second ∷ []) ≡ good (h.kind ∷ h.first ∷ h.second ∷ []) → g ≡ h
gate_told g h e =
    let a : g.kind ≡ h.kind = cc in
    let b : g.first ≡ h.first = cc in
    let d : g.second ≡ h.second = cc in
    λ i. record { kind = a i; first = b i; second = d i }

number_told : (o w : ℕ) → good (o ∷ []) ≡ good (w ∷ []) → o ≡ w
number_told o w e = cc

as_gate : (r : Result Gate Refusal) → gate_answer r ≡ told (λ g. g.kind ∷ g.first ∷ g.second ∷ []) gate_told r
unfolding gate_answer
as_gate (Ok g) = refl
as_gate (Err e) = refl

as_owner : (r : Result ℕ Refusal) → owner_answer r ≡ told (λ o. o ∷ []) number_told r
unfolding owner_answer
as_owner (Ok o) = refl
as_owner (Err e) = refl

as_output : (r : Result ℕ Refusal) → output_answer r ≡ told (λ w. w ∷ []) number_told r
unfolding output_answer
as_output (Ok w) = refl
as_output (Err e) = refl

pub gate_inj : (q r : Result Gate Refusal) → gate_answer q ≡ gate_answer r → q ≡ r
gate_inj q r e = told_one _ gate_told q r (sym (as_gate q) ∙ e ∙ as_gate r)

pub owner_inj : (q r : Result ℕ Refusal) → owner_answer q ≡ owner_answer r → q ≡ r
owner_inj q r e = told_one _ number_told q r (sym (as_owner q) ∙ e ∙ as_owner r)

pub output_inj : (q r : Result ℕ Refusal) → output_answer q ≡ output_answer r → q ≡ r
output_inj q r e = told_one _ number_told q r (sym (as_output q) ∙ e ∙ as_output r)

-- two answers that meet the statement are equal
pub gate_one : (s : List ℕ) (k : ℕ) (q r : Result Gate Refusal) → answers (gate_answer q) ≡ does (GateAt s k) → answers (gate_answer r) ≡ does (GateAt s k) → q ≡ r
gate_one s k = one_answer gate_answer gate_inj (does (GateAt s k))

pub owner_one : (s : List ℕ) (k : ℕ) (q r : Result ℕ Refusal) → answers (owner_answer q) ≡ does (OwnerAt s k) → answers (owner_answer r) ≡ does (OwnerAt s k) → q ≡ r
owner_one s k = one_answer owner_answer owner_inj (does (OwnerAt s k))

pub output_one : (s : List ℕ) (k : ℕ) (q r : Result ℕ Refusal) → answers (output_answer q) ≡ does (OutputAt s k) → answers (output_answer r) ≡ does (OutputAt s k) → q ≡ r
output_one s k = one_answer output_answer output_inj (does (OutputAt s k))
