-- An engine as the promise of a public function sees it: from all that it is given to all that it leaves.
--     Lent                   the three buffers that are lent to a run
--     Engine                 a run: from what it is given to its answer and the buffers afterwards
--     Meets                  the promise of `run` (crates/run/src/lib.rt), its one `ensures`
--     MeetsOn                an engine meets it on what it is given
--     OnK, OnK1              on K's circuit and a clean line; on K1
--     NumberEngine           a run that answers by 01's numbers: it refuses with any number and any place
--     in_numbers             an engine, its answer in numbers
--     NumberMeets, NumberMeetsOn, NumberOnK1    the same promise of an answer in numbers
--     Long                   lent buffers of the lengths that K's circuit wants, whatever they hold
--     K1_outputs, K1_transcript    what 01's K1 gives; its store is K-store
--     other_tapes            other tapes for K's circuit
--     TableEngine, TableMeets, TableMeetsOn    the same for a traffic call: the three promises of `traffic_of` (crates/traffic/src/lib.rt)
-- That these are the promises which the checker reads in the code is proofs/Promise.antt. That there is a result which meets them is what
-- the proofs of the two functions say, and run-one and traffic-one that there is no second. An engine meets the promise exactly where it meets it
-- in numbers: meets_in_numbers of proofs/Promise.antt.
use Rattle.std.specs.Prelude.{◌≡◌, List, [], ◌∷◌, ℕ, length, Result}
use Rattle.theory_calls.specs.Answer.{Answer, number_of, place_of}
use Rattle.theory_calls.specs.Calls.{Run, Traffic, does}
use Rattle.check_refusal.specs.declared.Refusal.{Refusal}
use Rattle.run.specs.declared.Ran.{Ran}
use Rattle.run.specs.Answers.{run_answer, run_after}
use Rattle.theory_demands.specs.Marked.{K_file, K_tapes, K_line}

-- 01: "Buffers: run 0 outputs, 1 transcript, 2 store"
pub record Lent : Type 0 where
  pub outputs : List ℕ
  pub transcript : List ℕ
  pub store : List ℕ

abbrev pub Engine : Type 0
Engine = (file inputs tapes line : List ℕ) → Lent → Result Ran Refusal × Lent

abbrev pub Meets : (file inputs tapes line outs0 tr0 store0 : List ℕ) → Result Ran Refusal → (outs tr store : List ℕ) → Type 0
Meets file inputs tapes line outs0 tr0 store0 r outs tr store = run_after r outs tr store ≡ does (Run file inputs tapes line outs0 tr0 store0)

abbrev pub MeetsOn : Engine → (file inputs tapes line : List ℕ) → Lent → Type 0
MeetsOn engine file inputs tapes line b =
    let z = engine file inputs tapes line b in
    Meets file inputs tapes line b.outputs b.transcript b.store z.0 z.1.outputs z.1.transcript z.1.store

-- 01, "Marked examples": the circuit of K1, on a clean line
abbrev pub OnK : Engine → (inputs tapes : List ℕ) → Lent → Type 0
OnK engine inputs tapes b = MeetsOn engine K_file inputs tapes (K_line []) b

-- "K1: inputs 1 1 open 1 1 1; transcript 1000 0110 1111 0111 1001 100001."
abbrev pub OnK1 : Engine → Lent → Type 0
OnK1 engine b = OnK engine (1 ∷ 1 ∷ []) K_tapes b

-- "A refusal is a number and a place": here any two, where the code's type Refusal has 1 to 17, and 1 and 11 at place 0 alone
abbrev pub NumberEngine : Type 0
NumberEngine = (file inputs tapes line : List ℕ) → Lent → Answer × Lent

abbrev pub in_numbers : Engine → NumberEngine
in_numbers engine file inputs tapes line b = let z = engine file inputs tapes line b in (run_answer z.0, z.1)

abbrev pub NumberMeets : (file inputs tapes line : List ℕ) → Lent → Answer → Lent → Type 0
NumberMeets file inputs tapes line b a z =
    record { answer = a; returned = []; lent = z.outputs ∷ z.transcript ∷ z.store ∷ [] } ≡ does (Run file inputs tapes line b.outputs b.transcript b.store)

abbrev pub NumberMeetsOn : NumberEngine → (file inputs tapes line : List ℕ) → Lent → Type 0
NumberMeetsOn engine file inputs tapes line b = let z = engine file inputs tapes line b in NumberMeets file inputs tapes line b z.0 z.1

abbrev pub NumberOnK1 : NumberEngine → Lent → Type 0
NumberOnK1 engine b = NumberMeetsOn engine K_file (1 ∷ 1 ∷ []) K_tapes (K_line []) b

abbrev pub K1_outputs : List ℕ
K1_outputs = 1 ∷ 1 ∷ 1 ∷ []

abbrev pub K1_transcript : List ℕ
K1_transcript =
    1 ∷ 0 ∷ 0 ∷ 0 ∷ 0 ∷ 1 ∷ 1 ∷ 0 ∷ 1 ∷ 1 ∷ 1 ∷ 1 ∷ 0 ∷ 1 ∷ 1 ∷ 1 ∷ 1 ∷ 0 ∷ 0 ∷ 1 ∷ 1 ∷ 0 ∷ 0 ∷ 0 ∷ 0 ∷ 1 ∷ []

pub record Long (b : Lent) : Type 0 where
  pub outputs_long : length b.outputs ≡ 3
  pub transcript_long : length b.transcript ≡ 26
  pub store_long : length b.store ≡ 18

-- K's tapes with site 1's first draw for the gate changed: 1001, 0101, 10
abbrev pub other_tapes : List ℕ
other_tapes = 1 ∷ 0 ∷ 0 ∷ 1 ∷ 0 ∷ 1 ∷ 0 ∷ 1 ∷ 1 ∷ 0 ∷ []

-- the table, and the two numbers through which the answer goes out
abbrev pub TableEngine : Type 0
TableEngine = (file : List ℕ) → List (List ℕ) × ℕ × ℕ

abbrev pub TableMeets : (file : List ℕ) → List (List ℕ) → (number place : ℕ) → Type 0
TableMeets file table number place =
    (table ≡ (does (Traffic file)).returned) × ((number ≡ number_of (does (Traffic file)).answer) × (place ≡ place_of (does (Traffic file)).answer))

abbrev pub TableMeetsOn : TableEngine → List ℕ → Type 0
TableMeetsOn engine file = let z = engine file in TableMeets file z.0 z.1 z.2
