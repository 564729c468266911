-- An answer as it goes out to C: numbers in a struct. The first is `number_of` of theory_calls: 0 good, 100 abort, else the refusal's.
--     sites_of, value_of                 what stands beside the number
--     told                               the answer of plain values, run, view and re-taping
--     TellsBy, Tells                     a struct that has the answer, with all lent buffers as they are afterwards, is what the call does; with told
--     told_counts .. told_output         the answers that have values: 0 each where there are none
--     told_traffic                       the answer, and the table's rows one after the other
--     length_answer                      the length of a text or a file, or a refusal
--     told_listing, TellsText            the answer, and the length of the text in the lent buffer; with the buffer
--     told_file, TellsFile               likewise of a file in a lent room
use Rattle.std.specs.Prelude.{◌≡◌, List, [], ◌∷◌, ℕ, get_or, Result, Ok, Err}
use Rattle.theory_calls.specs.Answer.{Answer as Said, good, abort, refused, After, number_of, place_of}
use Rattle.theory_calls.specs.Calls.{Call, does}
use Rattle.check_refusal.specs.declared.Refusal.{Refusal}
use Rattle.check_refusal.specs.Number.{refused_by}
use Rattle.door_answers.specs.declared.Answer.{Answer}
use Rattle.door_answers.specs.declared.CountsAnswer.{CountsAnswer}
use Rattle.door_answers.specs.declared.GateAnswer.{GateAnswer}
use Rattle.door_answers.specs.declared.OwnerAnswer.{OwnerAnswer}
use Rattle.door_answers.specs.declared.OutputAnswer.{OutputAnswer}
use Rattle.door_answers.specs.declared.TrafficAnswer.{TrafficAnswer}
use Rattle.door_answers.specs.declared.ListingAnswer.{ListingAnswer}
use Rattle.door_answers.specs.declared.FileAnswer.{FileAnswer}

-- an abort's sites, else 0
unfoldable pub sites_of : Said → ℕ
sites_of (good vs) = 0
sites_of (abort o m) = m
sites_of (refused n p) = 0

-- what was asked for, by its number among the values; 0 where there is none
unfoldable pub value_of : ℕ → Said → ℕ
value_of k (good vs) = get_or vs k 0
value_of k (abort o m) = 0
value_of k (refused n p) = 0

abbrev pub told : Said → Answer
told a = record { number = number_of a; place = place_of a; sites = sites_of a }

abbrev pub TellsBy : {A : Type 0} → (Said → A) → A → List (List ℕ) → Call → Type 0
TellsBy f r lent c = (r ≡ f (does c).answer) × (lent ≡ (does c).lent)

abbrev pub Tells : Answer → List (List ℕ) → Call → Type 0
Tells r lent c = TellsBy told r lent c

abbrev pub told_counts : Said → CountsAnswer
told_counts a = record { number = number_of a; place = place_of a; inputs = value_of 0 a; gates = value_of 1 a; outputs = value_of 2 a }

abbrev pub told_gate : Said → GateAnswer
told_gate a = record { number = number_of a; place = place_of a; kind = value_of 0 a; first = value_of 1 a; second = value_of 2 a }

abbrev pub told_owner : Said → OwnerAnswer
told_owner a = record { number = number_of a; place = place_of a; owner = value_of 0 a }

abbrev pub told_output : Said → OutputAnswer
told_output a = record { number = number_of a; place = place_of a; wire = value_of 0 a }

-- the nine entries: from site 1 to 1, 2, 3, then from 2, then from 3
abbrev pub entry_at : List (List ℕ) → ℕ → ℕ → ℕ
entry_at t i j = get_or (get_or t i []) j 0

abbrev pub nine : List (List ℕ) → List ℕ
nine t =
    entry_at t 0 0
    ∷ entry_at t 0 1
    ∷ entry_at t 0 2
    ∷ entry_at t 1 0
    ∷ entry_at t 1 1
    ∷ entry_at t 1 2
    ∷ entry_at t 2 0
    ∷ entry_at t 2 1
    ∷ entry_at t 2 2
    ∷ []

abbrev pub told_traffic : After → TrafficAnswer
told_traffic a = record { number = number_of a.answer; place = place_of a.answer; bits = nine a.returned }

-- the answer of a call that tells a length: the listing's, and that of a text
unfoldable pub length_answer : Result ℕ Refusal → Said
length_answer (Ok n) = good (n ∷ [])
length_answer (Err e) = refused_by e

abbrev pub told_listing : Said → ListingAnswer
told_listing a = record { number = number_of a; place = place_of a; length = value_of 0 a }

abbrev pub TellsText : ListingAnswer → List (List ℕ) → Call → Type 0
TellsText r lent c = TellsBy told_listing r lent c

abbrev pub told_file : Said → FileAnswer
told_file a = record { number = number_of a; place = place_of a; length = value_of 0 a }

abbrev pub TellsFile : FileAnswer → List (List ℕ) → Call → Type 0
TellsFile r lent c = TellsBy told_file r lent c
