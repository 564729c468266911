-- Wrong re-tapings and wrong views, each a definition; proofs/RetapingShutOut.antt shows that it does not meet the promise.
--     TapeEngine             a re-taping: from what it is given to its answer, the new tapes and the work room
--     TapeMeets              the promise of `retape` (crates/retape/src/lib.rt), its one `ensures`;  TapeMeetsOn: an engine meets it on what it is given
--     NumberTapeEngine       a re-taping that answers by 01's numbers, any two of them (Engine.antt);  tapes_in_numbers: a re-taping, its answer in numbers
--     NumberTapeMeets, NumberTapeMeetsOn    the same promise of an answer in numbers; tape_meets_in_numbers (proofs/Promise.antt) says that it is
--     hands_old_tapes_back   whatever it lays down in the work room
--     refuses_freely n p     with this number and place;  refuses_freely_with e: with a refusal of the code
--     ViewEngine, ViewMeets, ViewMeetsOn    the same for a view
--     having                                the checks of a number
--     in_order                              a call that makes its checks in another order, and is right in all else
--     ten_before_eleven, twelve_before_ten  two such orders
--     views_in_order, retapes_in_order      a view and a re-taping in such an order
use Rattle.std.specs.Prelude.{◌≡◌, cond, ℕ, get_or, eqb, Result, Ok, Err}
use mathlib.Core.List.{List, [], ◌∷◌, flat_map}
use Rattle.theory_calls.specs.Answer.{Answer, good, abort, refused, After}
use Rattle.theory_calls.specs.Checks.{Refusal, verdict}
use Rattle.theory_calls.specs.Calls.{Call, View, Retape, settle, does}
use Rattle.check_refusal.specs.declared.Refusal.{Refusal as Refused}
use Rattle.check_refusal.specs.Number.{refusal_with}
use Rattle.check_circuit.specs.Answers.{done_answer, done_after}

-- what view and re-taping answer
abbrev pub Answered : Type 0
Answered = Result (Unit {0}) Refused

abbrev pub TapeEngine : Type 0
TapeEngine = (file inputs tapes second : List ℕ) → ℕ → (fresh room : List ℕ) → Answered × List ℕ × List ℕ

abbrev pub TapeMeets : (file inputs tapes second : List ℕ) → ℕ → (fresh0 room0 : List ℕ) → Answered → (fresh room : List ℕ) → Type 0
TapeMeets file inputs tapes second site fresh0 room0 r fresh room = done_after r (fresh ∷ room ∷ []) ≡ does (Retape file inputs tapes second site fresh0 room0)

abbrev pub TapeMeetsOn : TapeEngine → (file inputs tapes second : List ℕ) → ℕ → (fresh room : List ℕ) → Type 0
TapeMeetsOn engine file inputs tapes second site fresh room =
    let z = engine file inputs tapes second site fresh room in
    TapeMeets file inputs tapes second site fresh room z.0 z.1 z.2

abbrev pub NumberTapeEngine : Type 0
NumberTapeEngine = (file inputs tapes second : List ℕ) → ℕ → (fresh room : List ℕ) → Answer × List ℕ × List ℕ

abbrev pub tapes_in_numbers : TapeEngine → NumberTapeEngine
tapes_in_numbers engine file inputs tapes second site fresh room =
    let z = engine file inputs tapes second site fresh room in
    (done_answer z.0, z.1, z.2)

abbrev pub NumberTapeMeets : (file inputs tapes second : List ℕ) → ℕ → (fresh0 room0 : List ℕ) → Answer → (fresh room : List ℕ) → Type 0
NumberTapeMeets file inputs tapes second site fresh0 room0 a fresh room =
    record { answer = a; returned = []; lent = fresh ∷ room ∷ [] } ≡ does (Retape file inputs tapes second site fresh0 room0)

abbrev pub NumberTapeMeetsOn : NumberTapeEngine → (file inputs tapes second : List ℕ) → ℕ → (fresh room : List ℕ) → Type 0
NumberTapeMeetsOn engine file inputs tapes second site fresh room =
    let z = engine file inputs tapes second site fresh room in
    NumberTapeMeets file inputs tapes second site fresh room z.0 z.1 z.2

-- 01: "Demand 3 shuts out handing the old tapes back,"
abbrev pub hands_old_tapes_back : (List ℕ → List ℕ) → TapeEngine
hands_old_tapes_back lays file inputs tapes second site fresh room = (Ok tt, tapes, lays room)

-- "or refusing freely."
abbrev pub refuses_freely : ℕ → ℕ → NumberTapeEngine
refuses_freely n p file inputs tapes second site fresh room = (refused n p, fresh, room)

abbrev pub refuses_freely_with : Refused → TapeEngine
refuses_freely_with e file inputs tapes second site fresh room = (Err e, fresh, room)

-- a view as the promise of `view_of` (crates/view/src/lib.rt) sees it
abbrev pub ViewEngine : Type 0
ViewEngine = (file inputs tapes : List ℕ) → ℕ → (view store : List ℕ) → Answered × List ℕ × List ℕ

abbrev pub ViewMeets : (file inputs tapes : List ℕ) → ℕ → (view0 store0 : List ℕ) → Answered → (view store : List ℕ) → Type 0
ViewMeets file inputs tapes site view0 store0 r view store = done_after r (view ∷ store ∷ []) ≡ does (View file inputs tapes site view0 store0)

abbrev pub ViewMeetsOn : ViewEngine → (file inputs tapes : List ℕ) → ℕ → (view store : List ℕ) → Type 0
ViewMeetsOn engine file inputs tapes site view store =
    let z = engine file inputs tapes site view store in
    ViewMeets file inputs tapes site view store z.0 z.1 z.2

unfoldable pub having : ℕ → List Refusal → List Refusal
having n [] = []
having n (c ∷ cs) = cond (eqb (c.number 0) n) (c ∷ having n cs) (having n cs)

-- what `does` is (theory_calls/specs/Call.antt), with the checks of a call in another order of their numbers
abbrev pub in_order : List ℕ → Call → After
in_order ns c = settle c (verdict (flat_map (λ n. having n c.checks) ns))

-- 01: "The exceptions are 14, which comes first, and 11, which comes just before 10": here 11 is none,
abbrev pub ten_before_eleven : List ℕ
ten_before_eleven = 14 ∷ 1 ∷ 2 ∷ 3 ∷ 4 ∷ 5 ∷ 6 ∷ 7 ∷ 8 ∷ 9 ∷ 10 ∷ 11 ∷ 12 ∷ 13 ∷ []

-- and here the second inputs are looked at before the buffers, as the first are
abbrev pub twelve_before_ten : List ℕ
twelve_before_ten = 14 ∷ 1 ∷ 2 ∷ 3 ∷ 4 ∷ 5 ∷ 6 ∷ 7 ∷ 8 ∷ 9 ∷ 11 ∷ 12 ∷ 10 ∷ 13 ∷ []

-- neither call aborts
abbrev pub as_done : Answer → Answered
as_done (good vs) = Ok tt
as_done (abort o m) = Ok tt
as_done (refused n p) = Err (refusal_with n p)

abbrev pub views_in_order : List ℕ → ViewEngine
views_in_order ns file inputs tapes site view store =
    let z = in_order ns (View file inputs tapes site view store) in
    (as_done z.answer, get_or z.lent 0 [], get_or z.lent 1 [])

abbrev pub retapes_in_order : List ℕ → TapeEngine
retapes_in_order ns file inputs tapes second site fresh room =
    let z = in_order ns (Retape file inputs tapes second site fresh room) in
    (as_done z.answer, get_or z.lent 0 [], get_or z.lent 1 [])
