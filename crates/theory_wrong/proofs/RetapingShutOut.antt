-- The wrong re-tapings and the wrong views of specs/Retaping.antt do not meet the promise.
--     handing_back_fails_on_K8      whatever is laid down in the work room
--     K8_only                       no other tapes meet it on K8, whatever the answer;  K8_only_of: so of an answer of the code
--     refusing_freely_fails         with any number and any place, at every re-taping that is accepted;  ..-on-K8: K8 is one
--     refusing_freely_with_fails    so with each refusal of the code;  ..-on-K8
--     right_order                   in the one order they do what the calls do
--     ten_before_eleven_fails       a view that looks at 10 before 11, at site 4 with empty buffers;  retaping-..: so a re-taping
--     twelve_before_ten_fails       a re-taping that looks at 12 before 10, with no second inputs and empty buffers
-- Assumes nothing.
use mathlib.Core.Path.{◌≡◌, refl, sym, ap, ◌∙◌}
use mathlib.Core.List.{List, [], ◌∷◌, flat_map}
use Prim.Native.Nat.{ℕ}
use native.Mathlib.Omega.{arith}
use lib.ListN.{get_or}
use Rattle.theory_sharing.specs.Sites.{is}
use Rattle.theory_sharing.specs.Circuit.{dealing, ands, owned}
use Rattle.theory_sharing.specs.First.{first}
use Rattle.theory_calls.specs.File.{le16, le32, size, owner_at, kind_at, first_at, second_at, output_at, site_of, gate_of}
use Rattle.theory_calls.specs.Answer.{Answer, After, number_of}
use Rattle.theory_calls.specs.Checks.{tested, row_owner, good_gate, row_gate_of, row_output, fault, verdict}
use Rattle.theory_calls.specs.Calls.{Call, Open, GateAt, OwnerAt, OutputAt, CheckOf, TrafficOf, PlainOf, RunOf, View, ViewOf, Retape, RetapeOf, Listing, settle, does, Accepts}
use Rattle.theory_calls.proofs.CallLaws.{good_accepts}
use Rattle.check_refusal.specs.declared.Refusal.{Refusal as Refused}
use Rattle.check_refusal.specs.Number.{number_of as number_in, place_of as place_in}
use Rattle.check_circuit.specs.Answers.{done_answer}
use Rattle.theory_demands.specs.Public.{OnFile, is_open, is_gate, is_owner, is_output, is_check, is_traffic, is_plain, is_run, is_view, is_retape, is_listing, fixed_order}
use Rattle.theory_demands.specs.Marked.{K_file, K_tapes, untouched, K_retape, good_with}
use Rattle.theory_demands.proofs.Marked.{marked}
use Rattle.theory_wrong.specs.Retaping.{Answered, TapeEngine, TapeMeets, TapeMeetsOn, NumberTapeEngine, NumberTapeMeets, NumberTapeMeetsOn, hands_old_tapes_back, refuses_freely, refuses_freely_with, ViewMeetsOn, having, in_order, ten_before_eleven, twelve_before_ten, views_in_order, retapes_in_order}

-- the row of K8
K8 : does (K_retape 3 (1 ∷ 0 ∷ []) (0 ∷ 1 ∷ []))
    ≡ good_with ((0 ∷ 0 ∷ 0 ∷ 1 ∷ 0 ∷ 1 ∷ 0 ∷ 1 ∷ 1 ∷ 0 ∷ []) ∷ (1 ∷ 0 ∷ 0 ∷ 0 ∷ 1 ∷ 0 ∷ 0 ∷ 0 ∷ 0 ∷ 1 ∷ 0 ∷ 1 ∷ []) ∷ [])
K8 = ap (λ (l : List After). get_or l 7 (good_with [])) marked

abbrev OnK8 : TapeEngine → Type 0
OnK8 engine = TapeMeetsOn engine K_file (1 ∷ 0 ∷ []) K_tapes (0 ∷ 1 ∷ []) 3 (untouched 10) (untouched 12)

abbrev NumberOnK8 : NumberTapeEngine → Type 0
NumberOnK8 engine = NumberTapeMeetsOn engine K_file (1 ∷ 0 ∷ []) K_tapes (0 ∷ 1 ∷ []) 3 (untouched 10) (untouched 12)

one_not_zero : ¬ ◌≡◌ {A = ℕ} 1 0
one_not_zero e = omega arith

pub handing_back_fails_on_K8 : (lays : List ℕ → List ℕ) → ¬ OnK8 (hands_old_tapes_back lays)
handing_back_fails_on_K8 lays m = one_not_zero (ap (λ (z : After). get_or (get_or z.lent 0 []) 0 0) (m ∙ K8))

pub refusing_freely_fails : (n p : ℕ) (file inputs tapes second : List ℕ) (site : ℕ) (fresh room : List ℕ) → Accepts (Retape file inputs tapes second site fresh room)
    → ¬ NumberTapeMeetsOn (refuses_freely n p) file inputs tapes second site fresh room
unfolding Accepts
refusing_freely_fails n p file inputs tapes second site fresh room a m = a n p (sym (ap (λ (z : After). z.answer) m))

pub refusing_freely_fails_on_K8 : (n p : ℕ) → ¬ NumberOnK8 (refuses_freely n p)
refusing_freely_fails_on_K8 n p = refusing_freely_fails n p _ _ _ _ _ _ _ (good_accepts (K_retape 3 (1 ∷ 0 ∷ []) (0 ∷ 1 ∷ [])) [] (ap (λ (z : After). z.answer) K8))

-- in numbers a refusal of the code is one of these
pub refusing_freely_with_fails : (e : Refused) (file inputs tapes second : List ℕ) (site : ℕ) (fresh room : List ℕ) → Accepts (Retape file inputs tapes second site fresh room)
    → ¬ TapeMeetsOn (refuses_freely_with e) file inputs tapes second site fresh room
unfolding done_answer
refusing_freely_with_fails e file inputs tapes second site fresh room a m = refusing_freely_fails (number_in e) (place_in e) file inputs tapes second site fresh room a m

pub refusing_freely_with_fails_on_K8 : (e : Refused) → ¬ OnK8 (refuses_freely_with e)
unfolding done_answer
refusing_freely_with_fails_on_K8 e m = refusing_freely_fails_on_K8 (number_in e) (place_in e) m

-- so are the second draw flipped, another neighbour's tape, and whatever else is not these tapes
pub K8_only : (a : Answer) (fresh room : List ℕ) → NumberTapeMeets K_file (1 ∷ 0 ∷ []) K_tapes (0 ∷ 1 ∷ []) 3 (untouched 10) (untouched 12) a fresh room
    → fresh ≡ 0 ∷ 0 ∷ 0 ∷ 1 ∷ 0 ∷ 1 ∷ 0 ∷ 1 ∷ 1 ∷ 0 ∷ []
K8_only a fresh room m = ap (λ (z : After). get_or z.lent 0 []) (m ∙ K8)

pub K8_only_of : (r : Answered) (fresh room : List ℕ) → TapeMeets K_file (1 ∷ 0 ∷ []) K_tapes (0 ∷ 1 ∷ []) 3 (untouched 10) (untouched 12) r fresh room
    → fresh ≡ 0 ∷ 0 ∷ 0 ∷ 1 ∷ 0 ∷ 1 ∷ 0 ∷ 1 ∷ 1 ∷ 0 ∷ []
K8_only_of r fresh room m = K8_only (done_answer r) fresh room m

-- the order of checks is all that is wrong
pub right_order : (c : Call) → OnFile c → in_order fixed_order c ≡ does c
unfolding does having flat_map Open GateAt OwnerAt OutputAt CheckOf TrafficOf PlainOf RunOf ViewOf RetapeOf Listing
right_order _ (is_open f) = refl
right_order _ (is_gate f n) = refl
right_order _ (is_owner f n) = refl
right_order _ (is_output f n) = refl
right_order _ (is_check f) = refl
right_order _ (is_traffic f) = refl
right_order _ (is_plain f x vs) = refl
right_order _ (is_run f x t l outs tr st) = refl
right_order _ (is_view f x t s v st) = refl
right_order _ (is_retape f x t y s nt wr) = refl
right_order _ (is_listing j b) = refl

-- K's circuit asked for site 4 with empty buffers, and for site 3 with no second inputs and empty buffers: the number that is promised
promised : (number_of (does (View K_file (1 ∷ 1 ∷ []) K_tapes 4 [] [])).answer ≡ 11)
    × (number_of (does (Retape K_file (1 ∷ 1 ∷ []) K_tapes (1 ∷ 1 ∷ []) 4 [] [])).answer ≡ 11)
    × (number_of (does (Retape K_file (1 ∷ 1 ∷ []) K_tapes [] 3 [] [])).answer ≡ 10)
unfolding is dealing ands owned first le16 le32 size owner_at kind_at first_at second_at output_at site_of gate_of tested row_owner good_gate row_gate_of row_output fault verdict settle does number_of ViewOf RetapeOf
promised = (refl, refl, refl)

-- and the number that comes in another order
told : (number_of (done_answer (views_in_order ten_before_eleven K_file (1 ∷ 1 ∷ []) K_tapes 4 [] []).0) ≡ 10)
    × (number_of (done_answer (retapes_in_order ten_before_eleven K_file (1 ∷ 1 ∷ []) K_tapes (1 ∷ 1 ∷ []) 4 [] []).0) ≡ 10)
    × (number_of (done_answer (retapes_in_order twelve_before_ten K_file (1 ∷ 1 ∷ []) K_tapes [] 3 [] []).0) ≡ 12)
unfolding is dealing ands owned first le16 le32 size owner_at kind_at first_at second_at output_at site_of gate_of tested row_owner good_gate row_gate_of row_output fault verdict having flat_map settle number_of done_answer ViewOf RetapeOf
told = (refl, refl, refl)

abbrev number : After → ℕ
number z = number_of z.answer

pub ten_before_eleven_fails : ¬ ViewMeetsOn (views_in_order ten_before_eleven) K_file (1 ∷ 1 ∷ []) K_tapes 4 [] []
ten_before_eleven_fails m = let e = sym told.0 ∙ ap number m ∙ promised.0 in omega arith

pub retaping_ten_before_eleven_fails : ¬ TapeMeetsOn (retapes_in_order ten_before_eleven) K_file (1 ∷ 1 ∷ []) K_tapes (1 ∷ 1 ∷ []) 4 [] []
retaping_ten_before_eleven_fails m = let e = sym told.1 ∙ ap number m ∙ promised.1 in omega arith

pub twelve_before_ten_fails : ¬ TapeMeetsOn (retapes_in_order twelve_before_ten) K_file (1 ∷ 1 ∷ []) K_tapes [] 3 [] []
twelve_before_ten_fails m = let e = sym told.2 ∙ ap number m ∙ promised.2 in omega arith
