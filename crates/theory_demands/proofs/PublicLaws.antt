-- What is shown of every public call, call by call: one line for each.
--     ordered        the checks of a call on a circuit file have one number each, and stand in the one order
--     text_ordered   those of T-01's call stand in its own
--     refusal_numbers    a refusal's number is one of 1 to 17;  on_file_refusal_numbers: of a call on a circuit file, of 1 to 14
--     tidy           a refusal but 13 changes no buffer, and none changes its length
-- Assumes nothing.
use mathlib.Core.Path.{◌≡◌, refl, subst}
use mathlib.Core.Bool.{Bool, true, false, cond}
use mathlib.Core.List.{List, [], ◌∷◌, map}
use Prim.Native.Nat.{ℕ, zero, suc, ◌<◌, ◌≤◌}
use native.Mathlib.Omega.{arith}
use lib.ListN.{length}
use Rattle.theory_calls.specs.Answer.{refused}
use lib.Dec.{eqb}
use borrow.Author.Tests.{eqb-true, eqb-false, not-true}
use Rattle.theory_calls.specs.Checks.{Refusal, Holds}
use Rattle.theory_calls.specs.Refusal.{check, position, InOneOrder}
use Rattle.theory_calls.specs.Calls.{Call, Open, GateAt, OwnerAt, OutputAt, CheckOf, TrafficOf, PlainOf, RunOf, ViewOf, RetapeOf, Listing, does}
use Rattle.theory_calls.specs.Statements.{bit_family}
use Rattle.theory_calls.proofs.FamilyLaws.{bit_lawful, bits_fit}
use Rattle.theory_calls.proofs.Tidy.{Tidy, open_tidy, gate_tidy, owner_tidy, output_tidy, check_tidy, traffic_tidy, plain_tidy, run_tidy, view_tidy, retape_tidy, listing_tidy}
use Rattle.theory_calls.proofs.Orders.{OneEach, Rising, in_one_order}
use Rattle.theory_calls.proofs.Demand1.{refused_exactly}
use Rattle.bristol_text.specs.Words.{lines}
use Rattle.bristol_text.specs.Call.{fault_at, text_checks, FromBristol}
use Rattle.bristol_text.proofs.Faults.{fault_at_numbers}
use Rattle.bristol_text.proofs.WholeCall.{from_bristol_tidy}
use Rattle.theory_demands.specs.Public.{OnFile, is_open, is_gate, is_owner, is_output, is_check, is_traffic, is_plain, is_run, is_view, is_retape, is_listing}
use Rattle.theory_demands.specs.Public.{fixed_order, text_numbers, Public, on_file, is_from_bristol}

each_and_rising : (c : Call) → OnFile c → OneEach c.checks × Rising fixed_order 0 c.checks
unfolding OneEach Rising position Open GateAt OwnerAt OutputAt CheckOf TrafficOf PlainOf RunOf ViewOf RetapeOf Listing
each_and_rising _ (is_open f) = (refl, omega arith)
each_and_rising _ (is_gate f n) = (refl, omega arith)
each_and_rising _ (is_owner f n) = (refl, omega arith)
each_and_rising _ (is_output f n) = (refl, omega arith)
each_and_rising _ (is_check f) = (refl, omega arith)
each_and_rising _ (is_traffic f) = (refl, omega arith)
each_and_rising _ (is_plain f x vs) = (refl, omega arith)
each_and_rising _ (is_run f x t l outs tr st) = (refl, omega arith)
each_and_rising _ (is_view f x t s v st) = (refl, omega arith)
each_and_rising _ (is_retape f x t y s nt wr) = (refl, omega arith)
each_and_rising _ (is_listing j b) = (refl, omega arith)

pub ordered : (c : Call) → OnFile c → InOneOrder fixed_order c.checks
ordered c o = let h = each_and_rising c o in in_one_order fixed_order c.checks h.0 h.1

-- at each place the numbers of its checks, from first to last
pub text_ordered : (text owners room : List ℕ) (P : ℕ)
    → map (λ (c : Refusal). c.number P) (FromBristol text owners room).checks ≡ text_numbers (fault_at (lines text) P)
unfolding FromBristol text_checks
text_ordered text owners room P = refl

-- a number that stands in an order is as all its numbers are
unfoldable All : (ℕ → Type 0) → List ℕ → Type 0
All P [] = Unit {0}
All P (m ∷ ms) = P m × All P ms

stands_in : (P : ℕ → Type 0) (ms : List ℕ) → All P ms → (n : ℕ) → position ms n < length ms → P n
unfolding All position
stands_in P [] a n l = absurd (omega arith)
stands_in P (m ∷ ms) a n l = go (eqb m n) refl (stands_in P ms a.1 n)
  where
    go : (b : Bool) → eqb m n ≡ b → (position ms n < length ms → P n) → P n
    go true e ih = subst P (eqb-true m n e) a.0
    go false e ih = ih (let q : cond (eqb m n) 0 (suc (position ms n)) ≡ suc (position ms n) = rw e in omega arith)

-- one of 1 to m
abbrev To : ℕ → ℕ → Type 0
To m n = (1 ≤ n) × (n ≤ m)

-- what a call's checks give where their conditions hold
refusal_to : (m : ℕ) (c : Call) → ((k p : ℕ) → k < length c.checks → Holds (check c.checks k).row p → To m ((check c.checks k).number p))
    → (N P : ℕ) → (does c).answer ≡ refused N P → To m N
refusal_to m c w N P e = let f = (refused_exactly c N P).0 e in subst (To m) f.number (w f.which P f.concerns f.holds)

fourteen : All (To 14) fixed_order
unfolding All
fourteen = omega arith

pub on_file_refusal_numbers : (c : Call) → OnFile c → (N P : ℕ) → (does c).answer ≡ refused N P → (1 ≤ N) × (N ≤ 14)
on_file_refusal_numbers c o = refusal_to 14 c (λ k p l h. stands_in (To 14) fixed_order fourteen _ ((ordered c o).stands k p l))

text_number : (text owners room : List ℕ) → let cs = (FromBristol text owners room).checks in
    (k p : ℕ) → k < length cs → Holds (check cs k).row p → To 17 ((check cs k).number p)
unfolding Holds FromBristol text_checks
text_number text owners room zero p l h = omega arith
text_number text owners room (suc zero) p l h = let q = fault_at_numbers (lines text) p (eqb-false _ _ (not-true _ h.1)) in omega arith
text_number text owners room (suc (suc zero)) p l h = omega arith
text_number text owners room (suc (suc (suc zero))) p l h = omega arith
text_number text owners room (suc (suc (suc (suc zero)))) p l h = omega arith
text_number text owners room (suc (suc (suc (suc (suc zero))))) p l h = omega arith
text_number text owners room (suc (suc (suc (suc (suc (suc k)))))) p l h = absurd (omega arith)

pub refusal_numbers : (c : Call) → Public c → (N P : ℕ) → (does c).answer ≡ refused N P → (1 ≤ N) × (N ≤ 17)
refusal_numbers c (on_file o) N P e = let q = on_file_refusal_numbers c o N P e in omega arith
refusal_numbers _ (is_from_bristol text owners room) N P e = refusal_to 17 (FromBristol text owners room) (text_number text owners room) N P e

on_file_tidy : (c : Call) → OnFile c → Tidy c
on_file_tidy _ (is_open f) = open_tidy f
on_file_tidy _ (is_gate f n) = gate_tidy f n
on_file_tidy _ (is_owner f n) = owner_tidy f n
on_file_tidy _ (is_output f n) = output_tidy f n
on_file_tidy _ (is_check f) = check_tidy bit_family f
on_file_tidy _ (is_traffic f) = traffic_tidy bit_family f
on_file_tidy _ (is_plain f x vs) = plain_tidy bit_family bit_lawful f x vs
on_file_tidy _ (is_run f x t l outs tr st) = run_tidy bit_family bit_lawful f x t l outs tr st (bits_fit x) (bits_fit t) (bits_fit l)
on_file_tidy _ (is_view f x t s v st) = view_tidy bit_family bit_lawful f x t s v st (bits_fit x) (bits_fit t)
on_file_tidy _ (is_retape f x t y s nt wr) = retape_tidy bit_family bit_lawful f x t y s nt wr (bits_fit x) (bits_fit t) (bits_fit y)
on_file_tidy _ (is_listing j b) = listing_tidy j b

pub tidy : (c : Call) → Public c → Tidy c
tidy c (on_file o) = on_file_tidy c o
tidy _ (is_from_bristol text owners room) = from_bristol_tidy text owners room
