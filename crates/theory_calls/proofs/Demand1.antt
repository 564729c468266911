-- Demand 1 about whole calls: refusals, their order, what they leave. At bits, and of every public call: theory_demands/proofs/Demands.antt.
--     refused_exactly, accepted_exactly    of every call
--     changes_no_buffer .. refused_traffic_is_zero    what a refusal leaves
-- Assumes nothing.
use mathlib.Core.Path.{◌≡◌, sym, ap, ap₂, ◌∙◌}
use mathlib.Core.Logic.{◌↔◌}
use mathlib.Core.List.{List, [], ◌++◌}
use Prim.Native.Nat.{ℕ, ◌*◌, ◌≤◌}
use lib.ListN.{length, get_or, take, drop}
use lib.Seq.{take_at}
use Rattle.theory_sharing.specs.Circuit.{wires}
use Rattle.theory_sharing.specs.Store.{fill}
use Rattle.theory_sharing.specs.Traffic.{no_table}
use Rattle.theory_sharing.proofs.StoreLaws.{fill_rest}
use Rattle.theory_calls.specs.Answer.{refused, After}
use Rattle.theory_calls.specs.Checks.{Holds, line_want}
use Rattle.theory_calls.specs.Refusal.{check, FirstRefusal}
use Rattle.theory_calls.specs.Calls.{Call, Open, CheckOf, TrafficOf, RetapeOf, does, Accepts, buffer, both_plain_of}
use Rattle.theory_calls.specs.Statements.{circuit_with, Family}
use Rattle.theory_calls.proofs.FamilyLaws.{Lawful}
use Rattle.theory_calls.proofs.Refusals.{Passes, verdict_first, passes_none, none_passes}
use Rattle.theory_calls.proofs.CallLaws.{does_refused, verdict_refused, refused_verdict, accepts_passes, passes_accepts}
use Rattle.theory_calls.proofs.Accepted.{check_sound}
use Rattle.theory_calls.proofs.Limits.{limits, small_file, small_line}
use Rattle.theory_calls.proofs.Tidy.{both_length}

pub refused_exactly : (c : Call) (N P : ℕ) → ((does c).answer ≡ refused N P) ↔ FirstRefusal c.checks N P
refused_exactly c N P =
    let v = verdict_first c.checks N P in
    (λ e. v.0 (refused_verdict c N P e), λ h. verdict_refused c N P (v.1 h))

pub accepted_exactly : (c : Call) → Accepts c ↔ ((k P : ℕ) → ¬ Holds (check c.checks k).row P)
accepted_exactly c = (
  λ a. passes_none c.checks (accepts_passes c a),
  λ h. passes_accepts c (none_passes c.checks h),
)

-- a call that changes no buffer at any refusal but 13
pub changes_no_buffer : (c : Call) → ((N : ℕ) → ¬ (N ≡ 13) → c.at_refusal.lent N c.buffers ≡ c.buffers)
    → (N P : ℕ) → (does c).answer ≡ refused N P → ¬ (N ≡ 13) → (does c).lent ≡ c.buffers
changes_no_buffer c u N P e h = ap (λ (z : After). z.lent) (does_refused c N P (refused_verdict c N P e)) ∙ u N h

pub refusal_13_lays_down_plain_values : (F : Family) (law : Lawful F) (f x t y : List ℕ) (s : ℕ) (nt wr : List ℕ) (P : ℕ) → let c = RetapeOf F f x t y s nt wr in
    (does c).answer ≡ refused 13 P
    → (buffer 0 c ≡ nt)
    × (take (2 * wires (circuit_with F f)) (buffer 1 c) ≡ F.plain (circuit_with F f) x ++ F.plain (circuit_with F f) y)
    × (drop (2 * wires (circuit_with F f)) (buffer 1 c) ≡ drop (2 * wires (circuit_with F f)) wr)
unfolding both_plain_of fill RetapeOf
refusal_13_lays_down_plain_values F law f x t y s nt wr P e =
    let d = does_refused (RetapeOf F f x t y s nt wr) 13 P (refused_verdict (RetapeOf F f x t y s nt wr) 13 P e) in
    let room : buffer 1 (RetapeOf F f x t y s nt wr) ≡ fill wr (both_plain_of F (circuit_with F f) x y) = ap (λ (z : After). get_or z.lent 1 []) d in
    let n = both_length F law (circuit_with F f) x y in (
      ap (λ (z : After). get_or z.lent 0 []) d,
      ap (take (2 * wires (circuit_with F f))) room ∙ take_at (both_plain_of F (circuit_with F f) x y) _ (2 * wires (circuit_with F f)) n,
      ap₂ drop (sym n) room ∙ fill_rest wr (both_plain_of F (circuit_with F f) x y) ∙ ap (λ (m : ℕ). drop m wr) n,
    )

pub accepted_files_are_small : (F : Family) (f : List ℕ) → Accepts (Open f) → (length f ≤ 20000) × (line_want (circuit_with F f) ≤ 42496)
unfolding Passes Open
accepted_files_are_small F f a =
    let h = accepts_passes (Open f) a in
    let l = limits f h.1.0 h.1.1.0 in (small_file f l, small_line f l F)

pub what_is_checked_opens : (F : Family) (f : List ℕ) → Accepts (CheckOf F f) → Accepts (Open f)
unfolding Passes Open
what_is_checked_opens F f a = let k = check_sound F f a in passes_accepts (Open f) (k.c1, (k.c2, (k.c3, tt)))

pub refused_traffic_is_zero : (F : Family) (f : List ℕ) (N P : ℕ) → (does (TrafficOf F f)).answer ≡ refused N P → (does (TrafficOf F f)).returned ≡ no_table
unfolding TrafficOf
refused_traffic_is_zero F f N P e = ap (λ (z : After). z.returned) (does_refused (TrafficOf F f) N P (refused_verdict (TrafficOf F f) N P e))
