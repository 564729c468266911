-- An accepted listing.
--     shown_small        what it shows of an output is one digit
--     listing_short      its text fits into its buffer
-- Assumes nothing.
use mathlib.Core.Path.{ap}
use mathlib.Core.Bool.{Bool, true, false}
use mathlib.Core.List.{List, [], ◌∷◌, map}
use Prim.Native.Nat.{ℕ, zero, suc, ◌<◌, ◌≤◌}
use native.Mathlib.Omega.{arith}
use lib.ListN.{length, get_or}
use Rattle.theory_sharing.specs.Ops.{bits}
use Rattle.theory_sharing.specs.Sites.{Trio}
use Rattle.theory_sharing.specs.Circuit.{Circuit, no_errors}
use Rattle.theory_sharing.specs.Run.{opened_at}
use Rattle.theory_sharing.specs.Tapes.{read}
use Rattle.theory_sharing.proofs.TrafficLaws.{table_total_is}
use Rattle.theory_calls.specs.File.{gates_of, circuit}
use Rattle.theory_calls.specs.Plain.{byte, plain, plain_values, plain_out}
use Rattle.theory_calls.specs.Calls.{Listing, Accepts, at_wire, job_file, job_inputs, job_tapes, job_text}
use Rattle.theory_calls.proofs.Accepted.{listing_ok}
use Rattle.theory_calls.proofs.RunCall.{opens_plain}
use Rattle.theory_calls.proofs.Limits.{limits, ands_most}
use Rattle.theory_calls.proofs.Digits.{text_short}

byte_small : (b : Bool) → byte b ≤ 9
unfolding byte
byte_small true = omega arith
byte_small false = omega arith

bytes_small : (vs : List Bool) (k : ℕ) → get_or (map byte vs) k 0 ≤ 9
bytes_small [] k = omega arith
bytes_small (v ∷ vs) zero = byte_small v
bytes_small (v ∷ vs) (suc k) = bytes_small vs k

-- what a site opens on a clean line is a plain value, which is one digit
pub shown_small : (C : Circuit) (x t : List ℕ) → ((k : ℕ) → get_or x k 0 < 2) → (o : ℕ) → (opened_at bits C (at_wire x) (read C t) no_errors o).at1 ≤ 9
unfolding plain
shown_small C x t h o =
    let s : plain_out C x o ≤ 9 = bytes_small (plain_values C x C.gates) (C.out o) in
    let e = ap (λ (u : Trio ℕ). u.at1) (opens_plain C x t h o) in
    omega arith

pub listing_short : (j b : List ℕ) → Accepts (Listing j b) → length (job_text j) ≤ length b
listing_short j b a =
    let k = listing_ok j b a in
    let C = circuit (job_file j) in
    let l = limits (job_file j) k.sound.c2 k.sound.c3 in
    let p = l.few_inputs in let q = l.few_gates in let r = l.few_outputs in
    let m = ands_most C.gate (gates_of (job_file j)) in
    let t = table_total_is C in
    let w = text_short C _ p q r (omega arith) (λ o h. shown_small C (job_inputs j) (job_tapes j) k.in_x.small o) in
    let e = k.b_long in
    omega arith
