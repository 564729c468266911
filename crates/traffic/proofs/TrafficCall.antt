-- Tables of sums, and the traffic call.
--     plus_tables        the sum of two tables is the table of the sums
--     under_sums, sums_none, sums_turn    the first k steps add at most 2 to an entry each; none, one more
--     input_sum, gate_sum, output_sum    one step, as the code makes it
--     traffic_refused, traffic_good    the call, by what its check answers;  table_is, number_is, place_is: what the code leaves is what it does
-- Assumes nothing.
use mathlib.Core.Path.{◌≡◌, refl, sym, ap, ap₂, ◌∙◌, subst}
use mathlib.Core.Bool.{Bool, true, false, cond, not, ◌&&◌}
use mathlib.Core.List.{List, []}
use Prim.Native.Nat.{ℕ, zero, suc, ◌+◌, ◌*◌, ◌≤◌, ◌<◌}
use native.Mathlib.Omega.{arith}
use native.Mathlib.Numerals.{add-one}
use lib.Dec.{eqb}
use Rattle.theory_sharing.specs.Sites.{Site, s1, s2, s3, next, is}
use Rattle.theory_sharing.specs.Circuit.{Gate, XOR, AND, OR, NOT, dealing}
use Rattle.theory_sharing.specs.Traffic.{input_adds, gate_adds, output_adds, sum, entry, traffic_table, no_table}
use Rattle.theory_calls.specs.File.{circuit, site_of, inputs_of, gates_of, outputs_of}
use Rattle.theory_calls.specs.Answer.{good, number_of, After, place_of}
use Rattle.theory_calls.specs.Checks.{verdict}
use Rattle.theory_calls.specs.Calls.{Check, Traffic, TrafficOf, answers, does, Accepts}
use Rattle.theory_calls.proofs.CallLaws.{does_good, does_refused}
use Rattle.check_refusal.specs.declared.Refusal.{Refusal}
use Rattle.check_refusal.specs.Number.{refused_by, number_of as number_in, place_of as place_in}
use Rattle.std.specs.Prelude.{Result, Ok, Err}
use Rattle.file_header.specs.declared.Counts.{Counts}
use Rattle.file_header.specs.Answers.{header_answer}
use Rattle.file_header.specs.Opened.{Opened}
use Rattle.check_circuit.proofs.FrontLaws.{circuit_refuses, circuit_passes}
use Rattle.traffic_entries.specs.Mirror.{table_of, plus, Under, from_input, from_gate, from_output}
use Rattle.traffic.specs.Mirror.{input_steps, gate_steps, output_steps, sums_upto}

pub plus_tables : (f g : Site → Site → ℕ) → plus (table_of f) (table_of g) ≡ table_of (λ a b. f a b + g a b)
unfolding plus
plus_tables f g = refl

pub under_table : (f : Site → Site → ℕ) (n : ℕ) → ((a b : Site) → f a b ≤ n) → Under (table_of f) n
under_table f n h = record {
  u00 = h s1 s1;
  u01 = h s1 s2;
  u02 = h s1 s3;
  u10 = h s2 s1;
  u11 = h s2 s2;
  u12 = h s2 s3;
  u20 = h s3 s1;
  u21 = h s3 s2;
  u22 = h s3 s3;
}

pub sum_most : (f : ℕ → ℕ) → ((k : ℕ) → f k ≤ 2) → (n : ℕ) → sum f n ≤ 2 * n
unfolding sum
sum_most f h zero = omega arith
sum_most f h (suc n) = let a = sum_most f h n in let b = h n in omega arith

at_most : (b : Bool) → cond b 2 0 ≤ 2
at_most true = omega arith
at_most false = omega arith

pub input_most : (s a b : Site) → input_adds s a b ≤ 2
unfolding input_adds
input_most s a b = at_most (is s a && not (is a b))

gate_cond : (b : Bool) → cond b 0 2 ≤ 2
gate_cond true = omega arith
gate_cond false = omega arith

pub gate_most : (k : Gate) (a b : Site) → gate_adds k a b ≤ 2
unfolding gate_adds dealing
gate_most (XOR i j) a b = omega arith
gate_most (AND i j) a b = let h = gate_cond (is a b) in omega arith
gate_most (OR i j) a b = let h = gate_cond (is a b) in omega arith
gate_most (NOT i) a b = omega arith

out_cond : (b : Bool) → cond b 1 0 ≤ 2
out_cond true = omega arith
out_cond false = omega arith

pub output_most : (a b : Site) → output_adds a b ≤ 2
unfolding output_adds
output_most a b = out_cond (is a (next b))

under_more : (t : List (List ℕ)) (m n : ℕ) → m ≤ n → Under t m → Under t n
under_more t m n h u = record {
  u00 = let k = u.u00 in omega arith;
  u01 = let k = u.u01 in omega arith;
  u02 = let k = u.u02 in omega arith;
  u10 = let k = u.u10 in omega arith;
  u11 = let k = u.u11 in omega arith;
  u12 = let k = u.u12 in omega arith;
  u20 = let k = u.u20 in omega arith;
  u21 = let k = u.u21 in omega arith;
  u22 = let k = u.u22 in omega arith;
}

-- what one step adds is small
under_by : (f : Site → Site → ℕ) → ((a b : Site) → f a b ≤ 2) → Under (table_of f) 16384
under_by f h = under_more _ 2 16384 (omega arith) (under_table f 2 h)

pub under_input : (o : ℕ) (m : List (List ℕ)) → m ≡ from_input o → Under m 16384
unfolding from_input
under_input o m e = subst (λ (z : List (List ℕ)). Under z 16384) (sym e) (under_by (input_adds (site_of o)) (λ a b. input_most (site_of o) a b))

pub under_gate : (d : ℕ) (m : List (List ℕ)) → m ≡ from_gate d → Under m 16384
unfolding from_gate
under_gate d m e = subst (λ (z : List (List ℕ)). Under z 16384) (sym e) (go (eqb d 1))
  where
    go : (b : Bool) → Under (cond b (table_of (λ a b. cond (is a b) 0 2)) (table_of (λ a b. 0))) 16384
    go true = under_by (λ a b. cond (is a b) 0 2) (λ a b. gate_cond (is a b))
    go false = under_by (λ a b. 0) (λ a b. omega arith)

pub under_output : (m : List (List ℕ)) → m ≡ from_output → Under m 16384
unfolding from_output
under_output m e = subst (λ (z : List (List ℕ)). Under z 16384) (sym e) (under_by output_adds output_most)

-- the sums of the first k steps, for any steps
module _ (F : ℕ → Site → Site → ℕ) where
  pub under_sums : ((i : ℕ) (a b : Site) → F i a b ≤ 2) → (k n : ℕ) (t : List (List ℕ)) → t ≡ sums_upto F k → 2 * k ≤ n → Under t n
  unfolding sums_upto
  under_sums m k n t e h =
      subst (λ (z : List (List ℕ)). Under z n) (sym e)
      (under_more _ (2 * k) n h (under_table (λ a b. sum (λ i. F i a b) k) (2 * k) (λ a b. sum_most (λ i. F i a b) (λ i. m i a b) k)))

  pub sums_none : no_table ≡ sums_upto F 0
  unfolding sums_upto sum
  sums_none = refl

  pub sums_turn : (k : ℕ) (t u : List (List ℕ)) → t ≡ sums_upto F k → u ≡ plus t (table_of (F k)) → u ≡ sums_upto F (k + 1)
  unfolding sums_upto sum
  sums_turn k t u e q =
      q ∙ ap (λ (z : List (List ℕ)). plus z (table_of (F k))) e ∙ plus_tables (λ a b. sum (λ i. F i a b) k) (F k) ∙ ap (sums_upto F) (sym (add-one k))

pub input_few : (s : List ℕ) (i : ℕ) (a b : Site) → input_steps s i a b ≤ 2
input_few s i a b = input_most ((circuit s).owner i) a b

pub gate_few : (s : List ℕ) (g : ℕ) (a b : Site) → gate_steps s g a b ≤ 2
gate_few s g a b = gate_most ((circuit s).gate g) a b

pub output_few : (o : ℕ) (a b : Site) → output_steps o a b ≤ 2
output_few o a b = output_most a b

-- what an input adds, by its owner's byte
-- what a gate adds, by whether it deals
pub gate_table : (k : Gate) (d : ℕ) → d ≡ dealing k → from_gate d ≡ table_of (gate_adds k)
unfolding from_gate gate_adds dealing is
gate_table (XOR i j) d e = rw e
gate_table (AND i j) d e = rw e
gate_table (OR i j) d e = rw e
gate_table (NOT i) d e = rw e

pub gate_sum : (k : Gate) (d : ℕ) (t m r : List (List ℕ)) → d ≡ dealing k → m ≡ from_gate d → r ≡ plus t m → r ≡ plus t (table_of (gate_adds k))
gate_sum k d t m r e q a = a ∙ ap (plus t) (q ∙ gate_table k d e)

pub input_sum : (s : List ℕ) (k o : ℕ) (t m r : List (List ℕ)) → site_of o ≡ (circuit s).owner k → m ≡ from_input o → r ≡ plus t m
    → r ≡ plus t (table_of (input_adds ((circuit s).owner k)))
unfolding from_input
input_sum s k o t m r q em er = er ∙ ap (plus t) (em ∙ ap (λ (z : Site). table_of (input_adds z)) q)

pub output_sum : (t m r : List (List ℕ)) → m ≡ from_output → r ≡ plus t m → r ≡ plus t (table_of output_adds)
unfolding from_output
output_sum t m r e a = a ∙ ap (plus t) e

-- two sums together, and all three
pub under_both : (F H : ℕ → Site → Site → ℕ) → ((i : ℕ) (a b : Site) → F i a b ≤ 2) → ((i : ℕ) (a b : Site) → H i a b ≤ 2) → (i g : ℕ) (x y r : List (List ℕ))
    → x ≡ sums_upto F i → y ≡ sums_upto H g → i ≤ 1024 → g ≤ 3072 → r ≡ plus x y → Under r 16384
unfolding sums_upto
under_both F H mF mH i g x y r ex ey hi hg e =
    let f : Site → Site → ℕ = λ a b. sum (λ k. F k a b) i in
    let h : Site → Site → ℕ = λ a b. sum (λ k. H k a b) g in
    let small : (a b : Site) → f a b + h a b ≤ 16384 = λ a b. (let p = sum_most (λ k. F k a b) (λ k. mF k a b) i in let q = sum_most (λ k. H k a b) (λ k. mH k a b) g in omega arith) in
    subst (λ (z : List (List ℕ)). Under z 16384) (sym (e ∙ ap₂ plus ex ey ∙ plus_tables f h)) (under_table (λ a b. f a b + h a b) 16384 small)

pub whole_is : (s : List ℕ) (c : Counts) (i g o ig r : List (List ℕ)) → Opened s c → i ≡ sums_upto (input_steps s) c.inputs → g ≡ sums_upto (gate_steps s) c.gates
    → o ≡ sums_upto output_steps c.outputs → ig ≡ plus i g → r ≡ plus ig o → r ≡ traffic_table (circuit s)
unfolding sums_upto traffic_table entry
whole_is s c i g o ig r op ei eg eo e1 e2 =
    let f : Site → Site → ℕ = λ a b. sum (λ k. input_steps s k a b) (inputs_of s) in
    let h : Site → Site → ℕ = λ a b. sum (λ k. gate_steps s k a b) (gates_of s) in
    let w : Site → Site → ℕ = λ a b. sum (λ k. output_steps k a b) (outputs_of s) in
    e2
    ∙ ap₂ plus
    (e1 ∙ ap₂ plus (ei ∙ ap (sums_upto (input_steps s)) op.ins_are) (eg ∙ ap (sums_upto (gate_steps s)) op.gates_are) ∙ plus_tables f h)
    (eo ∙ ap (sums_upto output_steps) op.outs_are)
    ∙ plus_tables (λ a b. f a b + h a b) w

-- the call, by the check's answer: it checks the circuit and nothing else
pub traffic_refused : (s : List ℕ) (e : Refusal) → answers (header_answer (Err e)) ≡ does (Check s)
    → record { answer = refused_by e; returned = no_table; lent = [] } ≡ does (Traffic s)
unfolding TrafficOf
traffic_refused s e q = sym (does_refused (Traffic s) (number_in e) (place_in e) (circuit_refuses s e q []))

pub traffic_good : (s : List ℕ) (r : List (List ℕ)) → Accepts (Check s) → r ≡ traffic_table (circuit s)
    → record { answer = good []; returned = r; lent = [] } ≡ does (Traffic s)
unfolding verdict TrafficOf
traffic_good s r a m = ap (λ (z : List (List ℕ)). record { answer = good []; returned = z; lent = [] }) m ∙ sym (does_good (Traffic s) (circuit_passes s a []))

-- what the code leaves in the two numbers, and returns
module _ (s : List ℕ) (x : After) (e : x ≡ does (Traffic s)) where
  pub table_is : x.returned ≡ (does (Traffic s)).returned
  table_is = ap (λ (z : After). z.returned) e

  pub number_is : (n : ℕ) → n ≡ number_of x.answer → n ≡ number_of (does (Traffic s)).answer
  number_is n q = q ∙ ap (λ (z : After). number_of z.answer) e

  pub place_is : (p : ℕ) → p ≡ place_of x.answer → p ≡ place_of (does (Traffic s)).answer
  place_is p q = q ∙ ap (λ (z : After). place_of z.answer) e

-- two results that meet the statement are equal
pub traffic_one : (s : List ℕ) (t u : List (List ℕ)) (n m p q : ℕ)
    → (t ≡ (does (Traffic s)).returned) × (n ≡ number_of (does (Traffic s)).answer) × (p ≡ place_of (does (Traffic s)).answer)
    → (u ≡ (does (Traffic s)).returned) × (m ≡ number_of (does (Traffic s)).answer) × (q ≡ place_of (does (Traffic s)).answer)
    → (t ≡ u) × (n ≡ m) × (p ≡ q)
traffic_one s t u n m p q a b = (a.0 ∙ sym b.0, a.1 ∙ sym b.1, a.2 ∙ sym b.2)
