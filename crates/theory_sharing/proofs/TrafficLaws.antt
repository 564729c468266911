-- The traffic table: its total, its diagonal, and the bits really sent.
--     table_total_is     4I + 12A + 3O
--     no_diagonal        nobody sends to itself
--     entry_counts       an entry is the number of bits sent from a to b, less the comparing copies: those from k + 2 to k at an opening
-- Assumes nothing.
use mathlib.Core.Path.{◌≡◌, refl, ap₂, ◌∙◌}
use mathlib.Core.Bool.{cond}
use mathlib.Core.List.{List, [], ◌∷◌, ◌++◌}
use Prim.Native.Nat.{ℕ, zero, suc, ◌+◌, ◌*◌}
use native.Mathlib.Omega.{arith}
use Rattle.theory_sharing.specs.Sites.{Site, s1, s2, s3, is}
use Rattle.theory_sharing.specs.Circuit.{Gate, XOR, AND, OR, NOT, Circuit, dealing, ands, all_ands}
use Rattle.theory_sharing.specs.Order.{Route, count, deal_routes, gate_routes, open_routes, if_deals, ins_routes, gates_routes, routes}
use Rattle.theory_sharing.proofs.SiteLaws.{alike_one, alike_two, alike_three, is_itself}
use Rattle.theory_sharing.specs.Traffic.{comparing, input_adds, gate_adds, output_adds, sum, entry, traffic_table, add_row, add_up, table_total}

-- all nine entries of one step's addition
abbrev nine_of : (Site → Site → ℕ) → ℕ
nine_of f = f s1 s1 + f s1 s2 + f s1 s3 + (f s2 s1 + f s2 s2 + f s2 s3) + (f s3 s1 + f s3 s2 + f s3 s3)

input_nine : (s : Site) → nine_of (input_adds s) ≡ 4
unfolding input_adds is
input_nine s1 = refl
input_nine s2 = refl
input_nine s3 = refl

gate_nine : (k : Gate) → nine_of (gate_adds k) ≡ 12 * dealing k
unfolding gate_adds is dealing
gate_nine (XOR i j) = refl
gate_nine (AND i j) = refl
gate_nine (OR i j) = refl
gate_nine (NOT i) = refl

output_nine : nine_of output_adds ≡ 3
unfolding output_adds is
output_nine = refl

-- a table of sums is the sum of the tables
sum_nine : (f : Site → Site → ℕ → ℕ) (n : ℕ) → nine_of (λ a b. sum (f a b) n) ≡ sum (λ k. nine_of (λ a b. f a b k)) n
unfolding sum
sum_nine f zero = refl
sum_nine f (suc n) = let h = sum_nine f n in omega arith

sum_input : (C : Circuit) (n : ℕ) → sum (λ k. nine_of (λ a b. input_adds (C.owner k) a b)) n ≡ 4 * n
unfolding sum
sum_input C zero = refl
sum_input C (suc n) = let h = sum_input C n in let q = input_nine (C.owner n) in omega arith

sum_gate : (C : Circuit) (n : ℕ) → sum (λ k. nine_of (λ a b. gate_adds (C.gate k) a b)) n ≡ 12 * ands C.gate n
unfolding sum ands
sum_gate C zero = refl
sum_gate C (suc n) = let h = sum_gate C n in let q = gate_nine (C.gate n) in omega arith

sum_output : (n : ℕ) → sum (λ k. nine_of (λ a b. output_adds a b)) n ≡ 3 * n
unfolding sum
sum_output zero = refl
sum_output (suc n) = let h = sum_output n in let q = output_nine in omega arith

pub table_total_is : (C : Circuit) → table_total C ≡ 4 * C.ins + 12 * all_ands C + 3 * C.outs
unfolding traffic_table add_up add_row entry
table_total_is C =
    let i = sum_nine (λ a b k. input_adds (C.owner k) a b) C.ins ∙ sum_input C C.ins in
    let g = sum_nine (λ a b k. gate_adds (C.gate k) a b) C.gates ∙ sum_gate C C.gates in
    let o = sum_nine (λ a b k. output_adds a b) C.outs ∙ sum_output C.outs in
    omega arith

sum_zero : (f : ℕ → ℕ) → ((k : ℕ) → f k ≡ 0) → (n : ℕ) → sum f n ≡ 0
unfolding sum
sum_zero f h zero = refl
sum_zero f h (suc n) = let a = sum_zero f h n in let b = h n in omega arith

input_own : (s a : Site) → input_adds s a a ≡ 0
unfolding input_adds is
input_own = alike_two (λ s a. input_adds s a a) (λ s a. 0) tt

gate_own : (k : Gate) (a : Site) → gate_adds k a a ≡ 0
unfolding gate_adds
gate_own k a = rw (is_itself a) (omega arith)

output_own : (a : Site) → output_adds a a ≡ 0
unfolding output_adds is
output_own = alike_one (λ a. output_adds a a) (λ a. 0) tt

-- 01: "The diagonal is 0"
pub no_diagonal : (C : Circuit) (a : Site) → entry C a a ≡ 0
unfolding entry
no_diagonal C a =
    let i = sum_zero (λ k. input_adds (C.owner k) a a) (λ k. input_own (C.owner k) a) C.ins in
    let g = sum_zero (λ k. gate_adds (C.gate k) a a) (λ k. gate_own (C.gate k) a) C.gates in
    let o = sum_zero (λ k. output_adds a a) (λ k. output_own a) C.outs in
    omega arith

count_append : (a b : Site) (rs rs' : List Route) → count a b (rs ++ rs') ≡ count a b rs + count a b rs'
unfolding count
count_append a b [] rs' = omega arith
count_append a b (r ∷ rs) rs' = let k = count_append a b rs rs' in omega arith

count_deal : (s a b : Site) → count a b (deal_routes s) ≡ input_adds s a b
unfolding count input_adds is
count_deal = alike_three (λ s a b. count a b (deal_routes s)) input_adds tt

count_twelve : (a b : Site) → count a b gate_routes ≡ cond (is a b) 0 2
unfolding count is
count_twelve = alike_two (λ a b. count a b gate_routes) (λ a b. cond (is a b) 0 2) tt

count_gate : (k : Gate) (a b : Site) → count a b (if_deals k gate_routes) ≡ gate_adds k a b
unfolding count gate_adds if_deals dealing
count_gate (XOR i j) a b = omega arith
count_gate (AND i j) a b = let h = count_twelve a b in omega arith
count_gate (OR i j) a b = let h = count_twelve a b in omega arith
count_gate (NOT i) a b = omega arith

count_open : (a b : Site) → count a b open_routes ≡ output_adds a b + comparing a b
unfolding count output_adds comparing is
count_open = alike_two (λ a b. count a b open_routes) (λ a b. output_adds a b + comparing a b) tt

module _ (C : Circuit) (a b : Site) where
  ins_count : (i : ℕ) → count a b (ins_routes C i) ≡ sum (λ k. input_adds (C.owner k) a b) i
  unfolding ins_routes sum count
  ins_count zero = refl
  ins_count (suc i) = count_append a b (ins_routes C i) _ ∙ ap₂ ◌+◌ (ins_count i) (count_deal (C.owner i) a b)

  gates_count : (g : ℕ) → count a b (gates_routes C g) ≡ sum (λ k. input_adds (C.owner k) a b) C.ins + sum (λ k. gate_adds (C.gate k) a b) g
  unfolding gates_routes sum
  gates_count zero = let h = ins_count C.ins in omega arith
  gates_count (suc g) =
      count_append a b (gates_routes C g) _ ∙ (let h = gates_count g in let k = count_gate (C.gate g) a b in omega arith)

  open_count : (o : ℕ) → count a b (routes C o) ≡ count a b (gates_routes C C.gates) + sum (λ k. output_adds a b) o + comparing a b * o
  unfolding routes sum
  open_count zero = omega arith
  open_count (suc o) =
      count_append a b (routes C o) _ ∙ (let h = open_count o in let k = count_open a b in omega arith)

  -- the bits sent from a to b in a whole run
  pub entry_counts : count a b (routes C C.outs) ≡ entry C a b + comparing a b * C.outs
  unfolding entry
  entry_counts = let h = open_count C.outs in let k = gates_count C.gates in omega arith
