-- 01: "Traffic: a table of sent bits, three senders by three receivers."
--     input_adds, gate_adds, output_adds    what one step adds, from a to b
--     comparing                             the copies that the figure leaves out
--     entry C a b                           the sum over the circuit's steps
--     traffic_table C                       the nine entries, by rows
--     add_row, add_up                       the sum of a row, and of a table
--     table_total C                         the traffic total: the sum of the table
use Rattle.std.specs.Prelude.{◌&&◌, not, cond, List, [], ◌∷◌, ℕ, zero, suc, ◌+◌, ◌*◌}
use Rattle.theory_sharing.specs.Sites.{Site, s1, s2, s3, next, prev, is}
use Rattle.theory_sharing.specs.Circuit.{Gate, Circuit, dealing}

-- "An input adds 2 from its owner to each other site."
unfoldable pub input_adds : Site → Site → Site → ℕ
input_adds s a b = cond (is s a && not (is a b)) 2 0

-- "An AND or OR adds 2 for each ordered pair."
unfoldable pub gate_adds : Gate → Site → Site → ℕ
gate_adds k a b = dealing k * cond (is a b) 0 2

-- "An output adds 1 from k+1 to k for each k; the comparing copy is left out of the figure."
unfoldable pub output_adds : Site → Site → ℕ
output_adds a b = cond (is a (next b)) 1 0

-- the comparing copy that is left out: one from k+2 to k at an opening
unfoldable pub comparing : Site → Site → ℕ
comparing a b = cond (is a (prev b)) 1 0

-- the sum of f over the numbers below n
unfoldable pub sum : (ℕ → ℕ) → ℕ → ℕ
sum f zero = 0
sum f (suc n) = sum f n + f n

unfoldable pub entry : Circuit → Site → Site → ℕ
entry C a b = sum (λ i. input_adds (C.owner i) a b) C.ins + sum (λ g. gate_adds (C.gate g) a b) C.gates + sum (λ o. output_adds a b) C.outs

abbrev pub traffic_row : Circuit → Site → List ℕ
traffic_row C a = entry C a s1 ∷ entry C a s2 ∷ entry C a s3 ∷ []

unfoldable pub traffic_table : Circuit → List (List ℕ)
traffic_table C = traffic_row C s1 ∷ traffic_row C s2 ∷ traffic_row C s3 ∷ []

-- with a refusal "the table is all zeros"
abbrev pub no_table : List (List ℕ)
no_table = (0 ∷ 0 ∷ 0 ∷ []) ∷ (0 ∷ 0 ∷ 0 ∷ []) ∷ (0 ∷ 0 ∷ 0 ∷ []) ∷ []

unfoldable pub add_row : List ℕ → ℕ
add_row [] = 0
add_row (n ∷ ns) = n + add_row ns

unfoldable pub add_up : List (List ℕ) → ℕ
add_up [] = 0
add_up (r ∷ rs) = add_row r + add_up rs

-- "the total"
abbrev pub table_total : Circuit → ℕ
table_total C = add_up (traffic_table C)
