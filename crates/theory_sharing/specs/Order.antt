-- 01: "Inputs come first, then gates, then outputs, each by number. Inside a step, senders go 1, 2, 3; each sends first to s+1,
-- then to s+2; for a receiver k its part k comes before part k+1." Who sends each bit of a transcript to whom.
--     Route                            sender and receiver
--     deal_routes, gate_routes, open_routes    of an input, of an AND or OR, of an opening
--     routes C n                       of a whole run with n openings
--     if_deals                         a list where a gate deals, else nothing
--     count                            how many routes go from one site to another
--     pick                             of the bits sent along routes, those that reach a site
use Rattle.std.specs.Prelude.{cond, ◌&&◌, List, [], ◌∷◌, ◌++◌, ℕ, zero, suc, ◌+◌}
use Rattle.theory_sharing.specs.Sites.{Site, s1, s2, s3, next, prev, is, if_own}
use Rattle.theory_sharing.specs.Circuit.{Gate, XOR, AND, OR, NOT, Circuit}

abbrev pub Route : Type 0
Route = Site × Site

-- two bits to s + 1, then two to s + 2
abbrev pub deal_routes : Site → List Route
deal_routes s = (s, next s) ∷ (s, next s) ∷ (s, prev s) ∷ (s, prev s) ∷ []

abbrev pub gate_routes : List Route
gate_routes = deal_routes s1 ++ deal_routes s2 ++ deal_routes s3

-- one bit to s + 1, then one to s + 2
abbrev pub open_routes : List Route
open_routes = (s1, s2) ∷ (s1, s3) ∷ (s2, s3) ∷ (s2, s1) ∷ (s3, s1) ∷ (s3, s2) ∷ []

unfoldable pub if_deals : {A : Type 0} → Gate → List A → List A
if_deals (XOR i j) l = []
if_deals (AND i j) l = l
if_deals (OR i j) l = l
if_deals (NOT i) l = []

unfoldable pub ins_routes : Circuit → ℕ → List Route
ins_routes C zero = []
ins_routes C (suc i) = ins_routes C i ++ deal_routes (C.owner i)

unfoldable pub gates_routes : Circuit → ℕ → List Route
gates_routes C zero = ins_routes C C.ins
gates_routes C (suc g) = gates_routes C g ++ if_deals (C.gate g) gate_routes

unfoldable pub routes : Circuit → ℕ → List Route
routes C zero = gates_routes C C.gates
routes C (suc o) = routes C o ++ open_routes

unfoldable pub pick : Site → List Route → List ℕ → List ℕ
pick s [] bs = []
pick s (r ∷ rs) [] = []
pick s (r ∷ rs) (b ∷ bs) = if_own s r.1 (b ∷ []) ++ pick s rs bs

-- how many of the routes go from a to b
unfoldable pub count : Site → Site → List Route → ℕ
count a b [] = 0
count a b (r ∷ rs) = cond (is a r.0 && is b r.1) 1 0 + count a b rs
