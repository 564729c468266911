-- 01: "Inside a step, senders go 1, 2, 3; each sends first to s+1, then to s+2; for a receiver k its part k comes before part k+1."
-- Which bit each sender of Order.antt sends, so that a route says whose bit goes along it and not only where it goes.
--     own_copy x s p      site s's own copy of part p of a wire: of the two parts that it holds, from its own pair
--     opening_sends x     along each route the sender's own copy of the part that the receiver lacks
--     deal_sends D        along each two routes the sender's deal: the receiver's part k, then its part k + 1
--     along_line e        what the line makes of sent bits
--     own_pair ws s i     site s's own pair of wire i
--     flip_own            part 1 flipped in a site's own pair
--     own_product         what a site forms at an AND or OR, of its own pairs
--     own_deal g s        what site s deals at gate g, from its own pairs and its own draws
--     ins_sends, gates_sends    the bits sent in a run on any line: of the first inputs; of all inputs and the first gates
--     sends n             of a whole run with n openings: entry k goes along entry k of routes C n (Order.antt)
-- That the delivered bits are these with the line's bytes added is proofs/OrderLaws.antt, sent-by-its-sender, for a step, and
-- proofs/SenderLaws.antt, sent-along-line, for a run.
use Rattle.std.specs.Prelude.{cond, List, [], ◌∷◌, ◌++◌, ℕ, zero, suc, get_or}
use Rattle.theory_sharing.specs.Ops.{Ops}
use Rattle.theory_sharing.specs.Sites.{Site, s1, s2, s3, next, prev, is, of}
use Rattle.theory_sharing.specs.Circuit.{Gate, XOR, AND, OR, NOT, Circuit, Draws, Errors}
use Rattle.theory_sharing.specs.Order.{Route, deal_routes, gate_routes, open_routes, if_deals}
use Rattle.theory_sharing.specs.Published.{Deal, dealt, deal}
use Rattle.theory_sharing.specs.Steps.{Pair, Wire, no_wire, later, local}
use Rattle.theory_sharing.specs.Run.{after, output}

-- a part that the site does not hold it has no copy of: 0
unfoldable pub own_copy : Wire → Site → Site → ℕ
own_copy x s p = cond (is s p) (of x s).0 (cond (is (next s) p) (of x s).1 0)

-- 01, step 6: "site k lacks part k+2. Both others send it."
unfoldable pub opening_sends : Wire → List Route → List ℕ
opening_sends x [] = []
opening_sends x (r ∷ rs) = own_copy x r.0 (prev r.1) ∷ opening_sends x rs

-- 01, step 1: "The owner sends each other site that site's two parts."
unfoldable pub deal_sends : (Site → Deal) → List Route → List ℕ
deal_sends D [] = []
deal_sends D (r ∷ []) = []
deal_sends D (r ∷ q ∷ rs) = of (dealt r.0 (D r.0)) r.1 ∷ of (dealt q.0 (D q.0)) (next q.1) ∷ deal_sends D rs

-- 01: "The line is one byte per sent bit, xored onto it."
unfoldable pub along_line : Ops → (ℕ → ℕ) → List ℕ → List ℕ
along_line R e [] = []
along_line R e (b ∷ bs) = R.add b (e 0) ∷ along_line R (later e 1) bs

-- the pair that site s holds itself of wire i, where the three sites hold ws
abbrev pub own_pair : List Wire → Site → ℕ → Pair
own_pair ws s i = of (get_or ws i no_wire) s

module _ (R : Ops) where
  open R use {add}

  -- 01, step 3: "part 1 is flipped wherever held", in one site's own pair: site 1 holds it first, site 3 second, site 2 not at all
  unfoldable pub flip_own : Site → Pair → Pair
  flip_own s1 p = (add p.0 1, p.1)
  flip_own s2 p = p
  flip_own s3 p = (p.0, add p.1 1)

  -- 01, step 4: "site s forms v", from its own pair p i of each wire i and nothing else; step 5: "OR: flip part 1 of both operands, AND"
  unfoldable pub own_product : Site → Gate → (ℕ → Pair) → ℕ
  own_product s (XOR i j) p = 0
  own_product s (AND i j) p = local R (p i) (p j)
  own_product s (OR i j) p = local R (flip_own s (p i)) (flip_own s (p j))
  own_product s (NOT i) p = 0

module _ (R : Ops) (C : Circuit) (x : ℕ → ℕ) (T : Draws) (E : Errors) where
  -- 01, step 4: "shares v as in 1 from its own tape": the pairs are those that site s has after the gates before g, as delivered
  unfoldable pub own_deal : ℕ → Site → Deal
  own_deal g s = deal R (own_product R s (C.gate g) (own_pair (after R C x T E g) s)) (T.g1 g s) (T.g2 g s)

  -- 01, step 1, "Input of owner s": all four bits go out from the owner, which deals its own input from its own two draws
  unfoldable pub ins_sends : ℕ → List ℕ
  ins_sends zero = []
  ins_sends (suc i) = ins_sends i ++ deal_sends (λ s. deal R (x i) (T.in1 i) (T.in2 i)) (deal_routes (C.owner i))

  -- 01, steps 4 and 5: each site sends from its own deal
  unfoldable pub gates_sends : ℕ → List ℕ
  gates_sends zero = ins_sends C.ins
  gates_sends (suc g) = gates_sends g ++ deal_sends (own_deal g) (if_deals (C.gate g) gate_routes)

  -- 01, step 6: each sender its own copy, from its own pair of the output's wire
  unfoldable pub sends : ℕ → List ℕ
  sends zero = gates_sends C.gates
  sends (suc o) = sends o ++ opening_sends (output R C x T E o) open_routes
