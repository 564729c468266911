-- One step at the three sites, with the line: each site's pair of a wire, and what is delivered.
-- 01: "Site s holds parts s and s+1 of every wire." "All sites use delivered bits."
--     Pair, Wire         one site's two parts of a wire; the three sites' pairs
--     hold               the pairs that the sites hold of three parts
--     later e n          the line's errors from the n'th bit of a step on
--     in_wire, delivered    step 1
--     add_wire, flip     steps 2 and 3
--     local, deals, mix, delivered3    step 4
--     gate_wire, gate_delivered        a gate of any kind: the pairs it makes, the bits delivered
--     six, copies, objecting, named, opened   step 6
-- The argument e is the line's error on each bit of this step, counted from 0.
use Rattle.std.specs.Prelude.{Bool, cond, List, [], ◌∷◌, ◌++◌, ℕ, ◌+◌, ◌/◌, ◌%◌, get_or, eqb}
use Rattle.theory_sharing.specs.Ops.{Ops}
use Rattle.theory_sharing.specs.Sites.{Site, s1, s2, s3, Trio}
use Rattle.theory_sharing.specs.Circuit.{Gate, XOR, AND, OR, NOT}
use Rattle.theory_sharing.specs.Published.{Parts, Deal, deal}

abbrev pub Pair : Type 0
Pair = ℕ × ℕ

abbrev pub Wire : Type 0
Wire = Trio Pair

abbrev pub no_wire : Wire
no_wire = record { at1 = (0, 0); at2 = (0, 0); at3 = (0, 0) }

-- 01: "Site s holds parts s and s+1 of every wire": what the three sites hold of three published parts
abbrev pub hold : Parts → Wire
hold P = record { at1 = (P.at1, P.at2); at2 = (P.at2, P.at3); at3 = (P.at3, P.at1) }

abbrev pub later : (ℕ → ℕ) → ℕ → ℕ → ℕ
later e n k = e (n + k)

-- 01, step 4: "as held": a dealer's own pair of what it deals, parts s and s+1
abbrev pub kept : Deal → Pair
kept D = (D.r, D.d1)

-- 01, step 6: "Unlike copies: site k objects."
abbrev pub unlike : Pair → ℕ → ℕ
unlike c n = cond (eqb c.0 c.1) 0 n

-- 01: "the objecting sites as a sum of 1, 2 and 4 for sites 1, 2 and 3"
abbrev pub weight : Site → ℕ
weight s1 = 1
weight s2 = 2
weight s3 = 4

unfoldable pub objecting : Trio Pair → ℕ
objecting c = unlike c.at1 (weight s1) + unlike c.at2 (weight s2) + unlike c.at3 (weight s3)

-- whether such a sum names a site
unfoldable pub named : Site → ℕ → Bool
named s m = eqb (m / weight s % 2) 1

-- 01, step 6: "site k lacks part k+2. Both others send it." The two copies that each site gets, of the six bits of an opening in the
-- order of sending (1 to 2, 1 to 3, 2 to 3, 2 to 1, 3 to 1, 3 to 2).
unfoldable pub copies : List ℕ → Trio Pair
copies l = record { at1 = (get_or l 3 0, get_or l 4 0); at2 = (get_or l 0 0, get_or l 5 0); at3 = (get_or l 1 0, get_or l 2 0) }

module _ (R : Ops) where
  open R use {add, mul}

  -- a deal's four bits, delivered: "each sends first to s+1, then to s+2; for a receiver k its part k comes before part k+1"
  unfoldable pub delivered : (ℕ → ℕ) → Deal → List ℕ
  delivered e D = add D.d1 (e 0) ∷ add D.d2 (e 1) ∷ add D.d2 (e 2) ∷ add D.r (e 3) ∷ []

  -- what the site after the dealer gets, and the one after that
  abbrev pub to_next : (ℕ → ℕ) → Deal → Pair
  to_next e D = (add D.d1 (e 0), add D.d2 (e 1))

  abbrev pub to_prev : (ℕ → ℕ) → Deal → Pair
  to_prev e D = (add D.d2 (e 2), add D.r (e 3))

  -- 01, step 1, for an owner and what it deals
  unfoldable pub in_wire : (ℕ → ℕ) → Site → Deal → Wire
  in_wire e s1 D = record { at1 = kept D; at2 = to_next e D; at3 = to_prev e D }
  in_wire e s2 D = record { at1 = to_prev e D; at2 = kept D; at3 = to_next e D }
  in_wire e s3 D = record { at1 = to_next e D; at2 = to_prev e D; at3 = kept D }

  abbrev pub add_pair : Pair → Pair → Pair
  add_pair a b = (add a.0 b.0, add a.1 b.1)

  -- 01, step 2: "XOR: each held part, xored."
  abbrev pub add_wire : Wire → Wire → Wire
  add_wire x y = record { at1 = add_pair x.at1 y.at1; at2 = add_pair x.at2 y.at2; at3 = add_pair x.at3 y.at3 }

  -- 01, step 3: "NOT: part 1 is flipped wherever held": sites 1 and 3 hold it
  abbrev pub flip : Wire → Wire
  flip x = record { at1 = (add x.at1.0 1, x.at1.1); at2 = x.at2; at3 = (x.at3.0, add x.at3.1 1) }

  -- 01, step 4: "site s forms v = x(s)y(s) xor x(s)y(s+1) xor x(s+1)y(s)", of the pairs that it holds, whatever the line made of them. The
  -- published formula is three in Published.antt: two levels, and the laws of a clean line (proofs/Clean.antt) that they agree.
  abbrev pub local : Pair → Pair → ℕ
  local x y = add (add (mul x.0 y.0) (mul x.0 y.1)) (mul x.1 y.0)

  -- "shares v as in 1 from its own tape"
  abbrev pub deals : (Site → ℕ) → (Site → ℕ) → Wire → Wire → Trio Deal
  deals a b x y = record {
    at1 = deal R (local x.at1 y.at1) (a s1) (b s1);
    at2 = deal R (local x.at2 y.at2) (a s2) (b s2);
    at3 = deal R (local x.at3 y.at3) (a s3) (b s3);
  }

  -- "and sends": "senders go 1, 2, 3"
  unfoldable pub delivered3 : (ℕ → ℕ) → Trio Deal → List ℕ
  delivered3 e D = delivered e D.at1 ++ delivered (later e 4) D.at2 ++ delivered (later e 8) D.at3

  -- "The new part j is the xor of the three pieces j, as held or received": a site's own, then from the site before it, then from the one after
  unfoldable pub mix : (ℕ → ℕ) → Trio Deal → Wire
  mix e D = record {
    at1 = add_pair (add_pair (kept D.at1) (to_next (later e 8) D.at3)) (to_prev (later e 4) D.at2);
    at2 = add_pair (add_pair (kept D.at2) (to_next e D.at1)) (to_prev (later e 8) D.at3);
    at3 = add_pair (add_pair (kept D.at3) (to_next (later e 4) D.at2)) (to_prev e D.at1);
  }

  abbrev pub mul_wire : (ℕ → ℕ) → (Site → ℕ) → (Site → ℕ) → Wire → Wire → Wire
  mul_wire e a b x y = mix e (deals a b x y)

  -- 01, step 5: "OR: flip part 1 of both operands, AND, flip part 1 of the result", the operands in working copies
  unfoldable pub gate_wire : (ℕ → ℕ) → (Site → ℕ) → (Site → ℕ) → Gate → List Wire → Wire
  gate_wire e a b (XOR i j) ws = add_wire (get_or ws i no_wire) (get_or ws j no_wire)
  gate_wire e a b (AND i j) ws = mul_wire e a b (get_or ws i no_wire) (get_or ws j no_wire)
  gate_wire e a b (OR i j) ws = flip (mul_wire e a b (flip (get_or ws i no_wire)) (flip (get_or ws j no_wire)))
  gate_wire e a b (NOT i) ws = flip (get_or ws i no_wire)

  unfoldable pub gate_delivered : (ℕ → ℕ) → (Site → ℕ) → (Site → ℕ) → Gate → List Wire → List ℕ
  gate_delivered e a b (XOR i j) ws = []
  gate_delivered e a b (AND i j) ws = delivered3 e (deals a b (get_or ws i no_wire) (get_or ws j no_wire))
  gate_delivered e a b (OR i j) ws = delivered3 e (deals a b (flip (get_or ws i no_wire)) (flip (get_or ws j no_wire)))
  gate_delivered e a b (NOT i) ws = []

  -- 01, step 6: the six bits of an opening, delivered: site s sends its part s to s+1 and its part s+1 to s+2
  unfoldable pub six : (ℕ → ℕ) → Wire → List ℕ
  six e x =
      add x.at1.0 (e 0) ∷ add x.at1.1 (e 1) ∷ add x.at2.0 (e 2)
      ∷ add x.at2.1 (e 3) ∷ add x.at3.0 (e 4) ∷ add x.at3.1 (e 5) ∷ []

  -- "Else it opens the xor of its pair and that part."
  unfoldable pub opened : Trio Pair → Wire → Trio ℕ
  opened c x = record {
    at1 = add (add x.at1.0 x.at1.1) c.at1.0;
    at2 = add (add x.at2.0 x.at2.1) c.at2.0;
    at3 = add (add x.at3.0 x.at3.1) c.at3.0;
  }
