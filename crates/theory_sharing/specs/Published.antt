-- The published 2-of-3 replicated sharing by itself (000, "Sharings k among n", and 01, steps 1 to 6): three parts of every wire,
-- whose sum is the value. No pairs, no line, no store.
--     Parts, total       three parts and their sum
--     Deal, share        a sharing of a value v by site s, from two draws
--     product            a site's local product of two wires
--     parts C x T g      the parts of the inputs' wires and the first g gates'
--     sent_bits C x T n  every bit sent, with n openings, in the order of Order.antt
use Rattle.std.specs.Prelude.{List, [], ◌∷◌, ◌++◌, ℕ, zero, suc, get_or}
use Rattle.theory_sharing.specs.Ops.{Ops}
use Rattle.theory_sharing.specs.Sites.{Site, s1, s2, s3, next, Trio, of}
use Rattle.theory_sharing.specs.Circuit.{Gate, XOR, AND, OR, NOT, Circuit, Draws}
use Rattle.theory_sharing.specs.Order.{if_deals}

abbrev pub Parts : Type 0
Parts = Trio ℕ

abbrev pub no_parts : Parts
no_parts = record { at1 = 0; at2 = 0; at3 = 0 }

-- what a dealer makes of a value: its own part, and the two draws
pub record Deal : Type 0 where
  pub r : ℕ
  pub d1 : ℕ
  pub d2 : ℕ

-- 01, step 1: "two tape bits become parts s+1 and s+2; part s is x xor both."
abbrev pub dealt : Site → Deal → Parts
dealt s1 D = record { at1 = D.r; at2 = D.d1; at3 = D.d2 }
dealt s2 D = record { at1 = D.d2; at2 = D.r; at3 = D.d1 }
dealt s3 D = record { at1 = D.d1; at2 = D.d2; at3 = D.r }

-- 01, step 1: "The owner sends each other site that site's two parts": parts s+1 and s+2 to site s+1, parts s+2 and s to site s+2
abbrev pub deal_bits : Deal → List ℕ
deal_bits D = D.d1 ∷ D.d2 ∷ D.d2 ∷ D.r ∷ []

-- 01, step 6: "Both others send it": site s sends part s to site s+1, which lacks it, and part s+1 to site s+2
abbrev pub open_bits : Parts → List ℕ
open_bits P = P.at1 ∷ P.at2 ∷ P.at2 ∷ P.at3 ∷ P.at3 ∷ P.at1 ∷ []

module _ (R : Ops) where
  open R use {add, sub, mul}

  abbrev pub total : Parts → ℕ
  total P = add P.at1 (add P.at2 P.at3)

  abbrev pub deal : ℕ → ℕ → ℕ → Deal
  deal v a b = record { r = sub (sub v a) b; d1 = a; d2 = b }

  abbrev pub share : Site → ℕ → ℕ → ℕ → Parts
  share s v a b = dealt s (deal v a b)

  -- 01, step 2: "XOR: each held part, xored."
  abbrev pub add_parts : Parts → Parts → Parts
  add_parts P Q = record { at1 = add P.at1 Q.at1; at2 = add P.at2 Q.at2; at3 = add P.at3 Q.at3 }

  -- 01, step 3: "NOT: part 1 is flipped wherever held."
  abbrev pub flip_parts : Parts → Parts
  flip_parts P = record { at1 = add P.at1 1; at2 = P.at2; at3 = P.at3 }

  -- 01, step 4: "site s forms v = x(s)y(s) xor x(s)y(s+1) xor x(s+1)y(s)", of published parts. What a site forms of the pair that it
  -- holds is written down once more, as local in Steps.antt: two levels, and the laws of a clean line (proofs/Clean.antt) that they agree.
  abbrev pub three : ℕ → ℕ → ℕ → ℕ → ℕ
  three x x' y y' = add (add (mul x y) (mul x y')) (mul x' y)

  abbrev pub product : Site → Parts → Parts → ℕ
  product s P Q = three (of P s) (of P (next s)) (of Q s) (of Q (next s))

  -- 01, step 4: "shares v as in 1 from its own tape, and sends. The new part j is the xor of the three pieces j"
  abbrev pub dealt_product : (Site → ℕ) → (Site → ℕ) → Parts → Parts → Site → Deal
  dealt_product a b P Q s = deal (product s P Q) (a s) (b s)

  unfoldable pub mul_parts : (Site → ℕ) → (Site → ℕ) → Parts → Parts → Parts
  mul_parts a b P Q =
      add_parts (dealt s1 (dealt_product a b P Q s1))
      (add_parts (dealt s2 (dealt_product a b P Q s2)) (dealt s3 (dealt_product a b P Q s3)))

  -- 01, step 5: "OR: flip part 1 of both operands, AND, flip part 1 of the result."
  unfoldable pub gate_parts : (Site → ℕ) → (Site → ℕ) → Gate → List Parts → Parts
  gate_parts a b (XOR i j) ps = add_parts (get_or ps i no_parts) (get_or ps j no_parts)
  gate_parts a b (AND i j) ps = mul_parts a b (get_or ps i no_parts) (get_or ps j no_parts)
  gate_parts a b (OR i j) ps = flip_parts (mul_parts a b (flip_parts (get_or ps i no_parts)) (flip_parts (get_or ps j no_parts)))
  gate_parts a b (NOT i) ps = flip_parts (get_or ps i no_parts)

  -- the two wires that a gate multiplies: of a gate that deals nothing, none
  unfoldable pub left : Gate → List Parts → Parts
  left (XOR i j) ps = no_parts
  left (AND i j) ps = get_or ps i no_parts
  left (OR i j) ps = flip_parts (get_or ps i no_parts)
  left (NOT i) ps = no_parts

  unfoldable pub right : Gate → List Parts → Parts
  right (XOR i j) ps = no_parts
  right (AND i j) ps = get_or ps j no_parts
  right (OR i j) ps = flip_parts (get_or ps j no_parts)
  right (NOT i) ps = no_parts

  -- what site s shares at a gate
  abbrev pub product_of : Site → Gate → List Parts → ℕ
  product_of s k ps = product s (left k ps) (right k ps)

  module _ (C : Circuit) (x : ℕ → ℕ) (T : Draws) where
    unfoldable pub ins_parts : ℕ → List Parts
    ins_parts zero = []
    ins_parts (suc i) = ins_parts i ++ (share (C.owner i) (x i) (T.in1 i) (T.in2 i) ∷ [])

    unfoldable pub parts : ℕ → List Parts
    parts zero = ins_parts C.ins
    parts (suc g) = parts g ++ (gate_parts (T.g1 g) (T.g2 g) (C.gate g) (parts g) ∷ [])

    abbrev pub gate_deal : ℕ → Site → Deal
    gate_deal g s = deal (product_of s (C.gate g) (parts g)) (T.g1 g s) (T.g2 g s)

    abbrev pub out_parts : ℕ → Parts
    out_parts o = get_or (parts C.gates) (C.out o) no_parts

    unfoldable pub ins_bits : ℕ → List ℕ
    ins_bits zero = []
    ins_bits (suc i) = ins_bits i ++ deal_bits (deal (x i) (T.in1 i) (T.in2 i))

    unfoldable pub gates_bits : ℕ → List ℕ
    gates_bits zero = ins_bits C.ins
    gates_bits (suc g) = gates_bits g ++ if_deals (C.gate g) (deal_bits (gate_deal g s1) ++ deal_bits (gate_deal g s2) ++ deal_bits (gate_deal g s3))

    unfoldable pub sent_bits : ℕ → List ℕ
    sent_bits zero = gates_bits C.gates
    sent_bits (suc o) = sent_bits o ++ open_bits (out_parts o)
