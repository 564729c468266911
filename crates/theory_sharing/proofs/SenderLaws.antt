-- What the sites send in a run on any line, and what the line makes of it.
--     sends_length       a route for each sent bit
--     sent_along_line    the delivered bits of a run are the sent bits, the line's bytes added one by one
--     delivered_is_sent  bit by bit: bit k is the bit that the sender of route k sends, with byte k of the line added
-- Assumes nothing.
use mathlib.Core.Path.{◌≡◌, refl, sym, ap, ap₂, ◌∙◌}
use mathlib.Core.Logic.{⊎_elim}
use mathlib.Core.List.{List, [], ◌∷◌, ◌++◌}
use Prim.Native.Nat.{ℕ, zero, suc, ◌+◌, ◌*◌, ◌<◌, ◌≤◌}
use native.Mathlib.Omega.{arith}
use native.Mathlib.Nat.{eq-or-lt_of_le, le_of_suc-le-suc}
use lib.ListN.{length, get_or, length-append, get_or-append}
use Rattle.theory_sharing.specs.Ops.{Ops}
use Rattle.theory_sharing.specs.Sites.{Site}
use Rattle.theory_sharing.specs.Circuit.{Gate, XOR, AND, OR, NOT, Circuit, Draws, Errors, dealing, ands}
use Rattle.theory_sharing.specs.Order.{gate_routes, open_routes, deal_routes, if_deals, routes}
use Rattle.theory_sharing.specs.Published.{Deal, deal}
use Rattle.theory_sharing.specs.Steps.{Wire, no_wire, later, deals, flip, gate_delivered}
use Rattle.theory_sharing.specs.Run.{after, output, ins_delivered, gates_delivered, out_delivered, opens_delivered}
use Rattle.theory_sharing.specs.Line.{at_input, at_gate, at_output, errors}
use Rattle.theory_sharing.specs.Senders.{opening_sends, deal_sends, along_line, own_pair, flip_own, own_product, own_deal, ins_sends, gates_sends, sends}
use Rattle.theory_sharing.proofs.OrderLaws.{routes_length, sent_by_its_sender}

module _ (R : Ops) where
  along_line_same : (e e' : ℕ → ℕ) (bs : List ℕ) → ((k : ℕ) → e k ≡ e' k) → along_line R e bs ≡ along_line R e' bs
  along_line_same e e' bs h = ap (λ (f : ℕ → ℕ). along_line R f bs) (λ j k. h k j)

  along_line_append : (e : ℕ → ℕ) (bs cs : List ℕ) → along_line R e (bs ++ cs) ≡ along_line R e bs ++ along_line R (later e (length bs)) cs
  unfolding along_line
  along_line_append e [] cs = along_line_same e (later e 0) cs (λ k. ap e (zero_less k))
    where
      zero_less : (k : ℕ) → k ≡ 0 + k
      zero_less k = omega arith
  along_line_append e (b ∷ bs) cs =
      ap (λ l. R.add b (e 0) ∷ l)
      (along_line_append (later e 1) bs cs ∙ ap (λ l. along_line R (later e 1) bs ++ l) (along_line_same _ (later e (length (b ∷ bs))) cs (λ k. ap e (one_more k))))
    where
      one_more : (k : ℕ) → 1 + (length bs + k) ≡ length (b ∷ bs) + k
      one_more k = omega arith

  along_line_at : (e : ℕ → ℕ) (bs : List ℕ) (k : ℕ) → k < length bs → get_or (along_line R e bs) k 0 ≡ R.add (get_or bs k 0) (e k)
  unfolding along_line
  along_line_at e [] k h = absurd (omega arith)
  along_line_at e (b ∷ bs) zero h = refl
  along_line_at e (b ∷ bs) (suc k) h =
      let p : 1 + k ≡ suc k = omega arith in along_line_at (later e 1) bs k (omega arith) ∙ ap (λ (n : ℕ). R.add (get_or bs k 0) (e n)) p

  -- the bits of a gate are what each site sends from its own pairs and draws
  gate_sent : (e : ℕ → ℕ) (a b : Site → ℕ) (k : Gate) (ws : List Wire)
      → gate_delivered R e a b k ws ≡ along_line R e (deal_sends (λ s. deal R (own_product R s k (own_pair ws s)) (a s) (b s)) (if_deals k gate_routes))
  unfolding gate_delivered if_deals deal_sends along_line own_product flip_own
  gate_sent e a b (XOR i j) ws = refl
  gate_sent e a b (AND i j) ws = (sent_by_its_sender R e).1 (deals R a b (get_or ws i no_wire) (get_or ws j no_wire))
  gate_sent e a b (OR i j) ws = (sent_by_its_sender R e).1 (deals R a b (flip R (get_or ws i no_wire)) (flip R (get_or ws j no_wire)))
  gate_sent e a b (NOT i) ws = refl

gate_many : (D : Site → Deal) (k : Gate) → length (deal_sends D (if_deals k gate_routes)) ≡ 12 * dealing k
unfolding if_deals deal_sends dealing
gate_many D (XOR i j) = refl
gate_many D (AND i j) = refl
gate_many D (OR i j) = refl
gate_many D (NOT i) = refl

module _ (R : Ops) (C : Circuit) (x : ℕ → ℕ) (T : Draws) (E : Errors) where
  ins_many : (i : ℕ) → length (ins_sends R C x T E i) ≡ at_input i
  unfolding ins_sends deal_sends at_input
  ins_many zero = refl
  ins_many (suc i) = length-append (ins_sends R C x T E i) _ ∙ (let k = ins_many i in omega arith)

  gates_many : (g : ℕ) → length (gates_sends R C x T E g) ≡ at_gate C g
  unfolding gates_sends ands at_input at_gate
  gates_many zero = let k = ins_many C.ins in omega arith
  gates_many (suc g) =
      length-append (gates_sends R C x T E g) _ ∙ (let k = gates_many g in let q = gate_many (own_deal R C x T E g) (C.gate g) in omega arith)

  sends_many : (n : ℕ) → length (sends R C x T E n) ≡ at_output C n
  unfolding sends opening_sends at_gate at_output
  sends_many zero = let k = gates_many C.gates in omega arith
  sends_many (suc n) = length-append (sends R C x T E n) _ ∙ (let k = sends_many n in omega arith)

  pub sends_length : (n : ℕ) → length (sends R C x T E n) ≡ length (routes C n)
  sends_length n = sends_many n ∙ sym (routes_length C n)

  -- more openings change nothing in front
  sends_front : (n m : ℕ) → n ≤ m → (k : ℕ) → k < at_output C n → get_or (sends R C x T E m) k 0 ≡ get_or (sends R C x T E n) k 0
  unfolding sends at_output
  sends_front n zero q k h = ap (λ (z : ℕ). get_or (sends R C x T E z) k 0) (let p : zero ≡ n = omega arith in p)
  sends_front n (suc m) q k h =
      ⊎_elim (λ e. ap (λ (z : ℕ). get_or (sends R C x T E z) k 0) (sym e))
      (λ e. get_or-append (sends R C x T E m) _ 0 k (let w = sends_many m in omega arith) ∙ sends_front n m (le_of_suc-le-suc e) k h) (eq-or-lt_of_le q)

-- 01: "The line is one byte per sent bit, xored onto it."
module _ (R : Ops) (C : Circuit) (x : ℕ → ℕ) (T : Draws) (l : List ℕ) where
  abbrev E : Errors
  E = errors C l

  abbrev line : ℕ → ℕ
  line k = get_or l k 0

  -- a step's bits stand on the line where those before it end
  step : (n : ℕ) (ss cs : List ℕ) {ds bs : List ℕ} → ds ≡ along_line R line ss → length ss ≡ n → bs ≡ along_line R (later line n) cs → ds ++ bs ≡ along_line R line (ss ++ cs)
  step n ss cs p q r = ap₂ ◌++◌ p (r ∙ ap (λ (m : ℕ). along_line R (later line m) cs) (sym q)) ∙ sym (along_line_append R line ss cs)

  ins_along : (i : ℕ) → ins_delivered R C x T E i ≡ along_line R line (ins_sends R C x T E i)
  unfolding ins_delivered ins_sends along_line errors
  ins_along zero = refl
  ins_along (suc i) =
      let D : Deal = deal R (x i) (T.in1 i) (T.in2 i) in
      step (at_input i) (ins_sends R C x T E i) (deal_sends (λ s. D) (deal_routes (C.owner i)))
      (ins_along i) (ins_many R C x T E i) ((sent_by_its_sender R (E.on_input i)).0 (C.owner i) D)

  gates_along : (g : ℕ) → gates_delivered R C x T E g ≡ along_line R line (gates_sends R C x T E g)
  unfolding gates_delivered gates_sends own_deal errors
  gates_along zero = ins_along C.ins
  gates_along (suc g) =
      step (at_gate C g) (gates_sends R C x T E g) (deal_sends (own_deal R C x T E g) (if_deals (C.gate g) gate_routes))
      (gates_along g) (gates_many R C x T E g) (gate_sent R (E.on_gate g) (T.g1 g) (T.g2 g) (C.gate g) (after R C x T E g))

  pub sent_along_line : (n : ℕ) → opens_delivered R C x T E n ≡ along_line R line (sends R C x T E n)
  unfolding opens_delivered out_delivered sends errors
  sent_along_line zero = gates_along C.gates
  sent_along_line (suc o) =
      step (at_output C o) (sends R C x T E o) (opening_sends (output R C x T E o) open_routes)
      (sent_along_line o) (sends_many R C x T E o) ((sent_by_its_sender R (E.on_output o)).2 (output R C x T E o))

  -- of the bits delivered with n openings, for the bits sent with m, which has them in front
  pub delivered_is_sent : (n m : ℕ) → n ≤ m → (k : ℕ) → k < at_output C n
      → get_or (opens_delivered R C x T E n) k 0 ≡ R.add (get_or (sends R C x T E m) k 0) (get_or l k 0)
  delivered_is_sent n m q k h =
      ap (λ (z : List ℕ). get_or z k 0) (sent_along_line n)
      ∙ along_line_at R line (sends R C x T E n) k (let w = sends_many R C x T E n in omega arith)
      ∙ ap (λ (b : ℕ). R.add b (get_or l k 0)) (sym (sends_front R C x T E n m q k h))
