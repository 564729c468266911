-- Where a run stops, and what the transcript holds. For every line.
--     sent_length        the bits delivered with n openings: 4I + 12A + 6n
--     sent_at            the six bits of an opening stand at its place
--     named_is           a sum of objecting sites names exactly the sites that got unlike copies
--     objects_none       it is 0 exactly where there is none
--     stop_at, stop_none, stop_le    the first output at which a site objects, or O
--     quiet_made         a run that nobody stops opens every output
--     outputs_length, outputs_at    three bits an output, those that the sites opened
-- Assumes nothing.
use mathlib.Core.Path.{◌≡◌, refl, sym, ap, ◌∙◌}
use mathlib.Core.Bool.{Bool, true, false, not, cond}
use mathlib.Core.Logic.{⊎_elim}
use mathlib.Core.List.{List, [], ◌∷◌, ◌++◌}
use Prim.Native.Nat.{ℕ, zero, suc, ◌+◌, ◌*◌, ◌<◌, ◌≤◌}
use native.Mathlib.Omega.{arith}
use native.Mathlib.Nat.{eq-or-lt_of_le, le_of_suc-le-suc}
use lib.ListN.{length, get_or, length-append, get_or-append}
use lib.Seq.{get_or-append-add}
use lib.Dec.{eqb}
use borrow.Author.Tests.{eq-eqb, ne_eqb, eqb-true, eqb-false, not-true, not-false}
use Rattle.theory_sharing.specs.Ops.{Ops}
use Rattle.theory_sharing.specs.Sites.{Site, s1, s2, s3, sites_before, Trio, of}
use Rattle.theory_sharing.specs.Circuit.{Gate, XOR, AND, OR, NOT, Circuit, Draws, Errors, dealing, ands}
use Rattle.theory_sharing.specs.Steps.{Pair, Wire, delivered, delivered3, gate_delivered, six, objecting, named}
use Rattle.theory_sharing.specs.Run.{ins_after, after, ins_delivered, gates_delivered, out_delivered, objects, stop, opens_delivered, made, opened_at, outputs}
use Rattle.theory_sharing.specs.Line.{at_gate, at_output}
use Rattle.theory_sharing.proofs.SiteLaws.{by_site}
use Rattle.theory_sharing.proofs.FirstLaws.{first_at, first_none, first_le, first_hit, first_before}

-- a list that grows at its end keeps what it has: what was put there at the n'th turn is found at its place
pub grown_at : {A : Type 0} (l f : ℕ → List A) (d : A) → ((n : ℕ) → l (suc n) ≡ l n ++ f n) → (n m : ℕ) → n < m → (k : ℕ) → k < length (f n) → get_or (l m) (length (l n) + k) d ≡ get_or (f n) k d
grown_at l f d h n zero q k r = absurd (omega arith)
grown_at l f d h n (suc m) q k r =
    ⊎_elim (λ e. ap (λ z. get_or (l (suc z)) (length (l n) + k) d) (sym e) ∙ ap (λ z. get_or z (length (l n) + k) d) (h n) ∙ get_or-append-add (l n) (f n) k d)
    (λ e. ap (λ z. get_or z (length (l n) + k) d) (h m)
    ∙ get_or-append (l m) (f m) d (length (l n) + k) (grows m e)
    ∙ grown_at l f d h n m e k r)
    (eq-or-lt_of_le (le_of_suc-le-suc q))
  where
    more : (j : ℕ) → length (l (suc j)) ≡ length (l j) + length (f j)
    more j = ap length (h j) ∙ length-append (l j) (f j)

    grows : (j : ℕ) → n < j → length (l n) + k < length (l j)
    grows zero e = absurd (omega arith)
    grows (suc j) e =
        ⊎_elim (λ p. let z : length (l (suc n)) ≡ length (l (suc j)) = ap (λ (z : ℕ). length (l (suc z))) p in let y = more n in omega arith)
        (λ p. let z = grows j p in let y = more j in omega arith) (eq-or-lt_of_le (le_of_suc-le-suc e))

gate_length : (R : Ops) (e : ℕ → ℕ) (a b : Site → ℕ) (k : Gate) (ws : List Wire) → length (gate_delivered R e a b k ws) ≡ 12 * dealing k
unfolding gate_delivered delivered3 delivered dealing
gate_length R e a b (XOR i j) ws = refl
gate_length R e a b (AND i j) ws = refl
gate_length R e a b (OR i j) ws = refl
gate_length R e a b (NOT i) ws = refl

-- the weights of the sites that object, each once
module _ (u v w : Bool) where
  abbrev weights : ℕ
  weights = cond u 0 1 + cond v 0 2 + cond w 0 4

weights_named : (u v w : Bool) (s : Site) → named s (weights u v w) ≡ not (of (record { at1 = u; at2 = v; at3 = w }) s)
unfolding named
weights_named true true true = by_site _ refl refl refl
weights_named true true false = by_site _ refl refl refl
weights_named true false true = by_site _ refl refl refl
weights_named true false false = by_site _ refl refl refl
weights_named false true true = by_site _ refl refl refl
weights_named false true false = by_site _ refl refl refl
weights_named false false true = by_site _ refl refl refl
weights_named false false false = by_site _ refl refl refl

weights_none : (u v w : Bool) → weights u v w ≡ 0 → (u ≡ true) × (v ≡ true) × (w ≡ true)
weights_none true true true e = (refl, refl, refl)
weights_none true true false e = absurd (omega arith)
weights_none true false true e = absurd (omega arith)
weights_none true false false e = absurd (omega arith)
weights_none false true true e = absurd (omega arith)
weights_none false true false e = absurd (omega arith)
weights_none false false true e = absurd (omega arith)
weights_none false false false e = absurd (omega arith)

-- a sum names exactly the sites with unlike copies
pub named_is : (c : Trio Pair) (s : Site) → named s (objecting c) ≡ not (eqb (of c s).0 (of c s).1)
unfolding objecting
named_is c =
    let h = weights_named (eqb c.at1.0 c.at1.1) (eqb c.at2.0 c.at2.1) (eqb c.at3.0 c.at3.1) in
    by_site (λ s. named s (objecting c) ≡ not (eqb (of c s).0 (of c s).1)) (h s1) (h s2) (h s3)

weights_small : (u v w : Bool) → weights u v w < 8
weights_small u v w = let a = one u 1 in let b = one v 2 in let c = one w 4 in omega arith
  where
    one : (u : Bool) (n : ℕ) → cond u 0 n ≤ n
    one true n = omega arith
    one false n = omega arith

pub objecting_small : (c : Trio Pair) → objecting c < 8
unfolding objecting
objecting_small c = weights_small (eqb c.at1.0 c.at1.1) (eqb c.at2.0 c.at2.1) (eqb c.at3.0 c.at3.1)

-- nobody objects: every site got the same bit twice
pub objects_none : (c : Trio Pair) → objecting c ≡ 0 → (s : Site) → (of c s).0 ≡ (of c s).1
unfolding objecting
objects_none c e =
    let h = weights_none (eqb c.at1.0 c.at1.1) (eqb c.at2.0 c.at2.1) (eqb c.at3.0 c.at3.1) e in
    by_site (λ s. (of c s).0 ≡ (of c s).1) (eqb-true _ _ h.0) (eqb-true _ _ h.1) (eqb-true _ _ h.2)

pub alike_none : (c : Trio Pair) → ((s : Site) → (of c s).0 ≡ (of c s).1) → objecting c ≡ 0
unfolding objecting
alike_none c h = rw (eq-eqb _ _ (h s1), eq-eqb _ _ (h s2), eq-eqb _ _ (h s3))

module _ (R : Ops) (C : Circuit) (x : ℕ → ℕ) (T : Draws) (E : Errors) where
  pub ins_length : (i : ℕ) → length (ins_delivered R C x T E i) ≡ 4 * i
  unfolding ins_delivered delivered
  ins_length zero = refl
  ins_length (suc i) = length-append (ins_delivered R C x T E i) _ ∙ (let k = ins_length i in omega arith)

  pub gates_length : (g : ℕ) → length (gates_delivered R C x T E g) ≡ at_gate C g
  unfolding gates_delivered ands at_gate
  gates_length zero = let k = ins_length C.ins in omega arith
  gates_length (suc g) =
      length-append (gates_delivered R C x T E g) _
      ∙ (let k = gates_length g in let q = gate_length R (E.on_gate g) (T.g1 g) (T.g2 g) (C.gate g) (after R C x T E g) in omega arith)

  pub sent_length : (n : ℕ) → length (opens_delivered R C x T E n) ≡ at_output C n
  unfolding opens_delivered out_delivered six at_output at_gate
  sent_length zero = let k = gates_length C.gates in omega arith
  sent_length (suc n) = length-append (opens_delivered R C x T E n) _ ∙ (let k = sent_length n in omega arith)

  -- the bits of an opening, read from the transcript
  pub sent_at : (o n : ℕ) → o < n → (k : ℕ) → k < 6 → get_or (opens_delivered R C x T E n) (at_output C o + k) 0 ≡ get_or (out_delivered R C x T E o) k 0
  unfolding opens_delivered out_delivered six
  sent_at o n h k q =
      ap (λ (z : ℕ). get_or (opens_delivered R C x T E n) (z + k) 0) (sym (sent_length o))
      ∙ grown_at (opens_delivered R C x T E) (out_delivered R C x T E) 0 (λ m. refl) o n h k q

  -- the test of an output: some site objects
  abbrev stops_at : ℕ → Bool
  stops_at o = not (eqb (objects R C x T E o) 0)

  quiet_test : (o : ℕ) → objects R C x T E o ≡ 0 → stops_at o ≡ false
  quiet_test o e = rw (eq-eqb _ _ e)

  loud_test : (o : ℕ) → (objects R C x T E o ≡ 0 → ⊥) → stops_at o ≡ true
  loud_test o e = rw (ne_eqb _ _ e)

  pub stop_le : stop R C x T E ≤ C.outs
  unfolding stop
  stop_le = first_le _ C.outs

  -- nobody objects before the stop
  pub stop_before : (p : ℕ) → p < stop R C x T E → objects R C x T E p ≡ 0
  unfolding stop
  stop_before p h = eqb-true _ _ (not-false _ (first_before stops_at C.outs p h))

  -- somebody does there
  pub stop_loud : stop R C x T E < C.outs → objects R C x T E (stop R C x T E) ≡ 0 → ⊥
  unfolding stop
  stop_loud h = eqb-false _ _ (not-true _ (first_hit stops_at C.outs h))

  pub stop_at : (o : ℕ) → o < C.outs → ((p : ℕ) → p < o → objects R C x T E p ≡ 0) → (objects R C x T E o ≡ 0 → ⊥) → stop R C x T E ≡ o
  unfolding stop
  stop_at o h q l = first_at stops_at o C.outs (λ p k. quiet_test p (q p k)) h (loud_test o l)

  pub stop_none : ((p : ℕ) → p < C.outs → objects R C x T E p ≡ 0) → stop R C x T E ≡ C.outs
  unfolding stop
  stop_none q = first_none stops_at C.outs (λ p k. quiet_test p (q p k))

  pub quiet_made : stop R C x T E ≡ C.outs → made R C x T E ≡ C.outs
  unfolding made
  quiet_made e = omega arith

  pub stopped_made : stop R C x T E < C.outs → made R C x T E ≡ suc (stop R C x T E)
  unfolding made
  stopped_made h = omega arith

  pub made_le : made R C x T E ≤ C.outs
  unfolding made
  made_le = omega arith

  pub ins_many : (i : ℕ) → length (ins_after R C x T E i) ≡ i
  unfolding ins_after
  ins_many zero = refl
  ins_many (suc i) = length-append (ins_after R C x T E i) _ ∙ (let k = ins_many i in omega arith)

  -- a pair of each site for every wire
  pub after_length : (g : ℕ) → length (after R C x T E g) ≡ C.ins + g
  unfolding after
  after_length zero = let k = ins_many C.ins in omega arith
  after_length (suc g) = length-append (after R C x T E g) _ ∙ (let k = after_length g in omega arith)

  -- 01: "A good run writes 3O bytes, for each output what site 1, 2 and 3 opened."
  pub outputs_length : (n : ℕ) → length (outputs R C x T E n) ≡ 3 * n
  unfolding outputs
  outputs_length zero = refl
  outputs_length (suc n) = length-append (outputs R C x T E n) _ ∙ (let k = outputs_length n in omega arith)

  pub outputs_at : (o n : ℕ) → o < n → (s : Site) → get_or (outputs R C x T E n) (3 * o + sites_before s) 0 ≡ of (opened_at R C x T E o) s
  unfolding outputs
  outputs_at o n h = by_site (λ s. get_or (outputs R C x T E n) (3 * o + sites_before s) 0 ≡ of (opened_at R C x T E o) s) (at 0 (omega arith)) (at 1 (omega arith)) (at 2 (omega arith))
    where
      three : ℕ → List ℕ
      three m = (opened_at R C x T E m).at1 ∷ (opened_at R C x T E m).at2 ∷ (opened_at R C x T E m).at3 ∷ []

      at : (k : ℕ) → k < 3 → get_or (outputs R C x T E n) (3 * o + k) 0 ≡ get_or (three o) k 0
      at k q =
          ap (λ (z : ℕ). get_or (outputs R C x T E n) (z + k) 0) (sym (outputs_length o))
          ∙ grown_at (outputs R C x T E) three 0 (λ m. refl) o n h k q
