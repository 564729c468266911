-- The pass over the gates is the document's.
--     flip_none, flip_one     part 1 with 0 added, and with 1
--     and_both                AND and OR, with o for the flips
--     gate_law                one gate: from state g to state (suc g)
--     gates-law               all of them
-- Assumes nothing.
use mathlib.Core.Path.{◌≡◌, refl, sym, ap, ap₂, ◌∙◌}
use mathlib.Core.List.{List, [], ◌∷◌, ◌++◌, map, append-nil}
use Prim.Native.Nat.{ℕ, suc, ◌+◌, ◌*◌, ◌≤◌, ◌<◌}
use native.Mathlib.Omega.{arith}
use lib.ListN.{length, get_or}
use lib.Bits.{xor_zero_r}
use Rattle.theory_sharing.specs.Ops.{bits}
use Rattle.theory_sharing.specs.Sites.{Site, s1, s2, s3, next, prev}
use Rattle.theory_sharing.specs.Circuit.{Gate, XOR, AND, OR, NOT, Circuit, Draws, dealing, ands, all_owned}
use Rattle.theory_sharing.specs.Values.{values}
use Rattle.theory_sharing.specs.Order.{if_deals}
use Rattle.theory_sharing.specs.Published.{Parts, gate_parts, parts}
use Rattle.theory_sharing.specs.Steps.{Pair, add_pair, local}
use Rattle.theory_sharing.specs.Tapes.{draws, tape}
use Rattle.theory_sharing.specs.Retape.{mine, rest, next_product, flip_mine, next_shares, retape}
use Rattle.theory_sharing.specs.Store.{fill}
use Rattle.theory_sharing.proofs.BitLaws.{bit_group}
use Rattle.theory_sharing.proofs.Parts.{value, parts_ok}
use Rattle.theory_sharing.proofs.SiteLaws.{by_site}
use Rattle.theory_sharing.proofs.TapeLaws.{gates_length}
use Rattle.theory_sharing.proofs.Mine.{product_mine, gate_mine, gate_mine_is, look_mine, shift_behind}
use Rattle.theory_calls.proofs.RunCall.{bit_draws}
use Rattle.run_messages.specs.Mirror.{two, pair_of}
use Rattle.run_messages.specs.declared.Two.{Two}
use Rattle.run_passes.specs.Mirror.{Lower}
use Rattle.run_laws.proofs.FillLaws.{fill_two}
use Rattle.retape_pairs.specs.declared.Places.{Places}
use Rattle.retape_pairs.specs.declared.Mixed.{Mixed}
use Rattle.retape_pairs.specs.Mirror.{St, st, places, further, flip_by, flipped, mixed, Operand, operand_at, put_two, wire_in, put_wire, and_on, xor_on, not_on, gate_on}
use Rattle.retape_pairs.proofs.PairLaws.{places_eq}
use Rattle.retape_passes.specs.Mirror.{around, room_with, state}
use Rattle.retape_passes.proofs.StateLaws.{parts_many, st_eq, wire_get, value_get, wire_put, at_own, at_next, at_prev}

flip_none : (s : Site) (p : Pair) → flip_by s 0 p ≡ p
flip_none s1 p = λ i. (xor_zero_r p.0 i, p.1)
flip_none s2 p = refl
flip_none s3 p = λ i. (p.0, xor_zero_r p.1 i)

flip_one : (s : Site) (p : Pair) → flip_by s 1 p ≡ flip_mine bits s p
flip_one s p = by_site (λ s. flip_by s 1 p ≡ flip_mine bits s p) refl refl refl s

module _ (s : Site) (C : Circuit) (x y : ℕ → ℕ) (own nx pv B old fresh : List ℕ) where
  abbrev T : Draws
  T = draws C (around s own nx pv)

  abbrev T' : Draws
  T' = retape bits s C x y T

  abbrev at_state : ℕ → St
  at_state g = state s C x y own nx pv B old fresh g

  module _ (g : ℕ) where
    abbrev m : ℕ
    m = ands C.gate g

    abbrev ps : List Parts
    ps = parts bits C x T g

    abbrev ms : List Pair
    ms = map (mine s) ps

    abbrev vs : List ℕ
    vs = values bits C x g

    abbrev us : List ℕ
    us = values bits C y g

    abbrev written : List ℕ
    written = tape C T' (next s) g

    abbrev here : Places
    here = places (2 * (all_owned C s + m)) (2 * (all_owned C (next s) + m)) (2 * (all_owned C (prev s) + m))

    abbrev next_places : ℕ → Places
    next_places k = places (2 * (all_owned C s + (m + k))) (2 * (all_owned C (next s) + (m + k))) (2 * (all_owned C (prev s) + (m + k)))

    -- the state after g gates and this one
    unfoldable next_state : Gate → St
    next_state k =
        st (room_with s B old (ps ++ (gate_parts bits (T.g1 g) (T.g2 g) k ps ∷ []))) (fill fresh (written ++ if_deals k (T'.g1 g (next s) ∷ T'.g2 g (next s) ∷ [])))
        (next_places (dealing k))

    next_suc : next_state (C.gate g) ≡ at_state (suc g)
    unfolding next_state state parts tape ands
    next_suc = refl

    forwards : further here 2 ≡ next_places 1
    forwards = places_eq (omega arith) (omega arith) (omega arith)

    stays : here ≡ next_places 0
    stays = places_eq (omega arith) (omega arith) (omega arith)

    -- the draws
    first_own : get_or own here.own 0 ≡ T.g1 g s
    unfolding draws
    first_own = ap (λ (l : List ℕ). get_or l here.own 0) (sym (at_own s own nx pv))

    second_own : get_or own (here.own + 1) 0 ≡ T.g2 g s
    unfolding draws
    second_own = ap (λ (l : List ℕ). get_or l (here.own + 1) 0) (sym (at_own s own nx pv))

    first_next : get_or nx here.next 0 ≡ T.g1 g (next s)
    unfolding draws
    first_next = ap (λ (l : List ℕ). get_or l here.next 0) (sym (at_next s own nx pv))

    second_next : get_or nx (here.next + 1) 0 ≡ T.g2 g (next s)
    unfolding draws
    second_next = ap (λ (l : List ℕ). get_or l (here.next + 1) 0) (sym (at_next s own nx pv))

    first_prev : get_or pv here.prev 0 ≡ T.g1 g (prev s)
    unfolding draws
    first_prev = ap (λ (l : List ℕ). get_or l here.prev 0) (sym (at_prev s own nx pv))

    second_prev : get_or pv (here.prev + 1) 0 ≡ T.g2 g (prev s)
    unfolding draws
    second_prev = ap (λ (l : List ℕ). get_or l (here.prev + 1) 0) (sym (at_prev s own nx pv))

    module _ (p q : Operand) where
      abbrev mix : Mixed
      mix = mixed own nx pv here p q

      mix_pair : pair_of mix.pair ≡ product_mine bit_group s (T.g1 g) (T.g2 g) (pair_of p.pair) p.first (pair_of q.pair) q.first
      unfolding mixed product_mine
      mix_pair = λ i. (
        bits.add (rest bits (local bits (pair_of p.pair) (pair_of q.pair)) (first_own i) (second_own i)) (bits.add (second_next i) (first_prev i)),
        bits.add (first_own i) (bits.add (rest bits (next_product bits (pair_of p.pair) p.first (pair_of q.pair) q.first) (first_next i) (second_next i)) (second_prev i)),
      )

      mix_first : mix.first ≡ bits.add (T.g1 g (next s)) (bits.sub (next_product bits (pair_of p.pair) p.second (pair_of q.pair) q.second) (next_product bits (pair_of p.pair) p.first (pair_of q.pair) q.first))
      unfolding mixed
      mix_first = ap (λ (d : ℕ). bits.add d (bits.sub (next_product bits (pair_of p.pair) p.second (pair_of q.pair) q.second) (next_product bits (pair_of p.pair) p.first (pair_of q.pair) q.first))) first_next

      mix_second : mix.second ≡ T.g2 g (next s)
      unfolding mixed
      mix_second = second_next

    -- the site's pair of the new wire
    made : (k : Gate) → mine s (gate_parts bits (T.g1 g) (T.g2 g) k ps) ≡ gate_mine bit_group s (T.g1 g) (T.g2 g) k ms vs
    made k =
        gate_mine_is bit_group s (T.g1 g) (T.g2 g) k ps (parts_ok bit_group C x T (bit_draws T) g)
        ∙ ap (gate_mine bit_group s (T.g1 g) (T.g2 g) k ms) (value bit_group C x T (λ i. tt) g)

    -- the next site's draws anew
    moves : (k : Gate) → C.gate g ≡ k
        → T'.g1 g (next s) ≡ bits.add (T.g1 g (next s)) (bits.sub (next_shares bits s k ms us) (next_shares bits s k ms vs))
    unfolding retape
    moves k e =
        shift_behind bit_group (T.g1 g (next s)) _ s
        ∙ ap (λ (z : Gate). bits.add (T.g1 g (next s)) (bits.sub (next_shares bits s z ms us) (next_shares bits s z ms vs))) e

    rests : T'.g2 g (next s) ≡ T.g2 g (next s)
    unfolding retape
    rests = refl

    module _ (n : ℕ) (hB : length B ≡ 2 * n) (ho : length old ≡ 2 * n) (hw : C.ins + g < n)
        (hx : (a : ℕ) → a < C.ins + g → get_or B a 0 ≡ get_or vs a 0) (hy : (a : ℕ) → a < C.ins + g → get_or B (n + a) 0 ≡ get_or us a 0) where
      abbrev room : List ℕ
      room = room_with s B old ps

      abbrev w : ℕ
      w = C.ins + g

      many : length ps ≡ w
      many = parts_many C x T g

      wire_is : (a : ℕ) → a < w → wire_in n a room ≡ get_or ms a (0, 0)
      wire_is a h = let k = many in wire_get s n B old hB ho ps a (omega arith) (omega arith) ∙ look_mine bit_group s ps a

      first_is : (a : ℕ) → a < w → get_or room a 0 ≡ get_or vs a 0
      first_is a h = value_get s n B old hB ho ps a (omega arith) ∙ hx a h

      second_is : (a : ℕ) → a < w → get_or room (n + a) 0 ≡ get_or us a 0
      second_is a h = value_get s n B old hB ho ps (n + a) (omega arith) ∙ hy a h

      put : (k : Gate) (v : Pair) → v ≡ gate_mine bit_group s (T.g1 g) (T.g2 g) k ms vs
          → put_wire n w v room ≡ room_with s B old (ps ++ (gate_parts bits (T.g1 g) (T.g2 g) k ps ∷ []))
      put k v q = wire_put s n B old hB ho ps w (gate_parts bits (T.g1 g) (T.g2 g) k ps) v many hw (q ∙ sym (made k))

      -- AND and OR, of wires with these pairs and values
      module _ (o a b : ℕ) (ha : a < w) (hb : b < w) where
        abbrev P : Pair
        P = flip_by s o (get_or ms a (0, 0))

        abbrev Q : Pair
        Q = flip_by s o (get_or ms b (0, 0))

        abbrev new_pair : Pair
        new_pair = flip_by s o (product_mine bit_group s (T.g1 g) (T.g2 g) P (bits.add (get_or vs a 0) o) Q (bits.add (get_or vs b 0) o))

        abbrev new_first : ℕ
        new_first =
            bits.add (T.g1 g (next s)) (bits.sub (next_product bits P (bits.add (get_or us a 0) o) Q (bits.add (get_or us b 0) o))
            (next_product bits P (bits.add (get_or vs a 0) o) Q (bits.add (get_or vs b 0) o)))

        abbrev flip2 : Pair → Two
        flip2 z = flipped s o (two z.0 z.1)

        abbrev with_values : Pair → ℕ → ℕ → Operand
        with_values z u v = record { pair = flip2 z; first = bits.add u o; second = bits.add v o }

        abbrev at_a : Operand
        at_a = with_values (get_or ms a (0, 0)) (get_or vs a 0) (get_or us a 0)

        abbrev at_b : Operand
        at_b = with_values (get_or ms b (0, 0)) (get_or vs b 0) (get_or us b 0)

        abbrev after_mix : Mixed → St
        after_mix z = st (put_wire n w (pair_of (flipped s o z.pair)) room) (put_two here.next z.first z.second (fill fresh written)) (further here 2)

        -- what the code reads is what the document has
        reads : and_on s own nx pv n a b w o (at_state g) ≡ after_mix (mixed own nx pv here at_a at_b)
        unfolding and_on operand_at state
        reads = λ i. after_mix (mixed own nx pv here (with_values (wire_is a ha i) (first_is a ha i) (second_is a ha i)) (with_values (wire_is b hb i) (first_is b hb i) (second_is b hb i)))

        mixes : after_mix (mixed own nx pv here at_a at_b)
            ≡ st (put_wire n w new_pair room) (put_two here.next new_first (T.g2 g (next s)) (fill fresh written)) (further here 2)
        unfolding flipped
        mixes =
            let e = mix_pair at_a at_b in
            let f = mix_first at_a at_b in
            let h = mix_second at_a at_b in
            λ i. st (put_wire n w (flip_by s o (e i)) room) (put_two here.next (f i) (h i) (fill fresh written)) (further here 2)

        pub and_both : and_on s own nx pv n a b w o (at_state g)
            ≡ st (put_wire n w new_pair room) (put_two here.next new_first (T.g2 g (next s)) (fill fresh written)) (further here 2)
        and_both = reads ∙ mixes

      -- the new tape, written on
      tape_on : (k : Gate) (d : ℕ) → C.gate g ≡ k → here.next + 2 ≤ length fresh
          → d ≡ bits.add (T.g1 g (next s)) (bits.sub (next_shares bits s k ms us) (next_shares bits s k ms vs))
          → put_two here.next d (T.g2 g (next s)) (fill fresh written) ≡ fill fresh (written ++ (T'.g1 g (next s) ∷ T'.g2 g (next s) ∷ []))
      unfolding put_two
      tape_on k d e h q =
          fill_two fresh written here.next _ _ (gates_length C T' (next s) g) h
          ∙ ap₂ (λ (a b : ℕ). fill fresh (written ++ (a ∷ b ∷ []))) (q ∙ sym (moves k e)) (sym rests)

      kind_law : (k : Gate) → C.gate g ≡ k → Lower k w → here.next + 2 * dealing k ≤ length fresh → gate_on s own nx pv n w k (at_state g) ≡ next_state k
      unfolding gate_on state next_state xor_on not_on flipped dealing if_deals gate_mine next_shares
      kind_law (XOR a b) q l h =
          st_eq (put (XOR a b) _ (ap₂ (add_pair bits) (wire_is a l.0) (wire_is b l.1))) (ap (fill fresh) (sym (append-nil written))) stays
      kind_law (AND a b) q l h =
          let v0 : (z : ℕ) → bits.add z 0 ≡ z = xor_zero_r in
          let z0 : (z : Pair) → flip_by s 0 z ≡ z = flip_none s in
          and_both 0 a b l.0 l.1
          ∙ st_eq (put (AND a b) _ (rw (z0 (get_or ms a (0, 0)), z0 (get_or ms b (0, 0)), v0 (get_or vs a 0), v0 (get_or vs b 0)) (z0 _)))
          (tape_on (AND a b) _ q h (rw (z0 (get_or ms a (0, 0)), z0 (get_or ms b (0, 0)), v0 (get_or vs a 0), v0 (get_or vs b 0), v0 (get_or us a 0), v0 (get_or us b 0)))) forwards
      kind_law (OR a b) q l h =
          let z1 : (z : Pair) → flip_by s 1 z ≡ flip_mine bits s z = flip_one s in
          and_both 1 a b l.0 l.1
          ∙ st_eq (put (OR a b) _ (rw (z1 (get_or ms a (0, 0)), z1 (get_or ms b (0, 0))) (z1 _)))
          (tape_on (OR a b) _ q h (rw (z1 (get_or ms a (0, 0)), z1 (get_or ms b (0, 0))))) forwards
      kind_law (NOT a) q l h =
          st_eq (put (NOT a) _ (flip_one s _ ∙ ap (flip_mine bits s) (wire_is a l.0))) (ap (fill fresh) (sym (append-nil written))) stays

      pub gate_law : Lower (C.gate g) w → here.next + 2 * dealing (C.gate g) ≤ length fresh → gate_on s own nx pv n w (C.gate g) (at_state g) ≡ at_state (suc g)
      gate_law l h = kind_law (C.gate g) refl l h ∙ next_suc
