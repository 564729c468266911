-- The work room between the steps, and the pass over the inputs.
--     ins_many, parts_many            a wire for each input, and for each gate
--     wire_get, value_get, wire_put   a wire's pair and a value, read; a wire's pair, written
--     at_own, at_next, at_prev        the tapes as a site sees them
--     in_law                          one input: from in_state i to in_state (suc i)
--     in_start                        where the pass begins
-- Assumes nothing.
use mathlib.Core.Path.{◌≡◌, refl, sym, ap, ap₂, ◌∙◌}
use mathlib.Core.Bool.{Bool, true, false, cond}
use mathlib.Core.List.{List, [], ◌∷◌, ◌++◌, append-nil}
use Prim.Native.Nat.{ℕ, zero, suc, ◌+◌, ◌*◌, ◌-◌, ◌≤◌, ◌<◌}
use native.Mathlib.Omega.{arith}
use lib.ListN.{length, get_or, take, drop, length-append, get_or-append, take-append-drop}
use Rattle.theory_sharing.specs.Ops.{bits}
use Rattle.theory_sharing.specs.Sites.{Site, next, prev, of, is, if_own}
use Rattle.theory_sharing.specs.Circuit.{Circuit, Draws, owned}
use Rattle.theory_sharing.specs.Published.{Parts, no_parts, share, ins_parts, parts}
use Rattle.theory_sharing.specs.Steps.{Pair}
use Rattle.theory_sharing.specs.Tapes.{draws, ins_tape}
use Rattle.theory_sharing.specs.Retape.{mine, rest, shift, retape}
use Rattle.theory_sharing.specs.Store.{side, fill}
use Rattle.theory_sharing.proofs.BitLaws.{bit_group}
use Rattle.theory_sharing.proofs.SiteLaws.{Seen, itself, behind, before, seen, by_site, is_itself, is_behind, is_before, own_itself}
use Rattle.theory_sharing.proofs.TapeLaws.{ins_length}
use Rattle.theory_sharing.proofs.Mine.{share_itself, share_behind, share_before, shift_behind}
use Rattle.run_site.specs.Mirror.{pair_at, put_at}
use Rattle.run_laws.proofs.FillLaws.{fill_two}
use Rattle.run_laws.proofs.PartLaws.{pair_eq, pair_read, pair_put, part_length, lent_middle, on_middle}
use Rattle.retape_pairs.specs.declared.Places.{Places}
use Rattle.retape_pairs.specs.Mirror.{St, st, places, put_two, wire_in, put_wire}
use Rattle.retape_pairs.proofs.PairLaws.{places_eq}
use Rattle.retape_passes.specs.Mirror.{around, input_on, room_with, in_state}

-- ---- how many wires
module _ (C : Circuit) (x : ℕ → ℕ) (T : Draws) where
  pub ins_many : (i : ℕ) → length (ins_parts bits C x T i) ≡ i
  unfolding ins_parts
  ins_many zero = refl
  ins_many (suc i) = length-append (ins_parts bits C x T i) _ ∙ (let k = ins_many i in omega arith)

  pub parts_many : (g : ℕ) → length (parts bits C x T g) ≡ C.ins + g
  unfolding parts
  parts_many zero = ins_many C.ins ∙ (let e : C.ins ≡ C.ins + 0 = omega arith in e)
  parts_many (suc g) = length-append (parts bits C x T g) _ ∙ (let k = parts_many g in omega arith)

pub st_eq : {a b c d : List ℕ} {p q : Places} → a ≡ c → b ≡ d → p ≡ q → st a b p ≡ st c d q
st_eq p q r = λ i. st (p i) (q i) (r i)

-- ---- the work room
module _ (s : Site) (n : ℕ) (B old : List ℕ) (hB : length B ≡ 2 * n) (ho : length old ≡ 2 * n) where
  none_mine : mine s no_parts ≡ (0, 0)
  none_mine = by_site (λ s. mine s no_parts ≡ (0, 0)) refl refl refl s

  third_long : (ps : List Parts) → length ps ≤ n → length (fill old (side (mine s) ps)) ≡ 4 * n - 2 * n
  third_long ps h = part_length (mine s) n old ps ho h ∙ (let e : 2 * n ≡ 4 * n - 2 * n = omega arith in e)

  pub wire_get : (ps : List Parts) (a : ℕ) → a < length ps → length ps ≤ n → wire_in n a (room_with s B old ps) ≡ mine s (get_or ps a no_parts)
  unfolding room_with
  wire_get ps a h k =
      ap (λ (l : List ℕ). pair_at l a) (lent_middle (2 * n) (4 * n) B (fill old (side (mine s) ps)) [] hB (third_long ps k))
      ∙ pair_read (mine s) no_parts none_mine old ps a h

  pub value_get : (ps : List Parts) (a : ℕ) → a < 2 * n → get_or (room_with s B old ps) a 0 ≡ get_or B a 0
  unfolding room_with
  value_get ps a h = get_or-append B _ 0 a (omega arith)

  pub wire_put : (ps : List Parts) (w : ℕ) (P : Parts) (v : Pair) → length ps ≡ w → w < n → v ≡ mine s P
      → put_wire n w v (room_with s B old ps) ≡ room_with s B old (ps ++ (P ∷ []))
  unfolding room_with
  wire_put ps w P v e h q =
      on_middle (2 * n) (4 * n) B (fill old (side (mine s) ps)) [] hB (third_long ps (omega arith)) (put_at w v)
      ∙ ap (λ (l : List ℕ). B ++ (l ++ [])) (ap (λ (z : Pair). put_at w z (fill old (side (mine s) ps))) q ∙ pair_put (mine s) old ps w P e (omega arith))

-- ---- the tapes, as a site sees them
module _ (s : Site) (o n p : List ℕ) where
  pub at_own : of (around s o n p) s ≡ o
  at_own = by_site (λ s. of (around s o n p) s ≡ o) refl refl refl s

  pub at_next : of (around s o n p) (next s) ≡ n
  at_next = by_site (λ s. of (around s o n p) (next s) ≡ n) refl refl refl s

  pub at_prev : of (around s o n p) (prev s) ≡ p
  at_prev = by_site (λ s. of (around s o n p) (prev s) ≡ p) refl refl refl s

-- ---- whose an input is
module _ where
  next_not_itself : (s : Site) → is (next s) s ≡ false
  unfolding is
  next_not_itself = by_site (λ s. is (next s) s ≡ false) refl refl refl

  next_not_before : (s : Site) → is (next s) (prev s) ≡ false
  unfolding is
  next_not_before = by_site (λ s. is (next s) (prev s) ≡ false) refl refl refl

  prev_not_itself : (s : Site) → is (prev s) s ≡ false
  unfolding is
  prev_not_itself = by_site (λ s. is (prev s) s ≡ false) refl refl refl

  prev_not_next : (s : Site) → is (prev s) (next s) ≡ false
  unfolding is
  prev_not_next = by_site (λ s. is (prev s) (next s) ≡ false) refl refl refl

more : (o : ℕ) (b : Bool) → b ≡ true → 2 * o + 2 ≡ 2 * (o + cond b 1 0)
more o b e = (let q : 2 * o + 2 ≡ 2 * (o + 1) = omega arith in q) ∙ ap (λ (z : Bool). 2 * (o + cond z 1 0)) (sym e)

none : (o : ℕ) (b : Bool) → b ≡ false → 2 * o ≡ 2 * (o + cond b 1 0)
none o b e = (let q : 2 * o ≡ 2 * (o + 0) = omega arith in q) ∙ ap (λ (z : Bool). 2 * (o + cond z 1 0)) (sym e)

-- nothing is written where the next site deals nothing
unwritten : (fresh l two : List ℕ) (s t : Site) → is s t ≡ false → fill fresh l ≡ fill fresh (l ++ if_own s t two)
unfolding if_own
unwritten fresh l two s t e = ap (fill fresh) (sym (append-nil l) ∙ ap (λ (b : Bool). l ++ cond b two []) (sym e))

-- ---- one input
module _ (s : Site) (C : Circuit) (x y : ℕ → ℕ) (own nx pv B old fresh : List ℕ) where
  abbrev T : Draws
  T = draws C (around s own nx pv)

  abbrev T' : Draws
  T' = retape bits s C x y T

  abbrev at_state : ℕ → St
  at_state i = in_state s C x y own nx pv B old fresh i

  module _ (i : ℕ) where
    abbrev o : Site → ℕ
    o t = owned C.owner t i

    -- the state after input i, of site t
    unfoldable next_in : Site → St
    next_in t =
        st (room_with s B old (ins_parts bits C x T i ++ (share bits t (x i) (T.in1 i) (T.in2 i) ∷ [])))
        (fill fresh (ins_tape C T' (next s) i ++ if_own (next s) t (T'.in1 i ∷ T'.in2 i ∷ [])))
        (places (2 * (o s + cond (is s t) 1 0)) (2 * (o (next s) + cond (is (next s) t) 1 0)) (2 * (o (prev s) + cond (is (prev s) t) 1 0)))

    next_suc : next_in (C.owner i) ≡ at_state (suc i)
    unfolding next_in in_state ins_parts ins_tape owned
    next_suc = refl

    -- the two draws, on the tape of their owner
    drawn1 : (t : Site) (l : List ℕ) → C.owner i ≡ t → of (around s own nx pv) t ≡ l → get_or l (2 * o t) 0 ≡ T.in1 i
    unfolding draws
    drawn1 t l e q = ap (λ (z : List ℕ). get_or z (2 * o t) 0) (sym q) ∙ ap (λ (u : Site). get_or (of (around s own nx pv) u) (2 * o u) 0) (sym e)

    drawn2 : (t : Site) (l : List ℕ) → C.owner i ≡ t → of (around s own nx pv) t ≡ l → get_or l (2 * o t + 1) 0 ≡ T.in2 i
    unfolding draws
    drawn2 t l e q = ap (λ (z : List ℕ). get_or z (2 * o t + 1) 0) (sym q) ∙ ap (λ (u : Site). get_or (of (around s own nx pv) u) (2 * o u + 1) 0) (sym e)

    module _ (n : ℕ) (hB : length B ≡ 2 * n) (ho : length old ≡ 2 * n) (hi : i < n) (hf : 2 * (o (next s) + cond (is (next s) (C.owner i)) 1 0) ≤ length fresh) where
      abbrev done : Bool → Bool → St
      done a b = input_on own nx pv n i (x i) (y i) a b (at_state i)

      put : (t : Site) (v : Pair) → v ≡ mine s (share bits t (x i) (T.in1 i) (T.in2 i))
          → put_wire n i v (room_with s B old (ins_parts bits C x T i)) ≡ room_with s B old (ins_parts bits C x T i ++ (share bits t (x i) (T.in1 i) (T.in2 i) ∷ []))
      put t v q = wire_put s n B old hB ho (ins_parts bits C x T i) i (share bits t (x i) (T.in1 i) (T.in2 i)) v (ins_many C x T i) hi q

      -- of the site itself
      own_in : C.owner i ≡ s → done true (is (next s) s) ≡ next_in s
      unfolding input_on in_state next_in
      own_in e =
          let d = drawn1 s own e (at_own s own nx pv) in let f = drawn2 s own e (at_own s own nx pv) in
          st_eq (put s _ (ap₂ (λ (a b : ℕ). (rest bits (x i) a b, a)) d f ∙ sym (share_itself bit_group s (x i) (T.in1 i) (T.in2 i))))
          (unwritten fresh (ins_tape C T' (next s) i) _ (next s) s (next_not_itself s))
          (places_eq (more (o s) (is s s) (is_itself s)) (none (o (next s)) (is (next s) s) (next_not_itself s)) (none (o (prev s)) (is (prev s) s) (prev_not_itself s)))

      -- of the next one, whose first draw moves
      moves : C.owner i ≡ next s → T'.in1 i ≡ bits.add (T.in1 i) (bits.sub (y i) (x i))
      unfolding retape
      moves e = ap (λ (t : Site). shift bits s t (T.in1 i) (bits.sub (y i) (x i))) e ∙ shift_behind bit_group (T.in1 i) (bits.sub (y i) (x i)) s

      stays : T'.in2 i ≡ T.in2 i
      unfolding retape
      stays = refl

      next_in_is : C.owner i ≡ next s → done false true ≡ next_in (next s)
      unfolding input_on in_state next_in put_two
      next_in_is e =
          let d = drawn1 (next s) nx e (at_next s own nx pv) in let f = drawn2 (next s) nx e (at_next s own nx pv) in
          let l : List ℕ = ins_tape C T' (next s) i in
          let r : 2 * (o (next s) + 1) ≤ length fresh = rw (e, is_itself (next s)) at hf in
          let room : 2 * o (next s) + 2 ≤ length fresh = omega arith in
          st_eq (put (next s) _ (ap₂ (λ (a b : ℕ). (b, rest bits (x i) a b)) d f ∙ sym (share_behind bit_group s (x i) (T.in1 i) (T.in2 i))))
          (fill_two fresh l (2 * o (next s)) _ _ (ins_length C T' (next s) i) room
          ∙ ap₂ (λ (a b : ℕ). fill fresh (l ++ (a ∷ b ∷ []))) (ap (λ (a : ℕ). bits.add a (bits.sub (y i) (x i))) d ∙ sym (moves e)) (f ∙ sym stays)
          ∙ ap (λ (z : List ℕ). fill fresh (l ++ z)) (sym (own_itself (next s) _)))
          (places_eq (none (o s) (is s (next s)) (is_behind s)) (more (o (next s)) (is (next s) (next s)) (is_itself (next s))) (none (o (prev s)) (is (prev s) (next s)) (prev_not_next s)))

      -- of the one before
      prev_in : C.owner i ≡ prev s → done false false ≡ next_in (prev s)
      unfolding input_on in_state next_in
      prev_in e =
          let d = drawn1 (prev s) pv e (at_prev s own nx pv) in let f = drawn2 (prev s) pv e (at_prev s own nx pv) in
          st_eq (put (prev s) _ (pair_eq d f ∙ sym (share_before bit_group s (x i) (T.in1 i) (T.in2 i))))
          (unwritten fresh (ins_tape C T' (next s) i) _ (next s) (prev s) (next_not_before s))
          (places_eq (none (o s) (is s (prev s)) (is_before s)) (none (o (next s)) (is (next s) (prev s)) (next_not_before s)) (more (o (prev s)) (is (prev s) (prev s)) (is_itself (prev s))))

      by_owner : (t : Site) → Seen s t → C.owner i ≡ t → done (is s t) (is (next s) t) ≡ next_in t
      by_owner t itself e = ap (λ (b : Bool). done b (is (next s) s)) (is_itself s) ∙ own_in e
      by_owner t behind e = ap₂ done (is_behind s) (is_itself (next s)) ∙ next_in_is e
      by_owner t before e = ap₂ done (is_before s) (next_not_before s) ∙ prev_in e

      pub in_law : input_on own nx pv n i (x i) (y i) (is s (C.owner i)) (is (next s) (C.owner i)) (at_state i) ≡ at_state (suc i)
      in_law = by_owner (C.owner i) (seen s (C.owner i)) refl ∙ next_suc

-- where the pass begins
pub in_start : (s : Site) (C : Circuit) (x y : ℕ → ℕ) (own nx pv room moved : List ℕ) (m : ℕ)
    → st room moved (places 0 0 0) ≡ in_state s C x y own nx pv (take m room) (drop m room) moved 0
unfolding in_state room_with ins_parts ins_tape side fill owned
in_start s C x y own nx pv room moved m =
    st_eq (sym (take-append-drop m room) ∙ ap (λ (l : List ℕ). take m room ++ l) (sym (append-nil (drop m room)))) refl refl
