-- What the proofs of the passes' functions cite.
--     fits_own, fits_next, fits_prev   room for an input's draws, by owner
--     input_own, input_next, input_prev    an input of the site itself, of the next one, of the one before
--     in_room, gate_room               what the whole pass has room for, each step has
use mathlib.Core.Path.{◌≡◌, refl, sym, ap, ◌∙◌, subst}
use mathlib.Core.Bool.{Bool, true, false, cond, true≢false}
use mathlib.Core.List.{List}
use Prim.Native.Nat.{ℕ, zero, suc, ◌+◌, ◌*◌, ◌≤◌, ◌<◌}
use native.Mathlib.Omega.{arith}
use lib.ListN.{length}
use Rattle.theory_sharing.specs.Ops.{bits}
use Rattle.theory_sharing.specs.Sites.{Site, next, prev, is}
use Rattle.theory_sharing.specs.Circuit.{Gate, XOR, AND, OR, NOT, Circuit, dealing, ands, owned}
use Rattle.theory_sharing.specs.Tapes.{tape_length}
use Rattle.theory_sharing.proofs.SiteLaws.{alike_two}
use Rattle.theory_calls.specs.File.{circuit}
use Rattle.run_site.specs.Mirror.{put_at}
use Rattle.run_messages.specs.Mirror.{pair_of, as_two, deal_at, kept_of, next_of, prev_of}
use Rattle.run_messages.specs.declared.Two.{Two}
use Rattle.run_messages.specs.declared.Four.{Four}
use Rattle.run_steps.specs.Mirror.{on_part}
use Rattle.run_passes.proofs.PassLaws.{ands_room, owned_room}
use Rattle.retape_pairs.specs.declared.Places.{Places}
use Rattle.retape_pairs.specs.Mirror.{Fits, St, st, places, further, put_two, and_on, gate_on}
use Rattle.retape_pairs.proofs.PairLaws.{further_none, further_add}
use Rattle.file_parts.specs.Loop.{up_to}
use Rattle.retape_passes.specs.Mirror.{step_own, step_next, step_prev, InFits, Lengths, input_on, gates_on}

module _ (own next prev : ℕ) (at : Places) where
  pub fits_own : (a b : Bool) → a ≡ true → InFits a b own next prev at → at.own + 2 ≤ own
  unfolding step_own
  fits_own true b e h = h.one
  fits_own false b e h = absurd (true≢false (sym e))

  pub fits_next : (a b : Bool) → a ≡ false → b ≡ true → InFits a b own next prev at → at.next + 2 ≤ next
  unfolding step_next
  fits_next false true e q h = h.two
  fits_next false false e q h = absurd (true≢false (sym q))
  fits_next true b e q h = absurd (true≢false e)

  pub fits_prev : (a b : Bool) → a ≡ false → b ≡ false → InFits a b own next prev at → at.prev + 2 ≤ prev
  unfolding step_prev
  fits_prev false false e q h = h.thr
  fits_prev false true e q h = absurd (true≢false q)
  fits_prev true b e q h = absurd (true≢false e)

module _ (own next prev : List ℕ) (n k x y : ℕ) (room moved : List ℕ) (at : Places) (d : Four) (p : Two) (m : ℕ) (l : List ℕ) (w : m ≡ n)
    (put : l ≡ on_part (2 * m) (4 * m) (put_at k (pair_of p)) room) where
  pub input_own : (a b : Bool) → a ≡ true → d ≡ deal_at bits own at.own x → p ≡ as_two (kept_of d)
      → st l moved (places (at.own + 2) at.next at.prev) ≡ input_on own next prev n k x y a b (st room moved at)
  unfolding input_on deal_at
  input_own true b e h q = cc (w, put)
  input_own false b e h q = absurd (true≢false (sym e))

  pub input_next : (a b : Bool) → a ≡ false → b ≡ true → d ≡ deal_at bits next at.next x → p ≡ as_two (prev_of d)
      → (z : List ℕ) → z ≡ put_two at.next (bits.add d.a (bits.add y x)) d.b moved
      → st l z (places at.own (at.next + 2) at.prev) ≡ input_on own next prev n k x y a b (st room moved at)
  unfolding input_on deal_at
  input_next false true e f h q z r = cc (w, put)
  input_next false false e f h q z r = absurd (true≢false (sym f))
  input_next true b e f h q z r = absurd (true≢false e)

  pub input_prev : (a b : Bool) → a ≡ false → b ≡ false → d ≡ deal_at bits prev at.prev x → p ≡ as_two (next_of d)
      → st l moved (places at.own at.next (at.prev + 2)) ≡ input_on own next prev n k x y a b (st room moved at)
  unfolding input_on deal_at
  input_prev false false e f h q = cc (w, put)
  input_prev false true e f h q = absurd (true≢false f)
  input_prev true b e f h q = absurd (true≢false e)

-- whose input it is, seen from each of three sites
next_is : (s t : Site) → cond (is (next s) t) 1 0 ≡ step_next (is s t) (is (next s) t)
unfolding is step_next
next_is = alike_two (λ s t. cond (is (next s) t) 1 0) (λ s t. step_next (is s t) (is (next s) t)) tt

prev_is : (s t : Site) → cond (is (prev s) t) 1 0 ≡ step_prev (is s t) (is (next s) t)
unfolding is step_prev
prev_is = alike_two (λ s t. cond (is (prev s) t) 1 0) (λ s t. step_prev (is s t) (is (next s) t)) tt

-- the places after k inputs leave room for input k
pub in_room : (C : Circuit) (s t : Site) (a b c m k : ℕ) (at : Places) → t ≡ next s → Lengths C s a b c m → k < C.ins
    → at ≡ places (2 * owned C.owner s k) (2 * owned C.owner (next s) k) (2 * owned C.owner (prev s) k)
    → InFits (is s (C.owner k)) (is t (C.owner k)) a b c at
unfolding tape_length step_own
in_room C s t a b c m k at e h l q =
    subst (λ (z : Site). InFits (is s (C.owner k)) (is z (C.owner k)) a b c at) (sym e)
    (let w = C.owner k in
    let o1 = owned_room C.owner s k C.ins l in
    let o2 = owned_room C.owner (next s) k C.ins l in
    let o3 = owned_room C.owner (prev s) k C.ins l in
    let n2 = next_is s w in let n3 = prev_is s w in
    let p1 : at.own ≡ 2 * owned C.owner s k = ap (λ (z : Places). z.own) q in
    let p2 : at.next ≡ 2 * owned C.owner (next s) k = ap (λ (z : Places). z.next) q in
    let p3 : at.prev ≡ 2 * owned C.owner (prev s) k = ap (λ (z : Places). z.prev) q in
    let i1 = h.own_is in let i2 = h.next_is in let i3 = h.prev_is in
    record { one = omega arith; two = omega arith; thr = omega arith; few_own = h.few_own; few_next = h.few_next; few_prev = h.few_prev })

-- ---- the places after gates
module _ (s : Site) (own nx pv : List ℕ) where
  gate_moves : (n w : ℕ) (G : Gate) (x : St) → (gate_on s own nx pv n w G x).at ≡ further x.at (2 * dealing G)
  unfolding gate_on and_on dealing
  gate_moves n w (XOR a b) x = sym (further_none x.at)
  gate_moves n w (NOT a) x = sym (further_none x.at)
  gate_moves n w (AND a b) x = refl
  gate_moves n w (OR a b) x = refl

  module _ (file : List ℕ) (i n : ℕ) (x : St) where
    gates_at : (k : ℕ) → (gates_on file s own nx pv i n x k).at ≡ further x.at (2 * ands (circuit file).gate k)
    unfolding up_to ands
    gates_at zero = sym (further_none x.at)
    gates_at (suc k) =
        gate_moves n (i + k) ((circuit file).gate k) (gates_on file s own nx pv i n x k)
        ∙ ap (λ (z : Places). further z (2 * dealing ((circuit file).gate k))) (gates_at k)
        ∙ further_add x.at (2 * ands (circuit file).gate k) (2 * dealing ((circuit file).gate k))
        ∙ ap (further x.at) (omega arith)

    pub gate_room : (y : St) (k g : ℕ) → k < g → Fits (ands (circuit file).gate g) (length own) (length nx) (length pv) x.at
        → y ≡ gates_on file s own nx pv i n x k → Fits (dealing ((circuit file).gate k)) (length own) (length nx) (length pv) y.at
    gate_room y k g h o q =
        let m : y.at ≡ further x.at (2 * ands (circuit file).gate k) = ap (λ (z : St). z.at) q ∙ gates_at k in
        let a = ands_room (circuit file).gate k g h in
        let e1 : y.at.own ≡ x.at.own + 2 * ands (circuit file).gate k = ap (λ (z : Places). z.own) m in
        let e2 : y.at.next ≡ x.at.next + 2 * ands (circuit file).gate k = ap (λ (z : Places). z.next) m in
        let e3 : y.at.prev ≡ x.at.prev + 2 * ands (circuit file).gate k = ap (λ (z : Places). z.prev) m in
        let o1 = o.one in let o2 = o.two in let o3 = o.thr in
        record { one = omega arith; two = omega arith; thr = omega arith; few_own = o.few_own; few_next = o.few_next; few_prev = o.few_prev }
