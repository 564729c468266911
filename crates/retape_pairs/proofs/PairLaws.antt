-- What the proofs of a site's steps cite.
--     change_law                             by how much the next site's product moves
--     mix_law                                an AND's pair and draws
--     places_eq                              places are alike where each of them is
--     further_none, further_add              no bit further on, and so many and then so many
--     and_law                                a gate that deals
--     step_done, step_fits                   a gate by its step, and the room that it wants
use mathlib.Core.Path.{◌≡◌, refl, sym, ap, ◌∙◌, subst}
use mathlib.Core.List.{List}
use Prim.Native.Nat.{ℕ, ◌+◌, ◌*◌}
use lib.ListN.{get_or}
use lib.Bits.{bit_xor, bit_and, xor_comm, xor_self}
use native.Mathlib.Omega.{arith}
use Rattle.theory_sharing.specs.Ops.{bits}
use Rattle.theory_sharing.specs.Sites.{Site}
use Rattle.theory_sharing.specs.Circuit.{Gate, XOR, AND, OR, NOT, dealing}
use Rattle.theory_sharing.specs.Steps.{local}
use Rattle.theory_sharing.specs.Retape.{next_product}
use Rattle.theory_sharing.proofs.BitLaws.{xor_assoc, and_xor, xor_and}
use Rattle.run_site.specs.Mirror.{put_at, two_at}
use Rattle.run_messages.specs.Mirror.{two, pair_of, deal_at}
use Rattle.run_messages.specs.declared.Two.{Two}
use Rattle.run_messages.specs.declared.Four.{Four}
use Rattle.run_steps.specs.Mirror.{lent, on_part}
use Rattle.run_passes.specs.declared.Step.{Step}
use Rattle.run_passes.specs.Mirror.{step_by, deals}
use Rattle.run_passes.proofs.PassLaws.{step_deals}
use Rattle.retape_pairs.specs.declared.Places.{Places}
use Rattle.retape_pairs.specs.declared.Mixed.{Mixed}
use Rattle.retape_pairs.specs.Mirror.{Fits, St, st, places, further, flipped, mixed, Operand, operand, operand_at, put_two, and_on, gate_on, step_on}

-- what is added twice goes away
left_twice : (a b : ℕ) → bit_xor a (bit_xor a b) ≡ b
left_twice a b = sym (xor_assoc a a b) ∙ ap (λ (z : ℕ). bit_xor z b) (xor_self a)

left_comm : (a b c : ℕ) → bit_xor a (bit_xor b c) ≡ bit_xor b (bit_xor a c)
left_comm a b c = sym (xor_assoc a b c) ∙ ap (λ (z : ℕ). bit_xor z c) (xor_comm a b) ∙ xor_assoc b a c

-- the difference of the next site's two products: what stays in both, of parts a, b, c and d, is added twice
module _ (add mul : ℕ → ℕ → ℕ) (assoc : (a b c : ℕ) → add (add a b) c ≡ add a (add b c)) (left : (a b c : ℕ) → add a (add b c) ≡ add b (add a c))
    (comm : (a b : ℕ) → add a b ≡ add b a) (mul_add : (a b c : ℕ) → mul a (add b c) ≡ add (mul a b) (mul a c))
    (add_mul : (a b c : ℕ) → mul (add a b) c ≡ add (mul a c) (mul b c)) (twice : (a b : ℕ) → add a (add a b) ≡ b) where
  moved : (a b c d u v y z : ℕ)
      → add (mul a (add v z)) (mul (add u y) b)
      ≡ add (add (add (mul a b) (mul a (add (add z d) b))) (mul (add (add y c) a) b)) (add (add (mul a b) (mul a (add (add v d) b))) (mul (add (add u c) a) b))
  moved a b c d u v y z = simp (mul_add, add_mul, assoc, left, comm, twice)

pub change_law : (p q : Operand) → bits.add (bits.mul p.pair.y (bits.add q.first q.second)) (bits.mul (bits.add p.first p.second) q.pair.y)
    ≡ bits.sub (next_product bits (pair_of p.pair) p.second (pair_of q.pair) q.second) (next_product bits (pair_of p.pair) p.first (pair_of q.pair) q.first)
change_law p q = moved bit_xor bit_and xor_assoc left_comm xor_comm and_xor xor_and left_twice p.pair.y q.pair.y p.pair.x q.pair.x p.first q.first p.second q.second

pub mix_law : (own next prev : List ℕ) (at : Places) (p q : Operand) (f g l : ℕ) (k m : Four)
    → f ≡ next_product bits (pair_of p.pair) p.first (pair_of q.pair) q.first
    → g ≡ bits.sub (next_product bits (pair_of p.pair) p.second (pair_of q.pair) q.second) (next_product bits (pair_of p.pair) p.first (pair_of q.pair) q.first)
    → l ≡ local bits (pair_of p.pair) (pair_of q.pair) → k ≡ deal_at bits own at.own l → m ≡ deal_at bits next at.next f
    → record {
      pair = two (bits.add k.d (bits.add m.b (get_or prev at.prev 0))) (bits.add k.a (bits.add m.d (get_or prev (at.prev + 1) 0)));
      first = bits.add m.a g;
      second = m.b;
    } ≡ mixed own next prev at p q
unfolding mixed deal_at
mix_law own next prev at p q f g l k m h1 h2 h3 h4 h5 = cc

pub places_eq : {a b c a' b' c' : ℕ} → a ≡ a' → b ≡ b' → c ≡ c' → places a b c ≡ places a' b' c'
places_eq p q r = λ i. places (p i) (q i) (r i)

pub further_none : (p : Places) → further p 0 ≡ p
further_none p = places_eq (omega arith) (omega arith) (omega arith)

pub further_add : (p : Places) (a b : ℕ) → further (further p a) b ≡ further p (a + b)
further_add p a b = places_eq (omega arith) (omega arith) (omega arith)

module _ (s : Site) (own next prev : List ℕ) (n a b w o : ℕ) (room moved : List ℕ) (from : Places) (t : ℕ) where
  pub and_law : (at : Places) (p0 q0 p q r : Two) (m : Mixed) (l d : List ℕ)
      → at ≡ further from t → p0 ≡ two_at (lent (2 * n) (4 * n) room) a → q0 ≡ two_at (lent (2 * n) (4 * n) room) b → p ≡ flipped s o p0 → q ≡ flipped s o q0
      → m ≡ mixed own next prev at (operand p (bits.add (get_or room a 0) o) (bits.add (get_or room (n + a) 0) o)) (operand q (bits.add (get_or room b 0) o) (bits.add (get_or room (n + b) 0) o))
      → d ≡ put_two at.next m.first m.second moved → r ≡ flipped s o m.pair → l ≡ on_part (2 * n) (4 * n) (put_at w (pair_of r)) room
      → st l d (further from (t + 2)) ≡ and_on s own next prev n a b w o (st room moved (further from t))
  unfolding and_on operand_at
  and_law at p0 q0 p q r m l d h0 h1 h2 h3 h4 h5 h6 h7 h8 = let e = further_add from t 2 in cc

-- ---- a gate as the code takes it, by its step
module _ (s : Site) (own next prev : List ℕ) (n w : ℕ) where
  step_is : (g : Gate) (x : St) → step_on s own next prev n w (step_by g) x ≡ gate_on s own next prev n w g x
  unfolding gate_on
  step_is (XOR a b) x = refl
  step_is (AND a b) x = refl
  step_is (OR a b) x = refl
  step_is (NOT a) x = refl

  pub step_done : (x y : St) (k : Step) (g : Gate) → k ≡ step_by g → y ≡ step_on s own next prev n w k x → y ≡ gate_on s own next prev n w g x
  step_done x y k g e q = q ∙ ap (λ (z : Step). step_on s own next prev n w z x) e ∙ step_is g x

pub step_fits : (k : Step) (g : Gate) (a b c : ℕ) (p : Places) → k ≡ step_by g → Fits (dealing g) a b c p → Fits (deals k) a b c p
step_fits k g a b c p e f = subst (λ (m : ℕ). Fits m a b c p) (step_deals g ∙ sym (ap deals e)) f
