-- Re-taping. 01 says that the build "finds the tapes that explain one site's view by other inputs", and 00's third demand that exactly one
-- set does: with the second inputs it gives the site the same view. These tapes do it, and no others (proofs/RetapeLaws.antt). Only the site after s draws anew, and of each of its pairs of draws only the first: it becomes the part that s lacks,
-- and moves by as much as the value that is shared there. What that site shares at a gate is worked out from what s has in the work room:
-- the plain values, and its own pairs.
--     mine               what site s holds of three parts
--     next_shares     what the site after s shares at a gate, from the pairs of s and the values
--     shift              a draw, moved where it is of the site after s
--     retape             the new draws
--     new_tapes          the new tapes, as they are lent
use Rattle.std.specs.Prelude.{cond, List, map, ℕ, get_or}
use Rattle.theory_sharing.specs.Ops.{Ops}
use Rattle.theory_sharing.specs.Sites.{Site, s1, s2, s3, next, is, of}
use Rattle.theory_sharing.specs.Circuit.{Gate, XOR, AND, OR, NOT, Circuit, Draws}
use Rattle.theory_sharing.specs.Values.{values}
use Rattle.theory_sharing.specs.Published.{Parts, parts, three}
use Rattle.theory_sharing.specs.Steps.{Pair}
use Rattle.theory_sharing.specs.Tapes.{read, written}

abbrev pub mine : Site → Parts → Pair
mine s P = (of P s, of P (next s))

module _ (R : Ops) where
  open R use {add, sub}

  -- the value less the two parts that s holds: the part that it lacks
  abbrev pub rest : ℕ → ℕ → ℕ → ℕ
  rest v a b = sub (sub v a) b

  abbrev pub next_product : Pair → ℕ → Pair → ℕ → ℕ
  next_product p u q v = three R p.1 (rest u p.0 p.1) q.1 (rest v q.0 q.1)

  -- the pair of s with part 1 flipped, if it holds it
  abbrev pub flip_mine : Site → Pair → Pair
  flip_mine s1 p = (add p.0 1, p.1)
  flip_mine s2 p = p
  flip_mine s3 p = (p.0, add p.1 1)

  unfoldable pub next_shares : Site → Gate → List Pair → List ℕ → ℕ
  next_shares s (XOR i j) ms vs = 0
  next_shares s (AND i j) ms vs = next_product (get_or ms i (0, 0)) (get_or vs i 0) (get_or ms j (0, 0)) (get_or vs j 0)
  next_shares s (OR i j) ms vs =
      next_product (flip_mine s (get_or ms i (0, 0))) (add (get_or vs i 0) 1) (flip_mine s (get_or ms j (0, 0))) (add (get_or vs j 0) 1)
  next_shares s (NOT i) ms vs = 0

  unfoldable pub shift : Site → Site → ℕ → ℕ → ℕ
  shift s t d δ = cond (is (next s) t) (add d δ) d

  unfoldable pub retape : Site → Circuit → (ℕ → ℕ) → (ℕ → ℕ) → Draws → Draws
  retape s C x y T = record {
    in1 = λ i. shift s (C.owner i) (T.in1 i) (sub (y i) (x i));
    in2 = T.in2;
    g1 = λ g t. shift s t (T.g1 g t)
        (sub (next_shares s (C.gate g) (map (mine s) (parts R C x T g)) (values R C y g))
        (next_shares s (C.gate g) (map (mine s) (parts R C x T g)) (values R C x g)));
    g2 = T.g2;
  }

  unfoldable pub new_tapes : Site → Circuit → (ℕ → ℕ) → (ℕ → ℕ) → List ℕ → List ℕ
  new_tapes s C x y t = written C (retape s C x y (read C t))
