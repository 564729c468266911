-- What the functions of one site compute on its part of the store. Written with sharing's own functions of pairs. No public contract cites these: laws tie
-- them to sharing's steps.
--     pair_at, put_at                a wire's two bytes in a site's part, read and written
--     add_at, flip_at, local_at      XOR, NOT and a site's product
--     take_at                        a site's new pair: its own, from the site before, from the site after, and its flip
use Rattle.std.specs.Prelude.{List, ℕ, ◌+◌, ◌*◌, get_or, set}
use Rattle.theory_sharing.specs.Ops.{Ops}
use Rattle.theory_sharing.specs.Steps.{Pair, add_pair, local}
use Rattle.run_messages.specs.declared.Two.{Two}
use Rattle.run_messages.specs.Mirror.{two}

abbrev pub pair_at : List ℕ → ℕ → Pair
pair_at p w = (get_or p (2 * w) 0, get_or p (2 * w + 1) 0)

unfoldable pub put_at : ℕ → Pair → List ℕ → List ℕ
put_at w v p = set (set p (2 * w) v.0) (2 * w + 1) v.1

abbrev pub two_at : List ℕ → ℕ → Two
two_at p w = two (get_or p (2 * w) 0) (get_or p (2 * w + 1) 0)

module _ (R : Ops) where
  unfoldable pub add_at : ℕ → ℕ → ℕ → List ℕ → List ℕ
  add_at a b w p = put_at w (add_pair R (pair_at p a) (pair_at p b)) p

  unfoldable pub flip_at : ℕ → ℕ → Pair → List ℕ → List ℕ
  flip_at a w f p = put_at w (add_pair R (pair_at p a) f) p

  unfoldable pub local_at : ℕ → ℕ → Pair → List ℕ → ℕ
  local_at a b f p = local R (add_pair R (pair_at p a) f) (add_pair R (pair_at p b) f)

  -- own pair, from the site before, from the site after, and what is flipped
  unfoldable pub take_at : ℕ → Pair → Pair → Pair → Pair → List ℕ → List ℕ
  take_at w k p q f l = put_at w (add_pair R (add_pair R (add_pair R k p) q) f) l
