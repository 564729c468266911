-- Lent buffers, and the store of the three sites' pairs.
-- 01: "Site s's part starts at 2W(s-1) ..; in it, wire w has its two bytes at 2w."
--     side f ws        one site's part: two bytes a wire
--     store ws         the three sites' parts
--     fill old new     a lent buffer in which new stands in front: the rest is as it was
use Rattle.std.specs.Prelude.{List, [], ◌∷◌, ◌++◌, ℕ, length, drop}
use Rattle.theory_sharing.specs.Steps.{Pair, Wire}

unfoldable pub side : {A : Type 0} → (A → Pair) → List A → List ℕ
side f [] = []
side f (w ∷ ws) = (f w).0 ∷ (f w).1 ∷ side f ws

unfoldable pub store : List Wire → List ℕ
store ws = side (λ (w : Wire). w.at1) ws ++ (side (λ (w : Wire). w.at2) ws ++ side (λ (w : Wire). w.at3) ws)

unfoldable pub fill : List ℕ → List ℕ → List ℕ
fill old new = new ++ drop (length new) old
