-- What the two tests of 13 compute. No public contract cites these: laws tie them to theory_calls' row.
--     own_differs        an input of the site that differs
--     opened_differs     an output whose plain value differs, of a file with i inputs and g gates; both sets stand in a work room of n wires
use Rattle.std.specs.Prelude.{Bool, not, ◌&&◌, List, ℕ, ◌+◌, get_or, eqb}
use Rattle.theory_sharing.specs.Sites.{Site, is}
use Rattle.theory_calls.specs.File.{site_of, owner_at, output_at}

unfoldable pub own_differs : List ℕ → Site → List ℕ → List ℕ → ℕ → Bool
own_differs f s x y k = is s (site_of (owner_at f k)) && not (eqb (get_or x k 0) (get_or y k 0))

unfoldable pub opened_differs : List ℕ → ℕ → ℕ → List ℕ → ℕ → Bool
opened_differs f i g room k = not (eqb (get_or room (output_at f i g k) 0) (get_or room (i + g + output_at f i g k) 0))
