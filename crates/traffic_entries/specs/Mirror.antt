-- What the tables of one step are. No public contract cites these: laws tie them to sharing's table.
--     table_of f          the nine entries of f, by rows
--     plus                the sum of two tables
--     Under t n           no entry of t is above n
--     from_input, ..      what one step adds, as the code has it
use Rattle.std.specs.Prelude.{cond, List, [], ◌∷◌, ℕ, ◌+◌, ◌≤◌, get_or, eqb}
use Rattle.theory_sharing.specs.Sites.{Site, s1, s2, s3, is}
use Rattle.theory_sharing.specs.Traffic.{input_adds, output_adds}
use Rattle.theory_calls.specs.File.{site_of}

abbrev pub table_of : (Site → Site → ℕ) → List (List ℕ)
table_of f = (f s1 s1 ∷ f s1 s2 ∷ f s1 s3 ∷ []) ∷ (f s2 s1 ∷ f s2 s2 ∷ f s2 s3 ∷ []) ∷ (f s3 s1 ∷ f s3 s2 ∷ f s3 s3 ∷ []) ∷ []

abbrev pub at_entry : List (List ℕ) → ℕ → ℕ → ℕ
at_entry t i j = get_or (get_or t i []) j 0

unfoldable pub plus : List (List ℕ) → List (List ℕ) → List (List ℕ)
plus t m =
    ((at_entry t 0 0 + at_entry m 0 0) ∷ (at_entry t 0 1 + at_entry m 0 1) ∷ (at_entry t 0 2 + at_entry m 0 2) ∷ [])
    ∷ ((at_entry t 1 0 + at_entry m 1 0) ∷ (at_entry t 1 1 + at_entry m 1 1) ∷ (at_entry t 1 2 + at_entry m 1 2) ∷ [])
    ∷ ((at_entry t 2 0 + at_entry m 2 0) ∷ (at_entry t 2 1 + at_entry m 2 1) ∷ (at_entry t 2 2 + at_entry m 2 2) ∷ [])
    ∷ []

pub record Under (t : List (List ℕ)) (n : ℕ) : Type 0 where
  pub u00 : at_entry t 0 0 ≤ n
  pub u01 : at_entry t 0 1 ≤ n
  pub u02 : at_entry t 0 2 ≤ n
  pub u10 : at_entry t 1 0 ≤ n
  pub u11 : at_entry t 1 1 ≤ n
  pub u12 : at_entry t 1 2 ≤ n
  pub u20 : at_entry t 2 0 ≤ n
  pub u21 : at_entry t 2 1 ≤ n
  pub u22 : at_entry t 2 2 ≤ n

unfoldable pub from_input : ℕ → List (List ℕ)
from_input o = table_of (input_adds (site_of o))

unfoldable pub from_gate : ℕ → List (List ℕ)
from_gate d = cond (eqb d 1) (table_of (λ a b. cond (is a b) 0 2)) (table_of (λ a b. 0))

unfoldable pub from_output : List (List ℕ)
from_output = table_of output_adds
