-- Words of the demands that are no part of a call: what the theorems about whole calls speak of.
--     Bits, Numbers, ..  of Family.antt, passed on
--     Clean             "an undisturbed line"
--     copies_of         the two copies that a site gets at an output, in a run on a line
--     Alike             at an output every site gets the same bit twice
--     StopsAt           "the first output where some site gets two unlike copies"
--     Keeps             "other inputs to the same circuit that keep that site's own bits and all opened bits"
--     opened_plain      each output's plain value, three times;  plain_outs: once
--     part_of           a site's part of a store
--     entry_of          the entry of a table for a sender and a receiver
use Rattle.std.specs.Prelude.{◌≡◌, List, [], ◌∷◌, ◌++◌, ℕ, zero, suc, ◌*◌, ◌<◌, get_or, take, drop}
use Rattle.theory_sharing.specs.Sites.{Site, sites_before, of}
use Rattle.theory_sharing.specs.Circuit.{Circuit, wires}
use Rattle.theory_sharing.specs.Steps.{Pair}
use Rattle.theory_sharing.specs.Run.{copies_at}
use Rattle.theory_sharing.specs.Tapes.{read}
use Rattle.theory_sharing.specs.Line.{errors}
pub use Rattle.theory_calls.specs.Family.{Family, bit_family, circuit_with, Fitting, Numbers, Bits, out_of}
use Rattle.theory_calls.specs.Calls.{at_wire}

unfoldable pub Clean : List ℕ → Type 0
Clean l = (k : ℕ) → get_or l k 0 ≡ 0

-- the two copies of the part that site s lacks, at output o of the run of file f on inputs x, tapes t and line l
abbrev pub copies_of : Family → List ℕ → List ℕ → List ℕ → List ℕ → ℕ → Site → Pair
copies_of F f x t l o s = of (copies_at F.ops (circuit_with F f) (at_wire x) (read (circuit_with F f) t) (errors (circuit_with F f) l) o) s

unfoldable pub Alike : Family → List ℕ → List ℕ → List ℕ → List ℕ → ℕ → Type 0
Alike F f x t l o = (s : Site) → (copies_of F f x t l o s).0 ≡ (copies_of F f x t l o s).1

pub record StopsAt (F : Family) (f x t l : List ℕ) (o : ℕ) : Type 0 where
  pub below : o < (circuit_with F f).outs
  pub unlike : ¬ Alike F f x t l o
  pub before : (p : ℕ) → p < o → Alike F f x t l p

-- 00: "other inputs to the same circuit that keep that site's own bits and all opened bits"
pub record Keeps (F : Family) (s : Site) (C : Circuit) (x y : List ℕ) : Type 0 where
  pub own : (i : ℕ) → i < C.ins → C.owner i ≡ s → get_or y i 0 ≡ get_or x i 0
  pub opens : (o : ℕ) → o < C.outs → out_of F C y o ≡ out_of F C x o

-- 00: "opens at all three sites to its plain Boolean value"
unfoldable pub opened_plain : Family → Circuit → List ℕ → ℕ → List ℕ
opened_plain F C x zero = []
opened_plain F C x (suc o) = opened_plain F C x o ++ (out_of F C x o ∷ out_of F C x o ∷ out_of F C x o ∷ [])

-- each output's plain value
unfoldable pub plain_outs : Family → Circuit → List ℕ → ℕ → List ℕ
plain_outs F C x zero = []
plain_outs F C x (suc o) = plain_outs F C x o ++ (out_of F C x o ∷ [])

-- 01: "Site s's part starts at 2W(s-1)", and has 2W bytes
abbrev pub part_of : Site → Circuit → List ℕ → List ℕ
part_of s C st = take (2 * wires C) (drop (2 * wires C * sites_before s) st)

-- rows and columns go by site, from site 1 on
abbrev pub entry_of : List (List ℕ) → Site → Site → ℕ
entry_of t a b = get_or (get_or t (sites_before a) []) (sites_before b) 0
