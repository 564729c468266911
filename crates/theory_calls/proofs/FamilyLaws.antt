-- What a family must satisfy for the demands to hold of it, and bits as one that does.
--     Lawful F           a group with a product; its numbers are closed and tested rightly; plain values are the group's
--     group              the group of such a family
--     numbers_ok, draws_ok    numbers and draws of a slice stand for themselves
--     bit_lawful         of bits
-- Assumes nothing.
use mathlib.Core.Path.{◌≡◌}
use mathlib.Core.Bool.{true}
use mathlib.Core.List.{List}
use Prim.Native.Nat.{ℕ, ◌≤◌}
use native.Mathlib.Omega.{arith}
use lib.ListN.{length, get_or}
use borrow.Author.Tests.{leb-true, le-leb}
use Rattle.theory_sharing.specs.Circuit.{Circuit, wires}
use Rattle.theory_sharing.specs.Values.{values}
use Rattle.theory_sharing.specs.Tapes.{read}
use Rattle.theory_sharing.proofs.Group.{Group, Laws, Closed}
use Rattle.theory_sharing.proofs.BitLaws.{bit_laws, bit_closed}
use Rattle.theory_sharing.proofs.Parts.{AllDraws}
use Rattle.theory_sharing.proofs.TapeLaws.{draws_all}
use Rattle.theory_calls.specs.Family.{Family, bit_family, Fitting}
use Rattle.theory_calls.specs.Calls.{at_wire}
use Rattle.theory_calls.proofs.PlainLaws.{plain_is, plain_length}

pub record Lawful (F : Family) : Type 1 where
  pub laws : Laws F.ops
  -- no operation leaves the family's numbers, and each stands for itself
  pub closed : Closed F.ops F.Small
  pub small_ok : (n : ℕ) → F.Small n → laws.Ok n
  -- a number of a slice is the family's exactly where it passes
  pub fine_small : (n : ℕ) → F.Fits n → F.fine n ≡ true → F.Small n
  pub small_fine : (n : ℕ) → F.Small n → F.fine n ≡ true
  pub small_fits : (n : ℕ) → F.Small n → F.Fits n
  -- plain values are the values that the group computes with, one a wire
  pub values_are : (C : Circuit) (xs : List ℕ) → ((k : ℕ) → F.Small (get_or xs k 0)) → F.plain C xs ≡ values F.ops C (at_wire xs) C.gates
  pub values_many : (C : Circuit) (xs : List ℕ) → length (F.plain C xs) ≡ wires C

module _ (F : Family) (L : Lawful F) where
  abbrev pub group : Group
  group = record { ops = F.ops; laws = L.laws }

  pub numbers_ok : (l : List ℕ) → ((k : ℕ) → F.Small (get_or l k 0)) → (k : ℕ) → group.laws.Ok (at_wire l k)
  numbers_ok l h k = L.small_ok _ (h k)

  pub draws_ok : (C : Circuit) (t : List ℕ) → ((k : ℕ) → F.Small (get_or t k 0)) → AllDraws group.laws.Ok (read C t)
  draws_ok C t h = draws_all group.laws.Ok L.laws.ok_zero C t (numbers_ok t h)

abbrev pub bit_lawful : Lawful bit_family
bit_lawful = record {
  laws = bit_laws;
  closed = bit_closed;
  small_ok = λ n h. tt;
  fine_small = λ n h e. let q : n ≤ 1 = leb-true n 1 e in omega arith;
  small_fine = λ n h. le-leb n 1 (omega arith);
  small_fits = λ n h. tt;
  values_are = plain_is;
  values_many = plain_length;
}

-- of bits nothing is asked
pub bits_fit : (l : List ℕ) → Fitting bit_family l
bits_fit l k = tt
