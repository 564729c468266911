-- A copy, byte by byte.
--     copy_none, copy_turn, copy_end    before the first byte, one byte more, behind the last
--     copy_all                          all of a slice
-- Assumes nothing.
use mathlib.Core.Path.{◌≡◌, refl, sym, ap, ◌∙◌}
use mathlib.Core.List.{List}
use Prim.Native.Nat.{ℕ, ◌+◌, ◌<◌}
use native.Mathlib.Omega.{arith}
use native.Mathlib.Numerals.{add-one}
use lib.ListN.{length, get_or, set, take}
use lib.Seq.{take-suc, take-length, length-take-le}
use Rattle.theory_sharing.specs.Store.{fill}
use Rattle.theory_sharing.proofs.StoreLaws.{fill_one, fill_all}

pub copy_none : (from to : List ℕ) → to ≡ fill to (take 0 from)
unfolding fill
copy_none from to = refl

pub copy_turn : (from old to : List ℕ) (k : ℕ) → k < length from → length from ≡ length old → to ≡ fill old (take k from) → set to k (get_or from k 0) ≡ fill old (take (k + 1) from)
copy_turn from old to k h e q =
    ap (λ (l : List ℕ). set l k (get_or from k 0)) q
    ∙ fill_one old (take k from) k (get_or from k 0) (length-take-le k from (omega arith)) (omega arith)
    ∙ ap (fill old) (sym (take-suc from k 0 h) ∙ ap (λ (m : ℕ). take m from) (sym (add-one k)))

pub copy_end : (from old to : List ℕ) (k n : ℕ) → k ≡ n → to ≡ fill old (take k from) → to ≡ fill old (take n from)
copy_end from old to k n h q = q ∙ ap (λ (m : ℕ). fill old (take m from)) h

pub copy_all : (from old to : List ℕ) → length from ≡ length old → to ≡ fill old (take (length from) from) → to ≡ from
copy_all from old to e q = q ∙ ap (fill old) (take-length from) ∙ fill_all old from e
