-- A decimal number written into a room.
--     put_small, put_more            its one digit, or the last after the others
-- Assumes nothing.
use mathlib.Core.Path.{refl, sym, ap, ◌∙◌}
use mathlib.Core.List.{List, [], ◌∷◌}
use Prim.Native.Nat.{ℕ, ◌+◌, ◌/◌, ◌%◌, ◌<◌, ◌≤◌}
use lib.ListN.{length, set}
use Rattle.theory_calls.specs.Listing.{decimal}
use Rattle.theory_calls.proofs.Digits.{decimal_small, decimal_more, one_digit}
use Rattle.file_writer.specs.Mirror.{write}
use Rattle.file_writer.proofs.WriteLaws.{write_one, Put, put_put}

pub put_small : (at n : ℕ) (l : List ℕ) → n ≤ 9 → at < length l → Put at (decimal n) l (set l at (48 + n)) (at + 1)
put_small at n l h g =
    (write_one at (48 + n) l g ∙ ap (λ z. write at z l) (sym (decimal_small n h)), ap (λ (k : ℕ). at + k) (sym (one_digit n h)))

pub put_more : (at n : ℕ) (l m : List ℕ) (e : ℕ) → 9 < n → Put at (decimal (n / 10)) l m e → e < length m
    → Put at (decimal n) l (set m e (48 + n % 10)) (e + 1)
put_more at n l m e h p g =
    rw (decimal_more n h) (put_put at (decimal (n / 10)) ((48 + n % 10) ∷ []) l m _ e (e + 1) p (write_one e (48 + n % 10) m g, refl))
