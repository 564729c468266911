-- A file that was written opens: checks 1 to 3 pass, within 01's limits; and it is made of bytes.
--     small_written      "so a file has at most 20,000 bytes"
--     header_passes, header_good    checks 1 to 3
--     places_clear       a row of places whose tests all fail holds nowhere
--     Fits, bytes_fit    where every number has two bytes, every byte of the file is below 256
-- Assumes nothing.
use mathlib.Core.Path.{◌≡◌, refl}
use mathlib.Core.Bool.{Bool, true, false, ◌&&◌}
use mathlib.Core.List.{List, [], ◌∷◌, ◌++◌}
use Prim.Native.Nat.{ℕ, zero, suc, ◌/◌, ◌%◌, ◌<◌, ◌≤◌}
use native.Mathlib.Omega.{arith}
use lib.ListN.{length, get_or}
use borrow.Author.Tests.{le-leb, eq-eqb}
use Rattle.theory_calls.specs.File.{gates_start, outputs_start, size}
use Rattle.theory_calls.specs.Checks.{tested, at_places, row_short, row_large, row_field, header_checks, accepted, verdict}
use Rattle.theory_calls.proofs.Refusals.{Clears, Passes, passes_accepted}
use Rattle.theory_files.specs.Written.{two, four, header_bytes, Numbers3, gate_bytes, output_bytes, file_of, Within}
use Rattle.theory_files.proofs.ReadBack.{length_file, size_read, inputs_read, gates_read, outputs_read, owners_start_read, gates_start_read, outputs_start_read, zero_read}

-- every test of a list fails
unfoldable pub Fail : List (ℕ × Bool) → Type 0
Fail [] = Unit {0}
Fail (t ∷ ts) = (t.1 ≡ false) × Fail ts

and_fails : (a : Bool) → (a && false) ≡ false
and_fails true = refl
and_fails false = refl

pub places_clear : (n : ℕ) (ts : List (ℕ × Bool)) → Fail ts → Clears (at_places n ts)
unfolding Fail tested
places_clear n [] h p l = refl
places_clear n (t ∷ ts) h p l = rw (h.0, and_fails) (places_clear n ts h.1 p l)

module _ (os : List ℕ) (gs : List Numbers3) (ws : List ℕ) where
  abbrev written : List ℕ
  written = file_of os gs ws

  pub small_written : Within (length os) (length gs) (length ws) → length written ≤ 20000
  unfolding size
  small_written h = let e = length_file os gs ws in omega arith

  short_clear : Clears (row_short written)
  unfolding Fail size
  short_clear = let e = length_file os gs ws in places_clear 1 _ (rw (le-leb 32 (length written) (omega arith)), tt)

  large_clear : Within (length os) (length gs) (length ws) → Clears (row_large written)
  unfolding Fail
  large_clear h =
      rw (inputs_read os gs ws, gates_read os gs ws, outputs_read os gs ws)
      (places_clear 3 _
      (rw (le-leb (length os) 1024 h.few_inputs), (rw (le-leb (length gs) 3072 h.few_gates), (rw (le-leb (length ws) 256 h.few_outputs), tt))))

  field_clear : Clears (row_field written)
  unfolding Fail
  field_clear =
      rw (
        inputs_read os gs ws,
        gates_read os gs ws,
        outputs_read os gs ws,
        size_read os gs ws,
        owners_start_read os gs ws,
        gates_start_read os gs ws,
        outputs_start_read os gs ws,
        zero_read os gs ws,
      )
      (places_clear 29 _ (
        rw (eq-eqb (size (length os) (length gs) (length ws)) _ refl, eq-eqb (length written) _ (length_file os gs ws)),
        (refl, (rw (eq-eqb (gates_start (length os)) _ refl), (rw (eq-eqb (outputs_start (length os) (length gs)) _ refl), (refl, tt)))),
      ))

  pub header_passes : Within (length os) (length gs) (length ws) → Passes (header_checks written)
  unfolding Passes
  header_passes h = (short_clear, (large_clear h, (field_clear, tt)))

  pub header_good : Within (length os) (length gs) (length ws) → verdict (header_checks written) ≡ accepted
  header_good h = passes_accepted (header_checks written) (header_passes h)

-- a list of bytes
abbrev pub Bytes : List ℕ → Type 0
Bytes l = (k : ℕ) → get_or l k 0 < 256

no_bytes : Bytes []
no_bytes k = omega arith

one_byte : (b : ℕ) (l : List ℕ) → b < 256 → Bytes l → Bytes (b ∷ l)
one_byte b l h t zero = h
one_byte b l h t (suc k) = t k

join_bytes : (xs ys : List ℕ) → Bytes xs → Bytes ys → Bytes (xs ++ ys)
join_bytes [] ys h t k = t k
join_bytes (x ∷ xs) ys h t zero = h 0
join_bytes (x ∷ xs) ys h t (suc k) = join_bytes xs ys (λ j. h (suc j)) t k

two_bytes : (n : ℕ) → n < 65536 → Bytes (two n)
unfolding two
two_bytes n h = one_byte (n % 256) (n / 256 ∷ []) (omega arith) (one_byte (n / 256) [] (omega arith) no_bytes)

four_bytes : (n : ℕ) → n < 4294967296 → Bytes (four n)
unfolding four
four_bytes n h = join_bytes (two (n % 65536)) (two (n / 65536)) (two_bytes (n % 65536) (omega arith)) (two_bytes (n / 65536) (omega arith))

-- a field of the header in front of others
field_bytes : (n : ℕ) (l : List ℕ) → n < 4294967296 → Bytes l → Bytes (four n ++ l)
field_bytes n l h t = join_bytes (four n) l (four_bytes n h) t

header_fits : (i g o : ℕ) → Within i g o → Bytes (header_bytes i g o)
unfolding header_bytes size
header_fits i g o h =
    field_bytes (size i g o) _ (omega arith)
    (field_bytes i _ (omega arith)
    (field_bytes g _ (omega arith)
    (field_bytes o _ (omega arith)
    (field_bytes 32 _ (omega arith)
    (field_bytes (gates_start i) _ (omega arith)
    (field_bytes (outputs_start i g) _ (omega arith) (four_bytes 0 (omega arith))))))))

gates_fit : (gs : List Numbers3) → ((k : ℕ) → ((get_or gs k (0, 0, 0)).0 < 65536) × ((get_or gs k (0, 0, 0)).1 < 65536) × ((get_or gs k (0, 0, 0)).2 < 65536)) → Bytes (gate_bytes gs)
unfolding gate_bytes
gates_fit [] h = no_bytes
gates_fit (g ∷ gs) h =
    join_bytes (two g.0) _ (two_bytes g.0 (h 0).0)
    (join_bytes (two g.1) _ (two_bytes g.1 (h 0).1)
    (join_bytes (two g.2) _ (two_bytes g.2 (h 0).2) (gates_fit gs (λ k. h (suc k)))))

outs_fit : (ws : List ℕ) → ((k : ℕ) → get_or ws k 0 < 65536) → Bytes (output_bytes ws)
unfolding output_bytes
outs_fit [] h = no_bytes
outs_fit (w ∷ ws) h = join_bytes (two w) _ (two_bytes w (h 0)) (outs_fit ws (λ k. h (suc k)))

pub record Fits (os : List ℕ) (gs : List Numbers3) (ws : List ℕ) : Type 0 where
  pub within : Within (length os) (length gs) (length ws)
  pub owners : Bytes os
  pub numbers : (k : ℕ) → ((get_or gs k (0, 0, 0)).0 < 65536) × ((get_or gs k (0, 0, 0)).1 < 65536) × ((get_or gs k (0, 0, 0)).2 < 65536)
  pub outs : (k : ℕ) → get_or ws k 0 < 65536

pub bytes_fit : (os : List ℕ) (gs : List Numbers3) (ws : List ℕ) → Fits os gs ws → Bytes (file_of os gs ws)
unfolding file_of
bytes_fit os gs ws h =
    join_bytes (header_bytes (length os) (length gs) (length ws)) _ (header_fits (length os) (length gs) (length ws) h.within)
    (join_bytes os _ h.owners (join_bytes (gate_bytes gs) _ (gates_fit gs h.numbers) (outs_fit ws h.outs)))
