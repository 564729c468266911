-- The four parts of a file, one after the other.
--     seat_widths, seat_same     behind the first word of the inputs' line stand the widths
--     file_put                   header, owners, gates and outputs are the file
-- Assumes nothing.
use mathlib.Core.Path.{◌≡◌, refl, sym, ap, ◌∙◌}
use mathlib.Core.List.{List, ◌∷◌}
use Prim.Native.Nat.{ℕ, suc, ◌+◌, ◌*◌, ◌≤◌}
use native.Mathlib.Omega.{arith}
use lib.ListN.{length, take}
use lib.Seq.{length-take-le}
use Rattle.theory_sharing.specs.Store.{fill}
use Rattle.theory_calls.specs.File.{size}
use Rattle.theory_files.specs.Written.{header_bytes, output_bytes}
use Rattle.bristol_text.specs.Lines.{are, total}
use Rattle.bristol_text.specs.Renamed.{spread}
use Rattle.theory_files.proofs.ReadBack.{length_header}
use Rattle.bristol_text.proofs.TextFile.{spread_length}
use Rattle.bristol_words.specs.declared.Word.{Word}
use Rattle.bristol_words.specs.Mirror.{Next}
use Rattle.bristol_wires.specs.declared.Text.{Text}
use Rattle.file_writer.specs.Mirror.{write}
use Rattle.file_writer.proofs.WriteLaws.{Put, put_put, filled_put, put_filled}
use Rattle.bristol_file.specs.Mirror.{listed, widths_in, Widths, behind_first, widths_of, Seated, outs_of, file_by}
use Rattle.bristol_file.proofs.OwnerLaws.{Width, width}

module _ (t : List ℕ) (seat : ℕ) (owners : List ℕ) (x : Text) (w : Word) (next : Next t seat w) (s : Seated t seat owners x) where
  all_in : widths_in t seat ≡ length owners ∷ widths_of t seat
  unfolding listed
  all_in = ap listed s.all

  whole : Widths t seat (suc (length owners))
  whole =
      let long : length (widths_in t seat) ≡ suc (length (widths_of t seat)) = ap length all_in in
      let m = s.many in
      record { all = s.all ∙ ap are (sym all_in); many = omega (arith, long, m) }

  first : Width t seat w (length owners)
  first = width t seat w next (length owners) whole

  pub seat_widths : Widths t w.end (length owners)
  seat_widths = first.rest

  pub seat_same : widths_in t w.end ≡ widths_of t seat
  unfolding behind_first
  seat_same = sym (ap behind_first first.first)

  pub seat_total : total (widths_in t w.end) ≡ x.ins
  seat_total = ap total seat_same ∙ s.sum

module _ (t : List ℕ) (seat : ℕ) (owners : List ℕ) (x : Text) (w : Word) (next : Next t seat w) (s : Seated t seat owners x) (m g : List ℕ) (few : 6 * x.made ≤ length g) where
  abbrev gates : List ℕ
  gates = take (6 * x.made) g

  owners_long : length (spread owners (widths_in t w.end)) ≡ total (widths_in t w.end)
  owners_long = spread_length owners (widths_in t w.end) (sym (seat_widths t seat owners x w next s).many)

  pub file_put : (l a b c d : List ℕ) (ra rb rc rd : ℕ)
      → (a ≡ fill l (header_bytes x.ins x.made x.outs)) × (ra ≡ 32)
      → (b ≡ write ra (spread owners (widths_in t w.end)) a) × (rb ≡ ra + total (widths_in t w.end))
      → (c ≡ write rb gates b) × (rc ≡ rb + length gates)
      → (d ≡ write rc (output_bytes (outs_of m x)) c) × (rd ≡ rc + 2 * x.outs)
      → (d ≡ fill l (file_by t seat owners x m g)) × (rd ≡ size x.ins x.made x.outs)
  unfolding file_by size
  file_put l a b c d ra rb rc rd p1 p2 p3 p4 =
      let q1 : Put 0 (header_bytes x.ins x.made x.outs) l a ra = filled_put _ _ _ _ (p1.0, p1.1 ∙ sym (length_header _ _ _)) in
      let q2 : Put ra (spread owners (widths_in t w.end)) a b rb = (p2.0, p2.1 ∙ ap (λ (k : ℕ). ra + k) (sym owners_long)) in
      let q4 : Put rc (output_bytes (outs_of m x)) c d (rc + length (output_bytes (outs_of m x))) = (p4.0, refl) in
      let q = put_filled _ _ _ _ (put_put _ _ _ _ _ _ _ _ q1 (put_put _ _ _ _ _ _ _ _ q2 (put_put _ _ _ _ _ _ _ _ p3 q4))) in
      let e = seat_total t seat owners x w next s in
      let k : length gates ≡ 6 * x.made = length-take-le (6 * x.made) g few in
      let r1 = p1.1 in let r2 = p2.1 in let r3 = p3.1 in let r4 = p4.1 in
      ((rw (seat_same t seat owners x w next s) at q).0, omega (arith, e, k, r1, r2, r3, r4))

-- so many gates as are kept
pub few_gates : (n : ℕ) (g : List ℕ) → n ≤ 3072 → length g ≡ 18432 → 6 * n ≤ length g
few_gates n g h e = omega (arith, h, e)

pub gates_cut : (n : ℕ) (g : List ℕ) → n ≤ 3072 → length g ≡ 18432 → 6 * n ≡ length (take (6 * n) g)
gates_cut n g h e = sym (length-take-le (6 * n) g (few_gates n g h e))
