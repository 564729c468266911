-- What holds of owners, outputs and the file as they are written.
--     Outs, outs_start, outs_turn, outs_end    the outputs, from the first on: what is left to write
--     header_put                 eight fields, one after the other
--     owner_turn                 one owner, wire by wire
-- Assumes nothing.
use mathlib.Core.Path.{◌≡◌, refl, sym, ap, ◌∙◌}
use mathlib.Core.List.{List, ◌∷◌, ◌++◌, map}
use Prim.Native.Nat.{ℕ, suc, ◌+◌, ◌*◌, ◌-◌, ◌<◌}
use native.Mathlib.Omega.{arith}
use lib.ListN.{length, take, set, replicate, length-replicate, get_or-replicate}
use Rattle.theory_sharing.specs.Store.{fill}
use Rattle.theory_calls.specs.File.{size, gates_start, outputs_start}
use Rattle.theory_files.specs.Written.{two, four, header_bytes, output_bytes}
use Rattle.theory_files.proofs.ReadBack.{length_header}
use Rattle.bristol_text.specs.Heard.{count_up}
use Rattle.file_writer.specs.Mirror.{write}
use Rattle.file_writer.proofs.WriteLaws.{write_write, write_none, word_turn, Put, put_put, put_filled}

-- a number of four bytes
abbrev Four : ℕ → ℕ → List ℕ → List ℕ → ℕ → Type 0
Four at v l m r = (m ≡ write at (four v) l) × (r ≡ at + 4)

four_put : (at v : ℕ) (l m : List ℕ) (r : ℕ) → Four at v l m r → Put at (four v) l m r
unfolding four two
four_put at v l m r p = p

pub header_put : (i g o : ℕ) (l a b c d e f h n : List ℕ) (ra rb rc rd re rf rh rn : ℕ)
    → Four 0 (size i g o) l a ra → Four ra i a b rb → Four rb g b c rc → Four rc o c d rd
    → Four rd 32 d e re → Four re (gates_start i) e f rf → Four rf (outputs_start i g) f h rh → Four rh 0 h n rn
    → (n ≡ fill l (header_bytes i g o)) × (rn ≡ 32)
unfolding header_bytes
header_put i g o l a b c d e f h n ra rb rc rd re rf rh rn p1 p2 p3 p4 p5 p6 p7 p8 =
    let q8 = four_put _ _ _ _ _ p8 in
    let q7 = put_put _ _ _ _ _ _ _ _ (four_put _ _ _ _ _ p7) q8 in
    let q6 = put_put _ _ _ _ _ _ _ _ (four_put _ _ _ _ _ p6) q7 in
    let q5 = put_put _ _ _ _ _ _ _ _ (four_put _ _ _ _ _ p5) q6 in
    let q4 = put_put _ _ _ _ _ _ _ _ (four_put _ _ _ _ _ p4) q5 in
    let q3 = put_put _ _ _ _ _ _ _ _ (four_put _ _ _ _ _ p3) q4 in
    let q2 = put_put _ _ _ _ _ _ _ _ (four_put _ _ _ _ _ p2) q3 in
    let q1 = put_filled _ _ _ _ (put_put _ _ _ _ _ _ _ _ (four_put _ _ _ _ _ p1) q2) in
    (q1.0, q1.1 ∙ length_header i g o)

-- one number of two bytes in front of a piece
two_more : (to v : ℕ) (b m : List ℕ) → write (to + 2) b (write to (two v) m) ≡ write to (two v ++ b) m
unfolding two
two_more to v b m = write_write to (two v) b m

-- the outputs from wire w on: what is left to write
pub record Outs (f : ℕ → ℕ) (a n at : ℕ) (l : List ℕ) (w to : ℕ) (m : List ℕ) : Type 0 where
  pub same : write to (output_bytes (map f (count_up w ((a + n) - w)))) m ≡ write at (output_bytes (map f (count_up a n))) l
  pub place : to + 2 * a ≡ at + 2 * w

module _ (f : ℕ → ℕ) (a n at : ℕ) (l : List ℕ) where
  pub outs_start : Outs f a n at l a at l
  outs_start = let k : (a + n) - a ≡ n = omega arith in record { same = rw k; place = refl }

  module _ (w to : ℕ) (m : List ℕ) (s : Outs f a n at l w to m) where
    next_wire : w < a + n → count_up w ((a + n) - w) ≡ w ∷ count_up (w + 1) ((a + n) - (w + 1))
    unfolding count_up
    next_wire h =
        let k : (a + n) - w ≡ suc ((a + n) - (w + 1)) = omega arith in
        let z : w + 1 ≡ suc w = omega arith in
        rw (k, z)

    pub outs_turn : (r : ℕ) (m2 : List ℕ) → w < a + n → m2 ≡ write to (two (f w)) m → r ≡ to + 2 → Outs f a n at l (w + 1) r m2
    unfolding output_bytes
    outs_turn r m2 h p q =
        let u = s.place in
        record {
          same = rw (q, p, two_more to (f w) (output_bytes (map f (count_up (w + 1) ((a + n) - (w + 1))))) m) (rw (next_wire h) at s.same);
          place = omega (arith, q, u);
        }

    pub outs_end : w ≡ a + n → (m ≡ write at (output_bytes (map f (count_up a n))) l) × (to ≡ at + 2 * n)
    unfolding output_bytes count_up
    outs_end h =
        let k : (a + n) - w ≡ 0 = omega (arith, h) in
        let u = s.place in
        (sym (write_none to m) ∙ (rw k at s.same), omega (arith, u, h))

-- one owner, wire by wire
pub owner_turn : (at o n : ℕ) (l m : List ℕ) (k : ℕ) → m ≡ write at (take k (replicate n o)) l → k < n → at + k < length m
    → set m (at + k) o ≡ write at (take (k + 1) (replicate n o)) l
owner_turn at o n l m k e h g =
    let long : length (replicate n o) ≡ n = length-replicate n o in
    ap (set m (at + k)) (sym (get_or-replicate n k o 0 h)) ∙ word_turn at (replicate n o) l m k e (omega (arith, long)) g
