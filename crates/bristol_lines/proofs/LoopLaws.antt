-- A turn of the loops over widths and over wires: what the words still to come make is what all of them do.
--     start, turn                                  before the first turn, and behind one
--     Sums, sums_start, sums_on, sums_stop, sums_end      widths
--     Keeps, keeps_start, keeps_on, keeps_stop, keeps_end    wires
-- Assumes nothing.
use mathlib.Core.Path.{◌≡◌, refl, sym, ◌∙◌}
use mathlib.Core.List.{List}
use Prim.Native.Nat.{ℕ, suc, ◌+◌, ◌-◌, ◌≤◌, ◌<◌}
use native.Mathlib.Omega.{arith}
use lib.ListN.{length}
use Rattle.std.proofs.Common.{Option, None, Some}
use Rattle.bristol_words.specs.declared.Word.{Word}
use Rattle.bristol_words.specs.Mirror.{words_at, Next}
use Rattle.bristol_lines.specs.declared.Sum.{Sum}
use Rattle.bristol_lines.specs.declared.Wires.{Wires}
use Rattle.bristol_lines.specs.Mirror.{Behind, sums, Summed, keeps, WiresRead}
use Rattle.bristol_lines.proofs.SeenLaws.{seen_next}
use Rattle.bristol_lines.proofs.WidthsLaws.{sums_none, sums_large, sums_go}
use Rattle.bristol_lines.proofs.WiresLaws.{keeps_none, keeps_large, keeps_go}

-- k of n widths are added, with the sum s, and the next stands behind e
pub record Sums (t : List ℕ) (at n W k s e : ℕ) : Type 0 where
  pub few : s ≤ W
  pub place : Behind t at e
  pub same : sums W (n - k) s (words_at t e) ≡ sums W n 0 (words_at t at)

pub sums_start : (t : List ℕ) (at n W : ℕ) → at ≤ length t → Sums t at n W 0 0 at
sums_start t at n W h = let z : n - 0 ≡ n = omega arith in record { few = omega arith; place = record { inside = h; line = refl }; same = rw z }

-- k of n wires are read, the last three of them x, y, z, and the next stands behind e
pub record Keeps (t : List ℕ) (at n W k : ℕ) (r : Wires) : Type 0 where
  pub place : Behind t at r.end
  pub same : keeps W (n - k) r.x r.y r.z (words_at t r.end) ≡ keeps W n 0 0 0 (words_at t at)

pub keeps_start : (t : List ℕ) (at n W : ℕ) → at ≤ length t → Keeps t at n W 0 (record { x = 0; y = 0; z = 0; end = at })
keeps_start t at n W h = let z : n - 0 ≡ n = omega arith in record { place = record { inside = h; line = refl }; same = rw z }

-- a word behind a place is behind the first
behind_word : (t : List ℕ) (at e : ℕ) (r : Word) → Behind t at e → Next t e r → Behind t at r.end
behind_word t at e r b m = record { inside = m.inside; line = m.line ∙ b.line }

module _ (t : List ℕ) (at n W k s e : ℕ) (h : Sums t at n W k s e) where
  pub sums_end : n ≤ k → Summed t at n W (Some (record { sum = s; end = e }))
  unfolding sums
  sums_end l = let z : n - k ≡ 0 = omega arith in record { same = rw z at h.same; place = h.place }

  module _ (r : Word) (l : k < n) (m : Next t e r) where
    step : n - k ≡ suc (n - (k + 1))
    step = omega arith

    pub sums_no : (o : Option Sum) → o ≡ None → r.number ≡ None → Summed t at n W o
    sums_no o i q = rw i (record { same = sym (sums_none W (n - (k + 1)) s _ _ _ r (seen_next t e r m) q) ∙ (rw step at h.same); place = tt })

    pub sums_over : (o : Option Sum) → o ≡ None → (x : ℕ) → r.number ≡ Some x → W < s + x → Summed t at n W o
    sums_over o i x q g = rw i (record { same = sym (sums_large W (n - (k + 1)) s _ _ _ r (seen_next t e r m) x q g) ∙ (rw step at h.same); place = tt })

    pub sums_on : (x : ℕ) → r.number ≡ Some x → s + x ≤ W → Sums t at n W (k + 1) (s + x) r.end
    sums_on x q g = record {
      few = g;
      place = behind_word t at e r h.place m;
      same = sym (sums_go W (n - (k + 1)) s _ _ _ r (seen_next t e r m) x q g) ∙ (rw step at h.same);
    }

module _ (t : List ℕ) (at n W k : ℕ) (w : Wires) (h : Keeps t at n W k w) where
  pub keeps_end : n ≤ k → WiresRead t at n W (Some w)
  unfolding keeps
  keeps_end l = let z : n - k ≡ 0 = omega arith in record { same = rw z at h.same; place = h.place }

  module _ (r : Word) (l : k < n) (m : Next t w.end r) where
    next : n - k ≡ suc (n - (k + 1))
    next = omega arith

    pub keeps_no : (o : Option Wires) → o ≡ None → r.number ≡ None → WiresRead t at n W o
    keeps_no o i q = rw i (record { same = sym (keeps_none W (n - (k + 1)) w.x w.y w.z _ _ _ r (seen_next t w.end r m) q) ∙ (rw next at h.same); place = tt })

    pub keeps_over : (v : ℕ) → r.number ≡ Some v → W ≤ v → WiresRead t at n W None
    keeps_over v q g = record { same = sym (keeps_large W (n - (k + 1)) w.x w.y w.z _ _ _ r (seen_next t w.end r m) v q g) ∙ (rw next at h.same); place = tt }

    pub keeps_on : (v : ℕ) → r.number ≡ Some v → v < W → Keeps t at n W (k + 1) (record { x = w.y; y = w.z; z = v; end = r.end })
    keeps_on v q g = record {
      place = behind_word t at w.end r h.place m;
      same = sym (keeps_go W (n - (k + 1)) w.x w.y w.z _ _ _ r (seen_next t w.end r m) v q g) ∙ (rw next at h.same);
    }
