-- The owners of all values, whose widths are read from the text word by word.
--     Width, width                the next width, and those behind it
--     Owners, owners_start, owners_turn, owners_end    what is left to write
--     here, here_total, here_room    a turn's width, and room for it
-- Assumes nothing.
use mathlib.Core.Path.{◌≡◌, refl, sym, ap, ap₂, ◌∙◌, subst}
use mathlib.Core.Bool.{Bool, true, false, true≢false}
use mathlib.Core.List.{List, [], ◌∷◌}
use Prim.Native.Nat.{ℕ, suc, ◌+◌, ◌-◌, ◌<◌, ◌≤◌}
use native.Mathlib.Omega.{arith}
use native.Mathlib.Numerals.{add-one}
use lib.ListN.{length, get_or, drop, replicate, length-replicate, drop_of_length-le}
use lib.Seq.{drop-cons}
use Rattle.std.proofs.Common.{Option, None, Some}
use Rattle.bristol_text.specs.Lines.{Numbers, are, broken, with_number, numbers, total}
use Rattle.bristol_text.specs.Renamed.{spread}
use Rattle.bristol_words.specs.declared.Word.{Word}
use Rattle.bristol_words.specs.Mirror.{words_at, told, told_number, Next}
use Rattle.file_writer.specs.Mirror.{write}
use Rattle.file_writer.proofs.WriteLaws.{write_write, write_none}
use Rattle.bristol_file.specs.Mirror.{listed, widths_in, Widths}

unfoldable is_broken : Numbers → Bool
is_broken (are xs) = false
is_broken broken = true

not_broken : (xs : List ℕ) → broken ≡ are xs → ⊥
unfolding is_broken
not_broken xs e = true≢false (ap is_broken e)

-- a line's numbers, by its first word and the others
pub one_read : (o : Option ℕ) (ns : Numbers) (xs : List ℕ) → with_number (told o) ns ≡ are xs
    → (v : ℕ) × (o ≡ Some v) × (xs ≡ v ∷ listed ns) × (ns ≡ are (listed ns))
unfolding with_number listed
one_read None ns xs e = absurd (not_broken xs e)
one_read (Some v) broken xs e = absurd (not_broken xs e)
one_read (Some v) (are ys) xs e = (v, refl, ap listed (sym e), refl)

no_word : (t : List ℕ) (e n : ℕ) → Widths t e (suc n) → words_at t e ≡ [] → ⊥
unfolding numbers listed
no_word t e n ws q = let k : length (widths_in t e) ≡ 0 = rw q in let m = ws.many in omega (arith, k, m)

-- the next width, and the others
pub record Width (t : List ℕ) (e : ℕ) (w : Word) (n : ℕ) : Type 0 where
  pub wide : ℕ
  pub number : w.number ≡ Some wide
  pub first : widths_in t e ≡ wide ∷ widths_in t w.end
  pub rest : Widths t w.end n

module _ (t : List ℕ) (e : ℕ) (w : Word) (next : Next t e w) (n : ℕ) (ws : Widths t e (suc n)) where
  pub width : Width t e w n
  unfolding numbers
  width =
      let order = next.order in
      let apart : w.start ≡ w.end → ⊥ = λ q. no_word t e n ws (next.last q).0 in
      let more = next.more (omega (arith, order, apart)) in
      let all : with_number (told_number w) (numbers (words_at t w.end)) ≡ are (widths_in t e) = ap (λ k. with_number k (numbers (words_at t w.end))) next.number ∙ ap numbers (sym more) ∙ ws.all in
      let r = one_read w.number (numbers (words_at t w.end)) (widths_in t e) all in
      let long : length (widths_in t e) ≡ suc (length (widths_in t w.end)) = ap length r.2 in
      let m = ws.many in
      record { wide = r.0; number = r.1; first = r.2; rest = record { all = r.3; many = omega (arith, long, m) } }

none_left : (t : List ℕ) (e : ℕ) → Widths t e 0 → total (widths_in t e) ≡ 0
unfolding total
none_left t e ws = go (widths_in t e) ws.many
  where
    go : (xs : List ℕ) → length xs ≡ 0 → total xs ≡ 0
    go [] h = refl
    go (x ∷ xs) h = omega (arith, h)

-- v of n owners are written, and what is left goes to place to
pub record Owners (t os : List ℕ) (seat at : ℕ) (l : List ℕ) (v e to : ℕ) (m : List ℕ) : Type 0 where
  pub inside : e ≤ length t
  pub widths : Widths t e (length os - v)
  pub same : write to (spread (drop v os) (widths_in t e)) m ≡ write at (spread os (widths_in t seat)) l
  pub place : to + total (widths_in t e) ≡ at + total (widths_in t seat)

pub owners_start : (t os : List ℕ) (seat at : ℕ) (l : List ℕ) → seat ≤ length t → Widths t seat (length os) → Owners t os seat at l 0 seat at l
owners_start t os seat at l h ws =
    let k : length os ≡ length os - 0 = omega arith in
    record { inside = h; widths = subst (Widths t seat) k ws; same = refl; place = refl }

module _ (t os : List ℕ) (seat at : ℕ) (l : List ℕ) (v e to : ℕ) (m : List ℕ) (s : Owners t os seat at l v e to m) where
  module _ (h : v < length os) (w : Word) (next : Next t e w) where
    pub here : Width t e w (length os - (v + 1))
    here = let k : length os - v ≡ suc (length os - (v + 1)) = omega arith in width t e w next (length os - (v + 1)) (subst (Widths t e) k s.widths)

    pub here_total : total (widths_in t e) ≡ here.wide + total (widths_in t w.end)
    unfolding total
    here_total = ap total here.first

    pub here_room : (x : ℕ) → w.number ≡ Some x → to + x ≤ at + total (widths_in t seat)
    here_room x q =
        let d = here in
        let n = sym d.number ∙ q in
        let k : d.wide ≡ x = cc in
        let p = s.place in
        omega (arith, here_total, k, p)

    pub owners_turn : (x r : ℕ) (m2 : List ℕ) → w.number ≡ Some x → m2 ≡ write to (replicate x (get_or os v 0)) m → r ≡ to + x → Owners t os seat at l (v + 1) w.end r m2
    unfolding spread
    owners_turn x r m2 y p q =
        let d = here in
        let n = sym d.number ∙ y in
        let z : d.wide ≡ x = cc in
        let f : widths_in t e ≡ x ∷ widths_in t w.end = rw z at d.first in
        let b = spread (drop (v + 1) os) (widths_in t w.end) in
        let one = replicate x (get_or os v 0) in
        let c : drop v os ≡ get_or os v 0 ∷ drop (v + 1) os = rw add-one (drop-cons os v 0 h) in
        let k : to + x ≡ to + length one = ap (λ (i : ℕ). to + i) (sym (length-replicate x (get_or os v 0))) in
        let u = s.place in
        record {
          inside = next.inside;
          widths = d.rest;
          same = ap₂ (λ (i : ℕ) z. write i b z) (q ∙ k) p ∙ write_write to one b m ∙ (rw (c, f) at s.same);
          place = omega (arith, q, here_total, z, u);
        }

  pub owners_end : length os ≤ v → (m ≡ write at (spread os (widths_in t seat)) l) × (to ≡ at + total (widths_in t seat))
  unfolding spread total
  owners_end h =
      let k : length os - v ≡ 0 = omega arith in
      let z = none_left t e (subst (Widths t e) k s.widths) in
      let u = s.place in
      (sym (rw (drop_of_length-le os h) (write_none to m)) ∙ s.same, omega (arith, z, u))
