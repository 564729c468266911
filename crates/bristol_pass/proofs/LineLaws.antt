-- The lines of a text, from a place on.
--     line_front     where a line begins, it is the first of the lines from there, and the others begin behind its end
--     end_in, next_place    its end is inside the text, and the next line begins further on
-- Assumes nothing.
use mathlib.Core.Path.{◌≡◌, refl, sym, ap, ◌∙◌}
use mathlib.Core.Bool.{Bool, true, false, cond}
use mathlib.Core.List.{List, [], ◌∷◌}
use Prim.Native.Nat.{ℕ, suc, ◌+◌, ◌-◌, ◌<◌, ◌≤◌}
use native.Mathlib.Omega.{arith}
use native.Mathlib.Numerals.{add-one}
use lib.ListN.{length, drop, get_or, drop_of_length-le, length-drop}
use lib.Seq.{drop-cons, drop-drop}
use lib.Dec.{ltb}
use borrow.Author.Tests.{ltb-true, ltb-false}
use Rattle.bristol_text.specs.Words.{Parts, is_lf, split, but_empty_last, lines}
use Rattle.bristol_words.specs.Mirror.{rest_line, line_end}
use Rattle.bristol_pass.specs.Mirror.{behind_of}

-- the lines behind a first part
unfoldable others : List (List ℕ) → List (List ℕ)
others [] = []
others (m ∷ ms) = but_empty_last ms m

unfoldable cut : ℕ → List ℕ → Bool → Parts
cut b t p = cond p (record { head = []; more = (split is_lf t).head ∷ (split is_lf t).more }) (record { head = b ∷ (split is_lf t).head; more = (split is_lf t).more })

lines_behind : (t : List ℕ) → lines (drop (suc (length (split is_lf t).head)) t) ≡ others (split is_lf t).more
unfolding split lines but_empty_last others cut
lines_behind [] = refl
lines_behind (b ∷ t) = go (is_lf b) (lines_behind t)
  where
    go : (p : Bool) → lines (drop (suc (length (split is_lf t).head)) t) ≡ others (split is_lf t).more
        → lines (drop (suc (length (cut b t p).head)) (b ∷ t)) ≡ others (cut b t p).more
    go true ih = refl
    go false ih = ih

lines_first : (b : ℕ) (t : List ℕ) → lines (b ∷ t) ≡ (split is_lf (b ∷ t)).head ∷ others (split is_lf (b ∷ t)).more
unfolding split lines but_empty_last others cut
lines_first b t = go (is_lf b)
  where
    at : (ms : List (List ℕ)) (l : List ℕ) → but_empty_last ms (b ∷ l) ≡ (b ∷ l) ∷ others ms
    at [] l = refl
    at (m ∷ ms) l = refl

    go : (p : Bool) → but_empty_last (cut b t p).more (cut b t p).head ≡ (cut b t p).head ∷ others (cut b t p).more
    go true = refl
    go false = at (split is_lf t).more (split is_lf t).head

front : (t : List ℕ) → 0 < length t → lines t ≡ (split is_lf t).head ∷ lines (drop (suc (length (split is_lf t).head)) t)
front [] h = absurd (omega (arith, h))
front (b ∷ t) h = lines_first b t ∙ ap (λ z. (split is_lf (b ∷ t)).head ∷ z) (sym (lines_behind (b ∷ t)))

-- behind a line's end, with its LF or at the end of the text
drop_behind : (t : List ℕ) (e : ℕ) → drop (behind_of t e) t ≡ drop (suc e) t
unfolding behind_of
drop_behind t e = go (ltb e (length t)) refl
  where
    go : (p : Bool) → ltb e (length t) ≡ p → drop (cond p (e + 1) e) t ≡ drop (suc e) t
    go true q = ap (λ (k : ℕ). drop k t) (add-one e)
    go false q =
        let h : length t ≤ e = ltb-false _ _ q in
        let g : length t ≤ suc e = omega (arith, h) in
        drop_of_length-le t h ∙ sym (drop_of_length-le t g)

pub line_front : (t : List ℕ) (at : ℕ) → at < length t → lines (drop at t) ≡ rest_line t at ∷ lines (drop (behind_of t (line_end t at)) t)
line_front t at h =
    let s : drop at t ≡ get_or t at 0 ∷ drop (suc at) t = drop-cons t at 0 h in
    let some : 0 < length (drop at t) = rw s (omega arith) in
    let k : at + suc (length (rest_line t at)) ≡ suc (line_end t at) = omega arith in
    front (drop at t) some
    ∙ ap (λ z. rest_line t at ∷ lines z) (drop-drop (suc (length (rest_line t at))) at t ∙ ap (λ (n : ℕ). drop n t) k ∙ sym (drop_behind t (line_end t at)))

behind_above : (t : List ℕ) (at e : ℕ) → at < length t → at ≤ e → at < behind_of t e
unfolding behind_of
behind_above t at e h g = go (ltb e (length t)) refl
  where
    go : (p : Bool) → ltb e (length t) ≡ p → at < cond p (e + 1) e
    go true q = omega (arith, g)
    go false q = let k : length t ≤ e = ltb-false _ _ q in omega (arith, h, k)

behind_inside : (t : List ℕ) (e : ℕ) → e ≤ length t → behind_of t e ≤ length t
unfolding behind_of
behind_inside t e g = go (ltb e (length t)) refl
  where
    go : (p : Bool) → ltb e (length t) ≡ p → cond p (e + 1) e ≤ length t
    go true q = let k : e < length t = ltb-true _ _ q in omega (arith, k)
    go false q = g

-- a line's end is no further than the text's
rest_short : (t : List ℕ) → length (split is_lf t).head ≤ length t
unfolding split cut
rest_short [] = omega arith
rest_short (b ∷ t) = go (is_lf b) (rest_short t)
  where
    go : (p : Bool) → length (split is_lf t).head ≤ length t → length (cut b t p).head ≤ suc (length t)
    go true ih = omega arith
    go false ih = omega (arith, ih)

end_inside : (t : List ℕ) (at : ℕ) → at ≤ length t → line_end t at ≤ length t
end_inside t at h =
    let k = rest_short (drop at t) in
    let d : length (drop at t) ≡ length t - at = length-drop at t in
    omega (arith, k, d, h)

-- as the loop meets them
pub end_in : (t : List ℕ) (at end : ℕ) → at ≤ length t → end ≡ line_end t at → end ≤ length t
end_in t at end h e = let k = end_inside t at h in omega (arith, k, e)

pub next_place : (t : List ℕ) (at end after : ℕ) → at < length t → end ≡ line_end t at → after ≡ behind_of t end → (at < after) × (after ≤ length t)
next_place t at end after h e q =
    let up = behind_above t at end h (omega (arith, e)) in
    let inside = behind_inside t end (end_in t at end (omega (arith, h)) e) in
    (omega (arith, up, q), omega (arith, inside, q))
