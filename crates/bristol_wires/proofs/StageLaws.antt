-- The stage of a text stays one of four, which its number's type does not say: there were at most 3 header lines.
--     stage_first     before the first line
--     stage_after     behind a line, where it was so before
--     stage_behind    behind a pass, where it was so before
-- Assumes nothing.
use mathlib.Core.Bool.{cond}
use mathlib.Core.List.{List, [], ◌∷◌}
use Prim.Native.Nat.{ℕ, ◌+◌, ◌≤◌}
use native.Mathlib.Omega.{arith}
use lib.Dec.{eqb}
use Rattle.std.proofs.Common.{Option, None, Some}
use Rattle.std.proofs.lemmas.Bool.{cond_both}
use Rattle.bristol_text.specs.Words.{words}
use Rattle.bristol_text.specs.declared.Says.{Says}
use Rattle.bristol_text.specs.declared.Says.TheVariants.{Blank, Counts, Widths, Other, Xor, And, Inv, Eqw}
use Rattle.bristol_wires.specs.declared.Text.{Text}
use Rattle.bristol_wires.specs.Mirror.{fault_of, map_after, gates_after, after_counts, after_widths, after_gate, text_after, nothing_read}
use Rattle.bristol_wires.specs.Pass.{Passed, says_by, pass_from}

abbrev pub OneOfFour : Text → Type 0
OneOfFour t = t.stage ≤ 3

pub stage_first : OneOfFour nothing_read
unfolding nothing_read
stage_first = omega arith

pub stage_after : (t : Text) (a : Option Says) → OneOfFour t → OneOfFour (text_after t a)
unfolding text_after after_counts after_widths after_gate
stage_after t None h = h
stage_after t (Some Blank) h = h
stage_after t (Some (Counts g w)) h = omega arith
stage_after t (Some (Widths v s)) h = cond_both (eqb t.stage 1) _ _ OneOfFour (λ _. omega arith) (λ _. omega arith)
stage_after t (Some Other) h = h
stage_after t (Some (Xor x y z)) h = h
stage_after t (Some (And x y z)) h = h
stage_after t (Some (Inv x z)) h = h
stage_after t (Some (Eqw x z)) h = h

pub stage_behind : (n : ℕ) (t : Text) (ws : List (List ℕ)) (m g : List ℕ) (ls : List (List ℕ)) → OneOfFour t → OneOfFour (pass_from n t ws m g ls).text
unfolding pass_from
stage_behind n t ws m g [] h = h
stage_behind n t ws m g (l ∷ ls) h =
    let s = says_by t (words l) in
    cond_both (eqb (fault_of t m s) 0) _ _ (λ (p : Passed). OneOfFour p.text)
    (λ _. stage_behind (n + 1) (text_after t s) (cond (eqb t.stage 1) (words l) ws) (map_after t m s) (gates_after t m s g) ls (stage_after t s h)) (λ _. h)
