-- Where the tapes begin.
-- Assumes nothing.
use mathlib.Core.Path.{◌≡◌, ap, ◌∙◌}
use mathlib.Core.List.{List}
use Prim.Native.Nat.{ℕ, ◌+◌, ◌*◌}
use native.Mathlib.Omega.{arith}
use Rattle.theory_sharing.specs.Sites.{s1, s2}
use Rattle.theory_sharing.specs.Circuit.{ands, all_ands, owned, all_owned}
use Rattle.theory_sharing.specs.Tapes.{tape_length}
use Rattle.theory_calls.specs.File.{circuit}
use Rattle.file_header.specs.declared.Counts.{Counts}
use Rattle.file_header.specs.Opened.{Opened}
use Rattle.run_passes.specs.Mirror.{placed}
use Rattle.run_laws.specs.Loops.{base, in_places, in_place}

-- where the tapes begin
pub begins : (f : List ℕ) (c : Counts) (a p q : ℕ) → Opened f c → a ≡ ands (circuit f).gate c.gates
    → p ≡ owned (circuit f).owner s1 c.inputs → q ≡ owned (circuit f).owner s2 c.inputs
    → placed 0 (2 * (p + a)) (2 * (p + a) + 2 * (q + a)) 0 ≡ in_place (circuit f) 0
unfolding in_places base tape_length owned
begins f c a p q o ea ep eq =
    let A : a ≡ all_ands (circuit f) = ea ∙ ap (ands (circuit f).gate) o.gates_are in
    let P : p ≡ all_owned (circuit f) s1 = ep ∙ ap (owned (circuit f).owner s1) o.ins_are in
    let Q : q ≡ all_owned (circuit f) s2 = eq ∙ ap (owned (circuit f).owner s2) o.ins_are in
    let z : (k : ℕ) → k ≡ k + 0 = λ k. omega arith in
    (λ i. placed 0 (2 * (P i + A i)) (2 * (P i + A i) + 2 * (Q i + A i)) 0) ∙ (λ i. placed 0 (z (tape_length (circuit f) s1) i) (z (tape_length (circuit f) s1 + tape_length (circuit f) s2) i) 0)
