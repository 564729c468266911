-- The lengths from the counts of a checked circuit are those that the calls ask for.
-- Assumes nothing.
use mathlib.Core.Path.{◌≡◌, ap, ◌∙◌}
use mathlib.Core.List.{List}
use Prim.Native.Nat.{ℕ}
use Rattle.theory_sharing.specs.Sites.{s1, s2, s3}
use Rattle.theory_sharing.specs.Circuit.{ands, owned}
use Rattle.theory_calls.specs.File.{circuit, site_of}
use Rattle.file_header.specs.declared.Counts.{Counts}
use Rattle.file_header.specs.Opened.{Opened}
use Rattle.door_answers.specs.Sizes.{sizes_of}
use Rattle.door_answers.specs.Mirror.{sizes_from}

pub sizes_law : (f : List ℕ) (c : Counts) (a b1 b2 b3 : ℕ) → Opened f c → a ≡ ands (circuit f).gate c.gates
    → b1 ≡ owned (circuit f).owner s1 c.inputs
    → b2 ≡ owned (circuit f).owner s2 c.inputs
    → b3 ≡ owned (circuit f).owner s3 c.inputs
    → sizes_from c.inputs c.gates c.outputs a b1 b2 b3 ≡ sizes_of (circuit f)
unfolding site_of
sizes_law f c a b1 b2 b3 o ea e1 e2 e3 =
    let I = o.ins_are in
    let G = o.gates_are in
    let O = o.outs_are in
    let A = ea ∙ ap (ands (circuit f).gate) G in
    let S1 = e1 ∙ ap (owned (circuit f).owner s1) I in
    let S2 = e2 ∙ ap (owned (circuit f).owner s2) I in
    let S3 = e3 ∙ ap (owned (circuit f).owner s3) I in
    λ i. sizes_from (I i) (G i) (O i) (A i) (S1 i) (S2 i) (S3 i)
