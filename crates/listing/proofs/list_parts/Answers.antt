use mathlib.Core.Path.{ap, ◌∙◌}
use mathlib.Core.List.{List}
use Prim.Native.Nat.{ℕ, ◌-◌}
use lib.ListN.{take, drop}
use Rattle.listing.specs.Mirror.{says}
use Rattle.listing.proofs.JobLaws.{to_the_end}
use Rattle.listing.proofs.list_parts.Goals as goal

pub returns : goal.returns
returns c =
    let a = c.args in
    let j : List ℕ = a.job.now in
    c.list.ensures ∙ ap (λ (l : List ℕ). says (take (a.i - 16) (drop 16 j)) (take (a.t - a.i) (drop a.i j)) l a.text.now) (to_the_end a.t j)
