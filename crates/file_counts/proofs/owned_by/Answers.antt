use Rattle.std.proofs.Common.{arith}
use Rattle.file_counts.proofs.CountLaws.{owned_none, owned_yes, owned_no}
use Rattle.file_counts.proofs.owned_by.Goals as goal
use Rattle.file_counts.proofs.owned_by.Goals.{then-owns, else-owns}

pub loop-k-init : goal.loop-k-init
loop-k-init c = (owned_none _ _, omega arith)

pub loop-k-preserved : goal.loop-k-preserved
loop-k-preserved c =
    let i = c.loop-k.invariant in
    elim c.if-owns.branch [
      | then-owns w ↦ rw (w.count-is) (owned_yes _ _ _ _ _ i.0 c.owns.ensures w.if-owns.true, omega (arith, i.1))
      | else-owns w ↦ rw (w.count-is) (owned_no _ _ _ _ _ i.0 c.owns.ensures w.if-owns.false, omega (arith, i.1))
    ]
