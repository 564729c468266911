-- The check finds it alone. It stands here so that a count that is not A is refused at this fact, and not where a search gives up.
use Rattle.file_counts.proofs.CountedFromCircuit.from.Goals as goal

pub invariant_of-result : goal.invariant_of-result
invariant_of-result c = record { counted = (c.count_ands-ands.ensures.value, c.count_ands-ands.ensures.bound) }
