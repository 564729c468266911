use Rattle.theory_sharing.proofs.FirstLaws.{clear_none}
use Rattle.check_refusal.proofs.FoundLaws.{hit_is, end_is}
use Rattle.check_circuit.proofs.first_output.Goals as goal

pub loop-k-init : goal.loop-k-init
loop-k-init c = clear_none _

pub returns-then-output_bad : goal.returns-then-output_bad
returns-then-output_bad c = hit_is _ _ _ _ c.loop-k.invariant c.loop-k-test.true c.output_bad.ensures c.if-output_bad.true

pub returns : goal.returns
returns c = end_is _ _ _ c.loop-k.invariant c.loop-k.auto.k-end c.loop-k-test.false
