use Rattle.theory_sharing.proofs.FirstLaws.{clear_none}
use Rattle.check_refusal.proofs.FoundLaws.{hit_is, end_is}
use Rattle.retape_differs.proofs.first_opened.Goals as goal

pub loop-k-init : goal.loop-k-init
loop-k-init c = clear_none _

pub returns-then-opened_bad : goal.returns-then-opened_bad
returns-then-opened_bad c = hit_is _ _ _ _ c.loop-k.invariant c.loop-k-test.true c.opened_bad.ensures c.if-opened_bad.true

pub returns : goal.returns
returns c = end_is _ _ _ c.loop-k.invariant c.loop-k.auto.k-end c.loop-k-test.false
