use Rattle.run_steps.specs.Mirror.{takes}
use Rattle.run_steps.proofs.MirrorLaws.{parts_back}
use Rattle.run_steps.proofs.and_take.Goals as goal

pub returns : goal.returns
unfolding takes
returns c = parts_back _ _ _ _ _ _ _ _ c.take_site.ensures c.take_site-2.ensures c.take_site-3.ensures
