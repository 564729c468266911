use Rattle.run_steps.specs.Mirror.{add_gate}
use Rattle.run_steps.proofs.MirrorLaws.{parts_back}
use Rattle.run_steps.proofs.add_sites.Goals as goal

pub returns : goal.returns
unfolding add_gate
returns c = parts_back _ _ _ _ _ _ _ _ c.add_step.ensures c.add_step-2.ensures c.add_step-3.ensures
