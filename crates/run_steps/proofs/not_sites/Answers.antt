use Rattle.run_steps.specs.Mirror.{not_gate}
use Rattle.run_steps.proofs.MirrorLaws.{parts_back}
use Rattle.run_steps.proofs.not_sites.Goals as goal

pub returns : goal.returns
unfolding not_gate
returns c = parts_back _ _ _ _ _ _ _ _ c.flip_step.ensures c.flip_step-2.ensures c.flip_step-3.ensures
