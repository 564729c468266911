use Rattle.run_steps.specs.Mirror.{put_held}
use Rattle.run_steps.proofs.MirrorLaws.{parts_back}
use Rattle.run_steps.proofs.put_held.Goals as goal

pub returns : goal.returns
unfolding put_held
returns c = parts_back _ _ _ _ _ _ _ _ c.put_pair.ensures c.put_pair-2.ensures c.put_pair-3.ensures
