use Rattle.run_steps.proofs.MirrorLaws.{part_back}
use Rattle.retape_pairs.proofs.put_in.Goals as goal

pub returns : goal.returns
returns c = part_back _ _ _ _ _ c.put_pair.ensures
