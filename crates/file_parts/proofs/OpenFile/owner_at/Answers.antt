use Rattle.std.proofs.Common.{refl}
use Rattle.theory_calls.specs.File.{owner_at}
use Rattle.file_parts.proofs.OpenFile.owner_at.Goals as goal

pub returns : goal.returns
unfolding owner_at
returns c = refl
