use Rattle.theory_calls.specs.File.{output_at}
use Rattle.file_parts.proofs.OpenFile.output_at.Goals as goal

pub returns : goal.returns
unfolding output_at
returns c = cc
