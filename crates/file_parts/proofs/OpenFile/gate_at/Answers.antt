use Rattle.theory_calls.specs.File.{kind_at, first_at, second_at}
use Rattle.file_parts.proofs.OpenFile.gate_at.Goals as goal

pub returns : goal.returns
unfolding kind_at first_at second_at
returns c = cc
