use Rattle.file_numbers.proofs.CopyLaws.{copy_all}
use Rattle.file_numbers.proofs.copy.Goals as goal

pub returns : goal.returns
returns c = copy_all _ _ _ c.requires c.copy_first.ensures
