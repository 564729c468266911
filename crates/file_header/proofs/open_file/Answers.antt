use Rattle.file_header.proofs.OpenLaws.{open_law}
use Rattle.file_header.proofs.open_file.Goals as goal

pub returns : goal.returns
returns c = open_law _ c.read_header.result c.read_header.ensures.value c.read_header.ensures.opened
