use Rattle.std.proofs.Common.{sym}
use Rattle.std.proofs.lemmas.Result.{err_from_is_err_and}
use Rattle.file_parts.proofs.ReaderLaws.{output_refused}
use Rattle.file_reader.proofs.ReadLaws.{output_in}
use Rattle.file_reader.proofs.output_of.Goals as goal

pub returns-in_err-counts : goal.returns-in_err-counts
returns-in_err-counts c =
    let p = err_from_is_err_and c.from_residual.result c.from_residual.ensures.1 in
    rw (p.1, p.2) (output_refused _ _ _ (sym c.in_err-counts.ensures.value))

pub returns : goal.returns
returns c = output_in _ _ _ c.in_ok-counts.ensures.value c.in_ok-counts.ensures.opened _ c.output.ensures
