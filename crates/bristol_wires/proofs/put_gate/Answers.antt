use borrow.Author.Tests.{lt-ltb}
use mathlib.Core.List.{◌++◌}
use Rattle.theory_files.specs.Written.{two, gate_bytes}
use Rattle.file_writer.proofs.WriteLaws.{put_put}
use Rattle.bristol_wires.specs.Mirror.{gate_put}
use Rattle.bristol_wires.proofs.put_gate.Goals as goal

pub returns-then-made-lt3072 : goal.returns-then-made-lt3072
unfolding gate_put two gate_bytes
returns-then-made-lt3072 c =
    let e = c.put_u16-e.ensures in
    let f = c.put_u16-f.ensures in
    let h = c.put_u16.ensures in
    simp (lt-ltb _ _ c.if-made-lt3072.true)
    (put_put _ (two _) (two _ ++ two _) _ _ _ _ _ (e.to_after, e.value) (put_put _ (two _) (two _) _ _ _ _ _ (f.to_after, f.value) (h.to_after, h.value))).0
