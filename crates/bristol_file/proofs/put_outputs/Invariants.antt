use Prim.Native.Nat.{◌-◌}
use Rattle.bristol_wires.specs.Mirror.{ours_of}
use Rattle.bristol_file.proofs.FileLaws.{Outs}
use Rattle.bristol_file.proofs.put_outputs.Given as goal

abbrev pub invariant-loop-w : goal.invariant-loop-w
invariant-loop-w l = Outs (ours_of l.map l.t.ins) (l.t.wires - l.t.outs) l.t.outs l.at l.initial.room l.w l.to l.room
