use mathlib.Core.Path.{◌≡◌}
use lib.ListN.{take}
use Rattle.theory_sharing.specs.Store.{fill}
use Rattle.file_numbers.proofs.copy_first.Given as goal

abbrev pub invariant-loop-k : goal.invariant-loop-k
invariant-loop-k l = l.to ≡ fill l.initial.to (take l.k l.from)
