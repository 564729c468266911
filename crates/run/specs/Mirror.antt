-- What the inner functions of a run lean on. No public contract cites this.
--     Ready            what the checks leave: the lengths of all but the outputs
use Rattle.std.specs.Prelude.{◌≡◌, List, ℕ, ◌+◌, ◌*◌}
use Rattle.theory_calls.specs.File.{circuit}
use Rattle.theory_calls.specs.Checks.{tapes_want, line_want}
use Rattle.file_header.specs.declared.Counts.{Counts}
use Rattle.file_parts.specs.Checked.{Checked}

pub record Ready (f : List ℕ) (c : Counts) (x t l r s : ℕ) : Type 0 where
  pub checked : Checked f c
  pub lx : x ≡ c.inputs
  pub lt : t ≡ tapes_want (circuit f)
  pub ll : l ≡ line_want (circuit f)
  pub lr : r ≡ line_want (circuit f)
  pub ls : s ≡ 6 * (c.inputs + c.gates)
