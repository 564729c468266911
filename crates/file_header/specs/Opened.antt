-- What checks 1 to 3 leave for whoever reads by the counts: they are the file's, within their limits, and make its length.
use Rattle.std.specs.Prelude.{◌≡◌, List, ℕ, ◌+◌, ◌*◌, ◌≤◌, length, Result, Ok, Err}
use Rattle.theory_calls.specs.File.{inputs_of, gates_of, outputs_of}
use Rattle.check_refusal.specs.declared.Refusal.{Refusal}
use Rattle.file_header.specs.declared.Counts.{Counts}

pub record Opened (s : List ℕ) (c : Counts) : Type 0 where
  pub ins_are : c.inputs ≡ inputs_of s
  pub gates_are : c.gates ≡ gates_of s
  pub outs_are : c.outputs ≡ outputs_of s
  pub few_inputs : c.inputs ≤ 1024
  pub few_gates : c.gates ≤ 3072
  pub few_outputs : c.outputs ≤ 256
  pub as_long : length s ≡ 32 + c.inputs + 6 * c.gates + 2 * c.outputs

-- of the header's answer: where it is good
abbrev pub IsOpened : Result Counts Refusal → List ℕ → Type 0
IsOpened (Ok c) s = Opened s c
IsOpened (Err e) s = Unit {0}
