-- What checks 1 to 6 leave: the facts about an accepted circuit that later crates cite.
use Rattle.std.specs.Prelude.{◌≡◌, true, List, ℕ, ◌+◌, ◌<◌, Result, Ok, Err}
use Rattle.std.proofs.Props.{props}
use Rattle.theory_calls.specs.File.{kind_at, first_at, second_at, owner_at, output_at}
use Rattle.theory_calls.specs.Checks.{one_to_three, good_gate}
use Rattle.theory_calls.specs.Calls.{Call, Check, Accepts}
use Rattle.check_refusal.specs.declared.Refusal.{Refusal}
use Rattle.file_header.specs.declared.Counts.{Counts}
use Rattle.file_header.specs.Opened.{Opened}

-- the check accepts: every owner is 1 to 3, every gate is good (its operands lower wires), every output is a wire
pub record Checked (s : List ℕ) (c : Counts) : Type 0 where
  pub opened : Opened s c
  pub passes : Accepts (Check s)
  pub owners : (k : ℕ) → k < c.inputs → one_to_three (owner_at s k) ≡ true
  pub gates : (k : ℕ) → k < c.gates → good_gate (kind_at s c.inputs k) (first_at s c.inputs k) (second_at s c.inputs k) (c.inputs + k) ≡ true
  pub outputs : (k : ℕ) → k < c.outputs → output_at s c.inputs c.gates k < c.inputs + c.gates

-- of the check's answer: where it is good
abbrev pub IsChecked : Result Counts Refusal → List ℕ → Type 0
IsChecked (Ok c) s = Checked s c
IsChecked (Err e) s = Unit {0}

-- it has one proof at most, so that a struct may keep it
accepts_prop : (d : Call) → IsProp (Accepts d)
unfolding Accepts
accepts_prop d = hlevel

pub checked_prop : (s : List ℕ) (c : Counts) → IsProp (Checked s c)
checked_prop s c = hlevel (props, accepts_prop)
