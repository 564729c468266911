-- What the pass says, by places in a text. No public contract cites these.
--     behind_of    the place behind a line's end
--     ended_pass   where a pass over slices ended, with what it left in the map, the gates and of the lines, as the pass over lines has it
--     told_pass    a Pass, with what it left in the map, the gates and of the lines, as the pass over lines has it
--     Told         a pass that ended, and one that stopped: the refusal of its last line, and what the lines before that one left (Stopped, Left)
use Rattle.std.specs.Prelude.{◌≡◌, cond, List, ℕ, ◌+◌, length, ltb, Result, Ok, Err}
use Rattle.check_refusal.specs.declared.Refusal.{Refusal}
use Rattle.check_refusal.specs.Number.{number_of, place_of}
use Rattle.bristol_words.specs.Mirror.{words_at}
use Rattle.bristol_wires.specs.declared.Numbering.{Numbering}
use Rattle.bristol_wires.specs.Pass.{Passed}
use Rattle.bristol_pass.specs.declared.Pass.{Pass}
use Rattle.bristol_pass.specs.declared.Ended.{Ended}

unfoldable pub behind_of : List ℕ → ℕ → ℕ
behind_of t end = cond (ltb end (length t)) (end + 1) end

-- the number of a refusal, 0 for none
abbrev pub fault_number : {A : Type 0} → Result A Refusal → ℕ
fault_number (Ok a) = 0
fault_number (Err e) = number_of e

abbrev pub ended_pass : List ℕ → Ended → List ℕ → List ℕ → Passed
ended_pass t r m g = record { fault = fault_number r.check; line = r.pass.lines; text = r.text; words = words_at t r.pass.seat; map = m; gates = g }

abbrev pub told_pass : List ℕ → Pass → Numbering → Passed
told_pass t r n = record { fault = 0; line = r.lines; text = n.text; words = words_at t r.seat; map = n.map; gates = n.gates }

-- the pass stopped with a refusal
pub record Stopped (e : Refusal) (p : Passed) : Type 0 where
  pub faulty : ¬ (p.fault ≡ 0)
  pub number : number_of e ≡ p.fault
  pub place : place_of e ≡ p.line

-- a numbering is what the lines before left
pub record Left (n : Numbering) (p : Passed) : Type 0 where
  pub text : n.text ≡ p.text
  pub map : n.map ≡ p.map
  pub gates : n.gates ≡ p.gates

abbrev pub Told : List ℕ → Result Pass Refusal → Numbering → Passed → Type 0
Told t (Ok r) n p = told_pass t r n ≡ p
Told t (Err e) n p = Stopped e p × Left n p
