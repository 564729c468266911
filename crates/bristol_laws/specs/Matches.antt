-- What code knows behind lines without a fault, against what was heard. No public contract cites it.
--     capped     a count of our gates as code keeps it: 3,073 stands for all above 3,072
--     Fine       the limits under which numbers and gates are looked at
--     all_entered    each wire of a list has an entry
--     Matches    h was heard; code has t, the words ws of the inputs' line, the map m and our gates g
use Rattle.std.specs.Prelude.{◌≡◌, Bool, true, not, cond, ◌&&◌, List, [], ◌∷◌, ℕ, suc, ◌*◌, ◌-◌, ◌<◌, ◌≤◌, length, get_or, take, leb, eqb}
use Rattle.theory_files.specs.Written.{gate_bytes}
use Rattle.bristol_text.specs.Lines.{are, numbers, total}
use Rattle.bristol_text.specs.Heard.{Heard, written}
use Rattle.bristol_text.specs.Renamed.{renamed}
use Rattle.bristol_wires.specs.declared.Text.{Text}
use Rattle.bristol_wires.specs.Mirror.{entry_of}

unfoldable pub capped : ℕ → ℕ
capped n = cond (leb n 3072) n 3073

abbrev pub Fine : Heard → Type 0
Fine h = (total h.ins ≤ 1024) × (length (renamed h).gates ≤ 3072)

unfoldable pub all_entered : List ℕ → ℕ → List ℕ → Bool
all_entered m I [] = true
all_entered m I (w ∷ ws) = not (eqb (entry_of m I w) 0) && all_entered m I ws

pub record Matches (h : Heard) (t : Text) (ws : List (List ℕ)) (m g : List ℕ) : Type 0 where
  pub stage : t.stage ≡ h.stage
  pub wires : t.wires ≡ h.wires
  pub values : t.values ≡ length h.ins
  pub ins : t.ins ≡ total h.ins
  pub outs : t.outs ≡ total h.outs
  pub left : t.left ≡ h.said - length h.gates
  pub few : length h.gates ≤ h.said
  pub made : t.made ≡ capped (length (renamed h).gates)
  pub map_long : length m ≡ 8192
  pub gates_long : length g ≡ 18432
  pub marks : (w : ℕ) → eqb (entry_of m t.ins w) 0 ≡ not (written h w)
  pub numbered : Fine h → (w : ℕ) → written h w ≡ true → entry_of m t.ins w ≡ suc ((renamed h).wire w)
  pub kept : Fine h → take (6 * length (renamed h).gates) g ≡ gate_bytes (renamed h).gates
  pub clean : h.stage < 3 → (w : ℕ) → get_or m w 0 ≡ 0
  pub inputs_line : 2 ≤ h.stage → numbers ws ≡ are (length h.ins ∷ h.ins)
