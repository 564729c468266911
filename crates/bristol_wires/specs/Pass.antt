-- The pass over the lines of a text, as code makes it. No public contract cites it.
--     Passed         where it ended: the fault of the last line that was read, 0 for none, the lines read, what is known, the words of the inputs'
--                    line, the map and our gates
--     pass_from      from what the lines before left
use Rattle.std.specs.Prelude.{cond, List, [], ◌∷◌, ℕ, ◌+◌, eqb, Option}
use Rattle.bristol_text.specs.Words.{words}
use Rattle.bristol_text.specs.Lines.{line_says}
use Rattle.bristol_text.specs.Told.{told}
use Rattle.bristol_text.specs.declared.Says.{Says}
use Rattle.bristol_wires.specs.declared.Text.{Text}
use Rattle.bristol_wires.specs.Mirror.{fault_of, map_after, gates_after, text_after}

pub record Passed : Type 0 where
  pub fault : ℕ
  pub line : ℕ
  pub text : Text
  pub words : List (List ℕ)
  pub map : List ℕ
  pub gates : List ℕ

-- what a line says, by what is known before it
abbrev pub says_by : Text → List (List ℕ) → Option Says
says_by t ws = told (line_says t.stage t.wires ws)

unfoldable pub pass_from : ℕ → Text → List (List ℕ) → List ℕ → List ℕ → List (List ℕ) → Passed
pass_from n t ws m g [] = record { fault = 0; line = n; text = t; words = ws; map = m; gates = g }
pass_from n t ws m g (l ∷ ls) =
    let s = says_by t (words l) in
    cond (eqb (fault_of t m s) 0)
    (pass_from (n + 1) (text_after t s) (cond (eqb t.stage 1) (words l) ws) (map_after t m s) (gates_after t m s g) ls)
    (record { fault = fault_of t m s; line = n + 1; text = t; words = ws; map = m; gates = g })
