-- A line of a text as code has it: of widths their number and their sum; none of a bad line. No public contract cites these.
--     told
--     header_lines    how many there were before a line of that stage
use Rattle.std.specs.Prelude.{ℕ, length, Option, None, Some}
use Rattle.bristol_text.specs.Lines as text
use Rattle.bristol_text.specs.declared.Says.{Says}
use Rattle.bristol_text.specs.declared.Says.TheVariants.{Blank, Counts, Widths, Other, Xor, And, Inv, Eqw}
use Rattle.bristol_text.specs.declared.Stage.{Stage}
use Rattle.bristol_text.specs.declared.Stage.TheVariants.{Counts as CountsNext, Inputs, Outputs, Gates}

unfoldable pub told : text.Line → Option Says
told text.blank = Some Blank
told text.bad = None
told (text.counts g w) = Some (Counts g w)
told (text.widths ws) = Some (Widths (length ws) (text.total ws))
told text.other_word = Some Other
told (text.xor_gate x y z) = Some (Xor x y z)
told (text.and_gate x y z) = Some (And x y z)
told (text.inv_gate x z) = Some (Inv x z)
told (text.eqw_gate x z) = Some (Eqw x z)

abbrev pub header_lines : Stage → ℕ
header_lines CountsNext = 0
header_lines Inputs = 1
header_lines Outputs = 2
header_lines Gates = 3
