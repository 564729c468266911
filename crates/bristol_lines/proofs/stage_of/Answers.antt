use borrow.Author.Rules.{rules}
use Rattle.bristol_lines.proofs.LineLaws.{gates_behind}
use Rattle.bristol_lines.proofs.stage_of.Goals as goal

pub returns-in_default : goal.returns-in_default
returns-in_default c = λ W ws. gates_behind c.args.lines W ws (search rules) (search rules) (search rules)
