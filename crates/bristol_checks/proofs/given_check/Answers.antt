use Rattle.bristol_checks.proofs.EndLaws.{given_2}
use Rattle.bristol_checks.proofs.given_check.Goals as goal

pub returns-in-Some-too_large : goal.returns-in-Some-too_large
returns-in-Some-too_large c = given_2 c.args.t _ c.in_default.ensures _ c.in-Some-too_large.ensures.0

pub returns-in-None : goal.returns-in-None
returns-in-None c = given_2 c.args.t _ c.in_default.ensures _ c.in-None.ensures.0
