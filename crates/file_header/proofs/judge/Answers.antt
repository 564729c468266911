use Rattle.file_header.proofs.LimitLaws.{judged_large, judged_fields}
use Rattle.file_header.proofs.judge.Goals as goal

pub returns-in-Some-clause-value : goal.returns-in-Some-clause-value
returns-in-Some-clause-value c = judged_large c.args.len c.args.f _ c.in-Some.ensures.0

pub returns-clause-value : goal.returns-clause-value
returns-clause-value c = judged_fields c.args.len c.args.f c.in_default.ensures.0 _ c.judge_fields.ensures.value
