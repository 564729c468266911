use Rattle.check_tests.proofs.TestLaws.{kind_test}
use Rattle.check_tests.proofs.kind_bad.Goals as goal

pub returns : goal.returns
returns c = kind_test _ _ _ _ _ c.second_limit-limit.ensures
