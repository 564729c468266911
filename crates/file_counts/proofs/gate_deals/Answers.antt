use Rattle.std.proofs.Common.{ap, ◌∙◌}
use Rattle.theory_sharing.specs.Circuit.{dealing}
use Rattle.file_counts.proofs.CountLaws.{deals_law}
use Rattle.file_counts.proofs.gate_deals.Goals as goal

pub returns-clause-value : goal.returns-clause-value
returns-clause-value c = c.deal_bit.ensures.0 ∙ deals_law _ _ _ ∙ ap dealing c.gate.ensures.is
