use mathlib.Core.Path.{sym, ap, ◌∙◌}
use native.Mathlib.Omega.{arith}
use Rattle.run_passes.specs.Mirror.{step_by}
use Rattle.run_passes.proofs.PassLaws.{add_kind, flip_kind, deal_kind}
use Rattle.run_passes.proofs.step_at.Goals as goal

pub returns-in-1-clause-is : goal.returns-in-1-clause-is
returns-in-1-clause-is c = sym (add_kind _ _ _ c.in-1.is) ∙ ap step_by c.gate-gate.ensures.is

pub returns-in-3-clause-is : goal.returns-in-3-clause-is
returns-in-3-clause-is c = sym (flip_kind _ _ _ c.in-3.is) ∙ ap step_by c.gate-gate.ensures.is

pub returns-in_default-clause-is : goal.returns-in_default-clause-is
returns-in_default-clause-is c =
    rw c.or_bit.ensures
    (sym (deal_kind c.gate-gate.result.kind _ _ (λ e. omega arith) (λ e. omega arith)) ∙ ap step_by c.gate-gate.ensures.is)
