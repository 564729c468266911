use Rattle.retape_pairs.proofs.PairLaws.{step_done, step_fits}
use Rattle.retape_pairs.proofs.gate_step.Goals as goal

pub and_gate-requires-clause-fits : goal.and_gate-requires-clause-fits
and_gate-requires-clause-fits c = (step_fits _ _ _ _ _ _ c.in-Deal.ensures.is c.requires.fits.0, c.requires.fits.1)

pub returns-in-Add : goal.returns-in-Add
returns-in-Add c = step_done _ _ _ _ _ _ _ _ _ _ c.in-Add.ensures.is (cc c.wires-n.ensures.0)

pub returns-in-Flip : goal.returns-in-Flip
returns-in-Flip c = step_done _ _ _ _ _ _ _ _ _ _ c.in-Flip.ensures.is (cc c.wires-n.ensures.0)

pub returns-in-Deal : goal.returns-in-Deal
returns-in-Deal c = step_done _ _ _ _ _ _ _ _ _ _ c.in-Deal.ensures.is (cc c.wires-n.ensures.0)
