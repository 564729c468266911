use Rattle.check_slices.proofs.bits.Goals as goal

pub returns-in-Some : goal.returns-in-Some
returns-in-Some g c = (_, c.in-Some.ensures, c.refusal.ensures)
