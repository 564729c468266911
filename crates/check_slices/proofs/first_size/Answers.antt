use Rattle.check_slices.proofs.BitsLaws.{sizes_bad, sizes_good}
use Rattle.check_slices.proofs.first_size.Goals as goal

pub returns-in-Some : goal.returns-in-Some
returns-in-Some c = sizes_bad _ _ c.in-Some.ensures

pub returns-in-None : goal.returns-in-None
returns-in-None c = sizes_good _ c.in-None.ensures
