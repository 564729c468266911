use mathlib.Core.Path.{sym}
use lib.Seq.{length-take-le}
use Rattle.listing.proofs.CleanLaws.{outputs_fit}
use Rattle.listing.proofs.good.Goals as goal

pub slice_bounds-tell-end : goal.slice_bounds-tell-end
slice_bounds-tell-end c = sym (length-take-le _ _ (outputs_fit _ _ _ c.requires.fit c.zeros-opened.result c.zeros-opened.ensures.len))

pub tell-requires-clause-outs_len : goal.tell-requires-clause-outs_len
tell-requires-clause-outs_len c = length-take-le _ _ (outputs_fit _ _ _ c.requires.fit c.zeros-opened.result c.zeros-opened.ensures.len)
