use mathlib.Core.Path.{◌∙◌}
use Rattle.door_replies.proofs.SizeLaws.{sizes_law}
use Rattle.door_replies.proofs.sizes.Goals as goal

pub returns : goal.returns
returns c =
    c.sizes_from.ensures
    ∙ sizes_law _ _ _ _ _ _ c.args.c.now.checked.opened c.count_ands-a.ensures.value c.owned_by-s1.ensures.value c.owned_by-s2.ensures.value c.owned_by-s3.ensures.value
