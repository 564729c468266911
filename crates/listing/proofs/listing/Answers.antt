use mathlib.Core.Path.{◌∙◌}
use Rattle.listing.proofs.JobLaws.{job_refused, at_8, at_12, parts_fit, parts_told}
use Rattle.listing.proofs.listing.Goals as goal

pub returns-in-Some : goal.returns-in-Some
returns-in-Some c = job_refused _ _ _ c.in-Some.ensures

pub u32_at-i-requires : goal.u32_at-i-requires
u32_at-i-requires c = at_8 c.args.job.now c.args.text.now c.in_default.ensures

pub u32_at-t-requires : goal.u32_at-t-requires
u32_at-t-requires c = at_12 c.args.job.now c.args.text.now c.in_default.ensures

pub list_parts-requires : goal.list_parts-requires
list_parts-requires c = parts_fit _ c.args.text.now c.in_default.ensures _ _ c.u32_at-i.ensures c.u32_at-t.ensures

pub returns : goal.returns
returns c = c.list_parts.ensures ∙ parts_told _ _ c.in_default.ensures _ _ c.u32_at-i.ensures c.u32_at-t.ensures
