use mathlib.Core.Path.{◌∙◌}
use Rattle.listing.proofs.ToldLaws.{digit, total_small, told_good}
use Rattle.listing.proofs.tell.Goals as goal

pub good_text-requires : goal.good_text-requires
good_text-requires c =
    let d = c.requires.fit in
    let o = c.args.c.now.circuit.checked.opened in
    record {
      in_bounds = (c.requires.text_len, o.few_inputs, o.few_gates, o.few_outputs, total_small _ _ _ d _ c.clean_run.ensures);
      outs_len = (c.clean_run.auto.outs ∙ c.requires.outs_len, digit _ _ _ d _ c.clean_run.ensures);
    }

pub returns : goal.returns
returns c = told_good _ _ _ c.requires.fit _ c.clean_run.ensures _ _ _ c.good_text.ensures.text_after c.good_text.ensures.value
