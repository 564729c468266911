use mathlib.Core.Path.{refl, ◌∙◌}
use Rattle.run.proofs.FinishLaws.{stopped, through}
use Rattle.run.proofs.RunLaws.{at_room}
use Rattle.run.proofs.run_checked.Goals as goal

pub judge-requires-clause-openings_fit : goal.judge-requires-clause-openings_fit
judge-requires-clause-openings_fit c = at_room _ _ _ _ _ _ _ _ _ c.requires.ready c.shares-at.ensures.value c.shares-at.auto.transcript

pub returns-in-Some : goal.returns-in-Some
returns-in-Some c =
    let a = c.args in
    let h = c.shares-at.ensures in
    let j = c.in-Some.ensures in
    stopped _ a.inputs.now a.tapes.now _ _ _ _ _ _ _ _ _ _ _ c.requires.ready refl _ h.value h.store_after h.transcript_after _ _ (j.stop, j.transcript_after)

pub hand_over-requires-clause-openings_fit : goal.hand_over-requires-clause-openings_fit
hand_over-requires-clause-openings_fit c =
    let a = at_room _ _ _ _ _ _ _ _ _ c.requires.ready c.shares-at.ensures.value (c.judge.auto.transcript ∙ c.shares-at.auto.transcript) in
    (a.1, c.requires.outs_len, a.2)

pub returns : goal.returns
returns c =
    let a = c.args in
    let h = c.shares-at.ensures in
    let j = c.in_default.ensures in
    through _ a.inputs.now a.tapes.now _ _ _ _ _ _ _ _ _ _ _ c.requires.ready refl _ h.value h.store_after h.transcript_after _ _ c.requires.outs_len (j.stop, j.transcript_after) c.hand_over.ensures
