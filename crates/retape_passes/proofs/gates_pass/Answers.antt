use Rattle.std.proofs.Common.{ap, ◌∙◌}
use Rattle.retape_pairs.specs.Mirror.{st}
use Rattle.retape_pairs.proofs.PairLaws.{further_none}
use Rattle.file_parts.specs.Loop.{up_to}
use Rattle.file_parts.proofs.LoopLaws.{none_yet, turn, at_end}
use Rattle.retape_passes.proofs.StepLaws.{gate_room}
use Rattle.retape_passes.proofs.gates_pass.Goals as goal

pub loop-k-init : goal.loop-k-init
loop-k-init c = let a = c.args in ap (st a.room.now a.moved.now) (further_none a.start) ∙ none_yet _ _

pub gate_step-t-requires : goal.gate_step-t-requires
gate_step-t-requires c =
    let l = c.loop-k in let t = c.loop-k-test.true in
    record {
      k_lt_gates = t;
      room_len = l.auto.room ∙ c.requires.room_len.0;
      fits = (gate_room _ _ _ _ _ _ _ _ (st _ _ _) _ _ t c.requires.fits l.invariant, l.auto.moved ∙ c.requires.room_len.1);
    }

pub loop-k-preserved : goal.loop-k-preserved
loop-k-preserved c = turn _ _ _ _ _ c.loop-k.invariant c.gate_step-t.ensures

pub returns : goal.returns
returns c = let l = c.loop-k in at_end (up_to _ _) _ _ _ l.invariant l.auto.k-end c.loop-k-test.false
