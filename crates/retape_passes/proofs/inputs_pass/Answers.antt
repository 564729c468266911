-- No lemma is lacking: a need of this loop cites one law, and its length is the places of its facts.
use Rattle.std.proofs.Common.{◌<◌, arith, refl, ◌∙◌, ◌+◌, ◌*◌}
use Rattle.theory_calls.specs.File.{circuit}
use Rattle.theory_calls.specs.Calls.{at_wire}
use Rattle.check_tests.specs.Seat.{seat}
use Rattle.retape_pairs.specs.Mirror.{st}
use Rattle.file_parts.proofs.LoopLaws.{at_end}
use Rattle.retape_passes.specs.Mirror.{in_state}
use Rattle.retape_passes.proofs.StateLaws.{in_start}
use Rattle.retape_passes.proofs.BothPasses.{in_fits, in_turn}
use Rattle.retape_passes.proofs.inputs_pass.Goals as goal

pub loop-k-init : goal.loop-k-init
loop-k-init c =
    let a = c.args in let t = a.tapes.now in
    in_start (seat a.site) (circuit a.c.now.file.now) (at_wire a.inputs.now) (at_wire a.second.now) t.own.now t.next.now t.prev.now a.room.now a.moved.now (2 * (a.c.now.counts.inputs + a.c.now.counts.gates))

pub input_step-at-requires : goal.input_step-at-requires
input_step-at-requires c =
    let a = c.args in let l = c.loop-k in let t : c.loop-k.k < c.args.c.now.counts.inputs = omega arith in
    record {
      k_lt_inputs = t;
      room_len = (l.auto.room ∙ c.requires.room_len, l.auto.moved ∙ c.requires.lengths.moved_is);
      in_fits = in_fits _ _ a.c.now.checked.opened _ _ c.requires.after_site (at_wire a.inputs.now) (at_wire a.second.now) _ _ _ _ _ c.requires.room_len c.requires.lengths _ _ (st _ _ _) t refl l.invariant;
    }

pub loop-k-preserved : goal.loop-k-preserved
loop-k-preserved c =
    let a = c.args in let t : c.loop-k.k < c.args.c.now.counts.inputs = omega arith in
    in_turn _ _ a.c.now.checked.opened _ _ c.requires.after_site (at_wire a.inputs.now) (at_wire a.second.now) _ _ _ _ _ c.requires.room_len c.requires.lengths _ _ _ t c.loop-k.invariant c.input_step-at.ensures

pub returns : goal.returns
returns c = at_end (in_state _ _ _ _ _ _ _ _ _ _) _ _ _ c.loop-k.invariant (omega arith) (omega arith)
