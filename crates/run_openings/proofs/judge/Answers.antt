use Rattle.theory_sharing.proofs.FirstLaws.{clear_none}
use Rattle.file_parts.proofs.LoopLaws.{none_yet, turn}
use Rattle.run_openings.proofs.OpeningLaws.{stopped, stopped_with, went_on, ended, ended_with}
use Rattle.run_openings.proofs.judge.Goals as goal

pub loop-k-init : goal.loop-k-init
loop-k-init c = record { opened = none_yet _ _; clear = clear_none _ }

pub returns-then-sites-ne0 : goal.returns-then-sites-ne0
returns-then-sites-ne0 c =
    let l = c.loop-k.invariant in
    let s = c.open_step-sites.ensures in
    record {
      stop = stopped _ _ _ _ l.clear c.loop-k-test.true s.value c.if-sites-ne0.true;
      transcript_after = stopped_with _ _ _ _ _ _ _ _ l.clear c.loop-k-test.true s.value c.if-sites-ne0.true l.opened s.transcript_after;
    }

pub loop-k-preserved : goal.loop-k-preserved
loop-k-preserved c =
    let l = c.loop-k.invariant in
    let s = c.open_step-sites.ensures in
    record { opened = turn _ _ _ _ _ l.opened s.transcript_after; clear = went_on _ _ _ l.clear s.value c.if-sites-ne0.false }

pub returns : goal.returns
returns c =
    let l = c.loop-k.invariant in
    record {
      stop = ended _ _ _ l.clear c.loop-k.auto.k-end c.loop-k-test.false;
      transcript_after = ended_with _ _ _ _ _ _ l.clear c.loop-k.auto.k-end c.loop-k-test.false l.opened;
    }
