use mathlib.Core.Path.{ap, ◌∙◌}
use Rattle.theory_sharing.specs.Ops.{bits}
use Rattle.run_messages.specs.declared.Twelve.{Twelve}
use Rattle.run_steps.specs.Mirror.{takes, put_twelve, on_lines}
use Rattle.run_messages.specs.Mirror.{line_at}
use Rattle.run_steps.proofs.MirrorLaws.{lines_are, step_transcript}
use Rattle.run_steps.proofs.and_step.Goals as goal

pub returns-clause-store_after : goal.returns-clause-store_after
returns-clause-store_after c =
    let a = c.args in
    let d = lines_are bits a.line.now a.pos.at c.and_send-s.result _ _ _ c.deliver4-s1.ensures.value c.deliver4-s2.ensures.value c.deliver4-s3.ensures.value in
    c.and_take.ensures ∙ ap (λ (g : Twelve). takes bits a.n a.w a.o c.and_send-s.result g a.store.now) d
    ∙ ap (λ (s : Twelve). takes bits a.n a.w a.o s (on_lines bits (line_at a.line.now a.pos.at) s) a.store.now) c.and_send-s.ensures

pub returns-clause-transcript_after : goal.returns-clause-transcript_after
returns-clause-transcript_after c =
    let a = c.args in
    step_transcript a.line.now a.pos.at c.and_send-s.result _ _ _ _ _ _ _ c.deliver4-s1.ensures.value c.deliver4-s2.ensures.value c.deliver4-s3.ensures.value
    c.deliver4-s1.ensures.transcript_after c.deliver4-s2.ensures.transcript_after c.deliver4-s3.ensures.transcript_after
    ∙ ap (λ (s : Twelve). put_twelve a.pos.at (on_lines bits (line_at a.line.now a.pos.at) s) a.transcript.now) c.and_send-s.ensures
