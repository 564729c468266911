use Rattle.check_slices.proofs.JobLaws.{job_short, job_law}
use Rattle.check_slices.proofs.job_fault.Goals as goal

pub returns-then-job-lt16 : goal.returns-then-job-lt16
returns-then-job-lt16 c = job_short c.args.job.now c.if-job-lt16.true

pub returns : goal.returns
returns c = job_law c.args.job.now _ _ _ _ _ c.if-job-lt16.false c.u32_at.ensures c.u32_at-2.ensures c.u32_at-3.ensures c.u32_at-4.ensures c.judge_job.ensures
