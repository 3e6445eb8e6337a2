-- The text is that of the answer's case. Assumes nothing.
use Rattle.lines.specs.Texts.{taken_text, job_text}
use Rattle.lines.proofs.PutLaws.{put_case}
use Rattle.lines.proofs.answer.job.Goals as goal

pub returns-in-Err : goal.returns-in-Err
unfolding job_text
returns-in-Err c = put_case (λ a. job_text a c.args.list.now) c.in-Err.is c.refused.ensures

pub returns-in-Some : goal.returns-in-Some
unfolding job_text taken_text
returns-in-Some c = put_case (λ a. job_text a c.args.list.now) c.in-Ok.is (put_case (λ j. taken_text j c.in-Ok.a.putoff c.args.list.now) c.in-Some.is c.taken.ensures)

pub returns-in-None : goal.returns-in-None
unfolding job_text taken_text
returns-in-None c = put_case (λ a. job_text a c.args.list.now) c.in-Ok.is (put_case (λ j. taken_text j c.in-Ok.a.putoff c.args.list.now) c.in-None.is c.put_off.ensures)
