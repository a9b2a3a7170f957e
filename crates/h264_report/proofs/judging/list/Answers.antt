use Rattle.h264_report.proofs.Accounts.{listed, of-bytes, still-failed, is-write, never-write, was-read, said-told}
use Rattle.std.proofs.Common.{◌∙◌}
use Rattle.h264_report.proofs.judging.list.Goals as goal

pub returns-clause-lists : goal.returns-clause-lists
returns-clause-lists g c = of-bytes _ _
    (λ bytes h. listed c.write_lines-answer.result c.put_answer.result _ _ _ c.put_answer.ensures.answer c.put_answer.ensures.write
    (c.write_lines-answer.ensures.lines bytes h) c.put_answer.ensures.text)
    (let some = c.write_lines-answer.ensures.some in (
      some.0,
      listed c.write_lines-answer.result c.put_answer.result _ _ _ c.put_answer.ensures.answer c.put_answer.ensures.write some.1
          c.put_answer.ensures.text,
    ))

pub returns-clause-read : goal.returns-clause-read
returns-clause-read g c r = c.write_lines-answer.ensures.read (was-read _ _ c.put_answer.ensures.answer r)

pub returns-clause-read_told : goal.returns-clause-read_told
returns-clause-read_told g c = said-told _ _ c.put_answer.ensures.read c.put_answer.ensures.write c.write_lines-answer.ensures.read_told

pub returns-clause-write : goal.returns-clause-write
returns-clause-write g c w = still-failed c.put_answer.result.written _ _ c.put_answer.ensures.quiet c.put_answer.ensures.failed
    (c.write_lines-answer.ensures.write (is-write w c.put_answer.ensures.answer))

pub returns-clause-quiet : goal.returns-clause-quiet
returns-clause-quiet g c never written = c.put_answer.ensures.quiet written ∙ c.write_lines-answer.ensures.quiet (never-write c.put_answer.ensures.write never)
