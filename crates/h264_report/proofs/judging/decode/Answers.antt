use Rattle.std.proofs.Common.{Err, refl, inr}
use Rattle.h264_base.specs.declared.stop.Stop.TheVariants.{Write}
use Rattle.h264_report.proofs.Accounts.{failed, decoded, of-bytes, was-read, said-told}
use Rattle.h264_report.proofs.judging.decode.Goals as goal

pub returns-in-Err-clause-decodes : goal.returns-in-Err-clause-decodes
returns-in-Err-clause-decodes g c = of-bytes _ _
    (λ bytes h. decoded (Err Write) c.put_answer.result _ _ _ _ _ c.put_answer.ensures.answer c.put_answer.ensures.write
    (failed c.write_frames-answer.result (c.write_frames-answer.ensures.frames bytes h)) c.send_rest.ensures.kept c.put_answer.ensures.text)
    (let some = c.write_frames-answer.ensures.some in (
      some.0,
      decoded (Err Write) c.put_answer.result _ _ _ _ _ c.put_answer.ensures.answer c.put_answer.ensures.write
          (failed c.write_frames-answer.result some.1) c.send_rest.ensures.kept c.put_answer.ensures.text,
    ))

pub returns-in-Err-clause-quiet : goal.returns-in-Err-clause-quiet
returns-in-Err-clause-quiet g c never = absurd (never (c.put_answer.ensures.write refl))

pub returns-in-Err-clause-handed_over : goal.returns-in-Err-clause-handed_over
returns-in-Err-clause-handed_over g c never = absurd (never (c.put_answer.ensures.write refl))

pub returns-clause-decodes : goal.returns-clause-decodes
returns-clause-decodes g c = of-bytes _ _
    (λ bytes h. decoded c.write_frames-answer.result c.put_answer-2.result _ _ _ _ _ c.put_answer-2.ensures.answer c.put_answer-2.ensures.write
    (c.write_frames-answer.ensures.frames bytes h) c.send_rest.ensures.kept c.put_answer-2.ensures.text)
    (let some = c.write_frames-answer.ensures.some in (
      some.0,
      decoded c.write_frames-answer.result c.put_answer-2.result _ _ _ _ _ c.put_answer-2.ensures.answer c.put_answer-2.ensures.write some.1
          c.send_rest.ensures.kept c.put_answer-2.ensures.text,
    ))

pub returns-clause-read : goal.returns-clause-read
returns-clause-read g c = λ e. c.write_frames-answer.ensures.read (was-read _ _ c.put_answer-2.ensures.answer e)

pub returns-in-Err-clause-read_told : goal.returns-in-Err-clause-read_told
returns-in-Err-clause-read_told g c = inr (inr (c.put_answer.ensures.write refl))

pub returns-clause-read_told : goal.returns-clause-read_told
returns-clause-read_told g c = said-told _ _ c.put_answer-2.ensures.read c.put_answer-2.ensures.write c.write_frames-answer.ensures.read_told
