use Rattle.std.proofs.Common.{sym, ◌∙◌}
use Rattle.h264_command.proofs.Texts.{end-aside, end-here}
use Rattle.h264_command.proofs.Writing.{put-aside, put-here}
use Rattle.h264_command.proofs.more.put_answer.Goals as goal

pub returns-then-answers_aside-clause-devices : goal.returns-then-answers_aside-clause-devices
returns-then-answers_aside-clause-devices g c = put-aside _ _ _ c.put_found.ensures.failed

pub returns-clause-devices : goal.returns-clause-devices
returns-clause-devices g c = put-here _ _ _ _ c.put_found-2.ensures.handed_over c.put_found-2.ensures.quiet c.put_found-2.ensures.failed

pub returns-then-answers_aside-clause-text : goal.returns-then-answers_aside-clause-text
returns-then-answers_aside-clause-text g c = end-aside _ (sym c.answers_aside.ensures ∙ c.if-answers_aside.true)

pub returns-clause-text : goal.returns-clause-text
returns-clause-text g c = end-here c.put_found-2.result.ending.written _ _ c.put_found-2.ensures.text.0
    (sym c.answers_aside.ensures ∙ c.if-answers_aside.false) c.put_found-2.ensures.text.1 c.put_found-2.ensures.text.2 c.put_found-2.ensures.failed
