use Rattle.std.proofs.Common.{inl, inr, ⊎_elim}
use Rattle.h264_report.proofs.Accounts.{checked-bare, of-map, was-read}
use Rattle.h264_command.proofs.command.glance.Goals as goal

pub returns-clause-checks : goal.returns-clause-checks
returns-clause-checks g c = of-map _ _ _
    (λ bytes a. checked-bare _ _ (c.is_told_again.ensures.no c.if-is_told_again.false) c.put_answer.ensures.answer c.put_answer.ensures.text a)
    c.judge_unnoted-answer.ensures.account

pub returns-clause-read : goal.returns-clause-read
returns-clause-read g c = λ e. c.judge_unnoted-answer.ensures.read (was-read _ _ c.put_answer.ensures.answer e)

pub returns-clause-read_told : goal.returns-clause-read_told
returns-clause-read_told g c = ⊎_elim (λ e. inl e) (λ r. inr (c.put_answer.ensures.read r)) c.judge_unnoted-answer.ensures.read_told
