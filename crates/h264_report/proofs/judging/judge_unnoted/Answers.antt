use Rattle.std.proofs.Common.{None}
use Rattle.h264_verify.proofs.laws.AccountTaken.{accounts}
use Rattle.h264_report.proofs.Accounts.{of-bytes}
use Rattle.h264_report.proofs.judging.judge_unnoted.Goals as goal

pub returns-clause-account : goal.returns-clause-account
returns-clause-account g c = of-bytes _ _ (λ bytes h. (accounts (c.run.ensures.verdict bytes h None tt) tt).0)
    (let j = c.run.ensures.some in (j.0, (accounts (j.4 None tt) tt).0))
