use Rattle.h264_verify.proofs.session.SessionSteps.{comes-judged}
use Rattle.h264_verify.proofs.session.Session.finish.Goals as goal

pub returns-in-None-clause-verdict : goal.returns-in-None-clause-verdict
returns-in-None-clause-verdict g c = λ terms bytes frames told f. comes-judged f (c.conclude.ensures.comes terms bytes frames told f)
