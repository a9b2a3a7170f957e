use Rattle.h264_verify.proofs.kept.WhereMade.{some-made, none-made}
use Rattle.h264_verify.proofs.judged.MissingUntold.{full-stays, quiet-stays}
use Rattle.h264_verify.proofs.frame_num.buffer_stays.Goals as goal

pub returns-in-None : goal.returns-in-None
returns-in-None c = λ h depth frames t next k. quiet-stays c.args.held.now t.buffer depth (none-made _ depth _ c.in-None.is k)

pub returns-in-Some : goal.returns-in-Some
returns-in-Some c = λ h depth frames t next k.
    let made = some-made _ depth _ _ c.in-Some.is k in
    full-stays c.args.held.now t.buffer depth made.0 (c.buffer_stays.ensures h frames t next made.1)
