use Rattle.h264_verify.proofs.samples.BeginsFrames.{goes-on, begins-now}
use Rattle.h264_verify.proofs.data.begin_if.Goals as goal

pub returns-then-not-begins-clause-holds : goal.returns-then-not-begins-clause-holds
returns-then-not-begins-clause-holds c = λ frames on s pictures is live k. goes-on frames on s pictures _ c.args.begins c.if-not-begins.true live k

pub returns-clause-holds : goal.returns-clause-holds
returns-clause-holds c = λ frames on s pictures is live k. begins-now frames on s pictures _ _ c.args.begins _ c.if-not-begins.false
    (c.begin.ensures.begins frames s pictures is) k
