use Rattle.std.proofs.Common.{refl}
use Rattle.h264_verify.proofs.kept.KeepsEntered.{end-on, end-begun}
use Rattle.h264_verify.proofs.slices.enter.Goals as goal

pub returns-then-begins-clause-end : goal.returns-then-begins-clause-end
returns-then-begins-clause-end c = λ on pictures slice e opened end b. end-begun c.args.begins slice pictures _ c.if-begins.true
    (c.begin.ensures.end slice pictures (e c.if-begins.true))

pub returns-in-Some-clause-end : goal.returns-in-Some-clause-end
returns-in-Some-clause-end c = λ on pictures slice e opened end b. end-on c.args.begins slice pictures _ _ _ c.go_on.new.picture c.if-begins.false end
    c.in-Some.is refl c.go_on.ensures.end
