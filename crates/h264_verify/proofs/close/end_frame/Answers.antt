use Rattle.std.proofs.Common.{true}
use Rattle.h264_verify.specs.Pictures.{goes_on, runs_of}
use Rattle.h264_verify.proofs.samples.EndsFrames.{is-open, some-end, ends-open, held-end, few-end, none-ends, keeps-open, is-whole, quiet-ends}
use Rattle.h264_verify.proofs.kept.WhereMade.{some-made, none-made}
use Rattle.h264_verify.proofs.close.end_frame.Goals as goal

pub end-requires-clause-few : goal.end-requires-clause-few
end-requires-clause-few g c = few-end c.args.slices.now _ _ c.in-Some-picture.is c.requires.kept
    c.requires.pictures

pub end-requires-clause-kept : goal.end-requires-clause-kept
end-requires-clause-kept g c = some-end c.args.slices.now _ _ _ c.in-Some.is c.in-Some-picture.is
    c.requires.kept

pub returns-in_default-clause-ends : goal.returns-in_default-clause-ends
returns-in_default-clause-ends g c = λ depth frames before kept whole k. quiet-ends depth (none-made _ depth _ c.in_default.is k) _ _ frames _ c.in_default.is _
    (goes_on before) true (runs_of before)

pub returns-in-None-clause-ends : goal.returns-in-None-clause-ends
returns-in-None-clause-ends g c = λ depth frames before kept whole k.
    let made = some-made _ depth _ _ c.in-Some.is k in
    rw made.0 (none-ends _ _ frames _ _ (goes_on before) (runs_of before) c.args.slices.now.picture c.in-None.is kept.kept.picture
    made.1)

pub returns-in-Some-picture-clause-ends : goal.returns-in-Some-picture-clause-ends
returns-in-Some-picture-clause-ends g c = λ depth frames before kept whole k.
    let made = some-made _ depth _ _ c.in-Some.is k in
    let i = is-open (goes_on before) (runs_of before) c.args.slices.now.picture _ c.in-Some-picture.is kept.kept.picture kept.kept.end in
    let all = is-whole (goes_on before) (runs_of before) _ i (rw made.0 at whole) in
    rw made.0 (ends-open _ _ frames _ _ _ _ (goes_on before) (runs_of before) _ i
    (c.end.ensures.ends frames i.p i.ps i.end (held-end before c.args.slices.now _ i kept) all
    (keeps-open frames (goes_on before) (runs_of before) _ _ i made.1)))
