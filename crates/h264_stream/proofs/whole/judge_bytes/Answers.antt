use Rattle.std.proofs.Common.{◌≡◌, ◌+◌, [], Err, sym, ap, arith}
use Rattle.h264_verify.specs.Units.{terms_of}
use Rattle.h264_verify.specs.Modes.{purpose_for}
use Rattle.h264_verify.proofs.samples.FamiliesByPurpose.{some-family, with-family}
use Rattle.h264_stream.proofs.Accounting.{none-account, stopped-account, fed-account}
use Rattle.h264_stream.proofs.Decoded.{same-stop}
use Rattle.h264_stream.proofs.whole.judge_bytes.Goals as goal

pub returns-in-Err-clause-verdict : goal.returns-in-Err-clause-verdict
returns-in-Err-clause-verdict c = rw (c.in-Err.ensures.err, sym c.without_frames.ensures)
    (none-account (terms_of c.without_frames.result c.args.target) c.args.bytes.now)

pub returns-in-Ok-feed-clause-verdict : goal.returns-in-Ok-feed-clause-verdict
returns-in-Ok-feed-clause-verdict c =
    let terms = terms_of c.without_frames.result c.args.target in
    let f = c.in-Ok-feed.ensures.fed terms [] (some-family terms.purpose) [] (with-family terms.purpose c.in-Ok.ensures.fed) in
    rw (sym c.without_frames.ensures) (fed-account f (λ frames told w. c.finish.ensures.verdict terms c.args.bytes.now frames told w))

pub returns-in-Ok-feed-clause-no_read : goal.returns-in-Ok-feed-clause-no_read
returns-in-Ok-feed-clause-no_read c e =
    let terms = terms_of c.without_frames.result c.args.target in
    let f = c.in-Ok-feed.ensures.fed terms [] (some-family terms.purpose) [] (with-family terms.purpose c.in-Ok.ensures.fed) in
    c.finish.ensures.no_read f.fed.runs e

pub returns-in-Ok-feed-clause-no_write : goal.returns-in-Ok-feed-clause-no_write
returns-in-Ok-feed-clause-no_write c e =
    let terms = terms_of c.without_frames.result c.args.target in
    let f = c.in-Ok-feed.ensures.fed terms [] (some-family terms.purpose) [] (with-family terms.purpose c.in-Ok.ensures.fed) in
    let w : 0 ≡ 0 + 1 = c.finish.ensures.write f.fed.runs e in
    omega (arith, w)

pub returns-in-Err-feed-clause-verdict : goal.returns-in-Err-feed-clause-verdict
returns-in-Err-feed-clause-verdict c =
    let terms = terms_of c.without_frames.result c.args.target in
    rw (sym c.without_frames.ensures) (stopped-account (λ later. c.in-Err-feed.ensures.stops terms [] (some-family terms.purpose) []
    (with-family terms.purpose c.in-Ok.ensures.fed) later))

pub returns-in-Err-feed-clause-no_read : goal.returns-in-Err-feed-clause-no_read
returns-in-Err-feed-clause-no_read c e =
    c.in-Err-feed.ensures.no_read (with-family (purpose_for c.without_frames.result) c.in-Ok.ensures.fed).runs (ap (λ x. Err x) (same-stop e))

pub returns-in-Err-feed-clause-no_write : goal.returns-in-Err-feed-clause-no_write
returns-in-Err-feed-clause-no_write c e =
    let f = with-family (purpose_for c.without_frames.result) c.in-Ok.ensures.fed in
    let w : 0 ≡ 0 + 1 = c.in-Err-feed.ensures.write f.runs (ap (λ x. Err x) (same-stop e)) in
    omega (arith, w)
