use Rattle.std.proofs.Common.{true, ◌∙◌}
use Rattle.h264_base.specs.declared.rule.Rule.TheVariants.{Incomplete}
use Rattle.h264_base.specs.declared.stop.Stop.TheVariants.{No}
use Rattle.h264_verify.specs.Pictures.{goes_on, runs_of}
use Rattle.h264_verify.proofs.kept.HoldsCoded.{checked-outcome, whole-outcome, none-whole}
use Rattle.h264_verify.proofs.kept.KeepsOutput.{coded-by}
use Rattle.h264_verify.proofs.kept.WhereMade.{some-made, none-made, quiet-whole}
use Rattle.h264_verify.proofs.close.end_data.Goals as goal

pub returns-in_default-clause-judged : goal.returns-in_default-clause-judged
returns-in_default-clause-judged c = λ depth frames before kept k. quiet-whole depth true before (none-made _ depth c.args.decoder.now c.in_default.is k)

pub returns-in-None-clause-judged : goal.returns-in-None-clause-judged
returns-in-None-clause-judged c = λ depth frames before kept k.
    let made = some-made _ depth c.args.decoder.now _ c.in-Some.is k in
    rw made.0 (none-whole (goes_on before) (runs_of before) c.args.slices.now.picture c.in-None.is kept.kept.picture)

pub returns-in-Some-picture-clause-judged : goal.returns-in-Some-picture-clause-judged
returns-in-Some-picture-clause-judged c = λ depth frames before kept k.
    let made = some-made _ depth c.args.decoder.now _ c.in-Some.is k in
    rw made.0 (checked-outcome c.is_whole.result (No c.in-Some-picture.picture.following Incomplete) _ c.check.ensures
    ∙ whole-outcome (goes_on before) (runs_of before) c.args.slices.now.picture c.in-Some-picture.picture c.in-Some.decoder.work c.is_whole.result
    c.in-Some-picture.is kept.kept.picture (coded-by frames (goes_on before) (runs_of before) c.in-Some.decoder made.1) c.is_whole.ensures)
