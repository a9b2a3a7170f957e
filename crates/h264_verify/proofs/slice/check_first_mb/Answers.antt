use Rattle.std.proofs.Common.{ℕ, ap, ◌∙◌}
use Rattle.h264_verify.specs.declared.state.Depth.TheVariants as depths
use Rattle.h264_verify.specs.Demands.{judged}
use Rattle.h264_verify.specs.Slices.{first_mb_demands}
use Rattle.h264_verify.proofs.kept.WhereMade.{some-made, none-made, quiet-first}
use Rattle.h264_verify.proofs.slice.check_first_mb.Goals as goal

pub returns-in-None-clause-judged : goal.returns-in-None-clause-judged
returns-in-None-clause-judged c = λ depth pictures k. quiet-first depth _ c.args.header.now (none-made _ depth _ c.in-None.is k)

pub returns-in-Some-clause-judged : goal.returns-in-Some-clause-judged
returns-in-Some-clause-judged c = λ depth pictures k.
    let made = some-made _ depth _ _ c.in-Some.is k in
    rw made.0 (c.check.ensures ∙ ap (λ (n : ℕ). judged (first_mb_demands depths.Full n c.args.header.now)) (c.coded_before-coded.ensures pictures made.1))
