use Rattle.std.proofs.Common.{sym, ap, subst, ◌∙◌, Bool}
use Rattle.h264_verify.specs.Order.{coded_before}
use Rattle.h264_verify.specs.Keeping.{HoldsNewest}
use Rattle.h264_verify.proofs.kept.HoldsCoded.{coded-before}
use Rattle.h264_verify.proofs.slice.coded_before.Goals as goal

pub returns : goal.returns
returns c = λ pictures k. coded-before pictures c.args.work.now _ c.next_mb.ensures
    (subst (λ (b : Bool). HoldsNewest b pictures c.args.work.now) c.if-begins.false k) ∙ ap (λ (b : Bool). coded_before b pictures) (sym c.if-begins.false)
