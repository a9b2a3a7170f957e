use Rattle.std.proofs.Common.{◌+ℤ◌, ◌*ℤ◌, pos, ap, ◌∙◌, arith}
use Rattle.std.proofs.lemmas.Int.{ints}
use lib.Signed.{shr_z}
use Rattle.h264_cabac.specs.Contexts.{clip_1_126}
use Rattle.h264_cabac.proofs.Slopes.{slope-is, pre-is}
use Rattle.h264_cabac.proofs.context.pre_ctx_state.Goals as goal

pub overflow_add-z : goal.overflow_add-z
overflow_add-z c =
    let m = c.min-qp.ensures in
    let s = (slope-is c.args.m c.min-qp.result c.ranges.m (omega arith)).within in
    let low = s.low in
    let high = s.high in
    omega (arith, ints)

pub returns-clause-value : goal.returns-clause-value
returns-clause-value c =
    let m = c.min-qp.ensures in
    let s = slope-is c.args.m c.min-qp.result c.ranges.m (omega arith) in
    c.clipped.ensures.value ∙ ap clip_1_126 (pre-is c.args.m c.args.n c.min-qp.result _ c.ranges.n s ∙
    ap (λ q. shr_z (c.args.m *ℤ pos q) 16 +ℤ c.args.n) m)
