use Rattle.std.proofs.Common.{rules, sym}
use Rattle.std.specs.Int.{w32}
use mir.Val.{SFits}
use Rattle.h264_poc.proofs.Sums.{far-count}
use Rattle.h264_poc.proofs.cycle.cycle_count.Goals as goal

pub returns-in_default : goal.returns-in_default
returns-in_default c =
    let non_ref : SFits w32 c.args.deltas.offset_for_non_ref_pic = search rules in
    let top : SFits w32 c.args.deltas.top = search rules in
    let far = rw (c.abs_frame_num-abs.ensures.is, c.offsets-offsets.ensures.value) at c.in_default.ensures.far in
    sym (far-count _ c.args.reference c.args.deltas non_ref top far)
