use Rattle.std.proofs.Common.{◌∙◌}
use Rattle.h264_dpb.proofs.Out.{leave-kept, leave-removed}
use Rattle.h264_dpb.proofs.bumping.leave.Goals as goal

pub returns-then-entry : goal.returns-then-entry
returns-then-entry c = leave-kept c.args.entries.now.items c.as_slice.result.now c.as_mut_slice.result.now c.put.new.entries c.args.k _
    c.as_slice.ensures.value c.as_mut_slice.ensures.value c.put.ensures c.requires c.if-entry.true

pub returns-else-entry : goal.returns-else-entry
returns-else-entry c = c.remove.ensures.items ∙
    leave-removed c.args.entries.now.items c.as_slice.result.now c.args.k _ c.as_slice.ensures.value c.requires c.if-entry.false
