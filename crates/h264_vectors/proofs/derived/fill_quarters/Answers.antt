use Rattle.h264_vectors.proofs.Quarters.{all-filled}
use Rattle.h264_vectors.proofs.derived.fill_quarters.Goals as goal

pub returns : goal.returns
returns c = all-filled c.args.motions.now c.fill_quarter.new.motions c.fill_quarter-2.new.motions c.fill_quarter-3.new.motions c.fill_quarter-4.new.motions
    c.args.part c.args.motion c.fill_quarter-4.array_long c.fill_quarter.ensures c.fill_quarter-2.ensures c.fill_quarter-3.ensures c.fill_quarter-4.ensures
