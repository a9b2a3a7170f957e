use Rattle.h264_recon.proofs.Weighted.{all-kept, all-by}
use Rattle.h264_recon.proofs.weighing.weigh_all.Goals as goal

pub returns-in-None : goal.returns-in-None
returns-in-None c = all-kept _ c.args.weighting.whole c.args.weighting.motions.now c.args.own.now c.in-None.is

pub returns-in-Some : goal.returns-in-Some
returns-in-Some c = all-by _ _ c.args.weighting.whole c.args.weighting.motions.now c.args.own.now _ c.in-Some.is c.weigh_by.ensures
