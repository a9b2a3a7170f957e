use Rattle.std.proofs.Common.{true, [], ◌∷◌, Some}
use Rattle.h264_recon.proofs.Weighted.{all-kept, all-by}
use Rattle.h264_recon.proofs.weighing.weigh_skipped.Goals as goal

pub returns-in-None : goal.returns-in-None
returns-in-None c = all-kept _ true (Some c.args.motion ∷ []) c.args.own.now c.in-None.is

pub returns-in-Some : goal.returns-in-Some
returns-in-Some c = all-by _ _ true (Some c.args.motion ∷ []) c.args.own.now _ c.in-Some.is c.weigh_one.ensures
