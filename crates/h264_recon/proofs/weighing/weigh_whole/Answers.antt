use Rattle.h264_recon.proofs.Weighted.{all-alike}
use Rattle.h264_recon.proofs.weighing.weigh_whole.Goals as goal

pub returns : goal.returns
returns c list all = all-alike c.args.weights list c.args.own.now _ all c.weigh_run.ensures c.weigh_run-2.ensures c.weigh_run-3.ensures
