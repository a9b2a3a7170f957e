use Rattle.h264_recon.proofs.Weighted.{all-of}
use Rattle.h264_recon.proofs.weighing.weigh_places.Goals as goal

pub returns : goal.returns
returns c = all-of c.args.weights.now c.args.own.now _ c.weigh_luma_runs.ensures c.weigh_chroma_runs.ensures c.weigh_chroma_runs-2.ensures
