use Rattle.h264_recon.proofs.Rows.{second_beside}
use Rattle.h264_recon.proofs.sum.beside.Goals as goal

pub returns-clause-second : goal.returns-clause-second
returns-clause-second c = second_beside c.args.a c.args.b c.fits-a.0
