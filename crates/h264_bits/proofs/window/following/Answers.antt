use Rattle.h264_bits.proofs.Upcomings.{following-some}
use Rattle.h264_bits.proofs.window.following.Goals as goal

pub returns-clause-bits : goal.returns-clause-bits
returns-clause-bits c bytes i is = following-some bytes i c.args.n c.args.k c.requires.enough is
