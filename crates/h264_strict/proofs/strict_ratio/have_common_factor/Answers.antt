use Rattle.std.proofs.Common.{sym}
use Rattle.h264_strict.proofs.Factors.{factor-gcd}
use Rattle.h264_strict.proofs.strict_ratio.have_common_factor.Goals as goal

pub returns : goal.returns
returns c = sym (factor-gcd c.args.n c.args.k c.gcd.result c.requires c.gcd.ensures)
