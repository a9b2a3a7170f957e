use Rattle.std.proofs.Common.{arith}
use Rattle.h264_cavlc.proofs.Single.{only-one, only-other}
use Rattle.h264_cavlc.proofs.residual.read_only_level.Goals as goal

pub returns-then-token-eq1 : goal.returns-then-token-eq1
returns-then-token-eq1 g c = only-one c.args.token c.read_trailing_one.result c.if-token-eq1.true c.requires.one c.read_trailing_one.ensures

pub returns-else-token-eq1 : goal.returns-else-token-eq1
returns-else-token-eq1 g c = let w = c.requires.within in let t = c.requires.one in let n = c.if-token-eq1.false in
    only-other c.args.token c.read_level.result (omega arith) t c.read_level.ensures
