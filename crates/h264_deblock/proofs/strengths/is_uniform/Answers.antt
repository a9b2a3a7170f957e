use Rattle.std.proofs.Common.{◌≡◌, true, false, length, arith}
use Rattle.h264_deblock.proofs.CodedEdges.{even-lines}
use Rattle.h264_deblock.proofs.strengths.is_uniform.Goals as goal

pub returns : goal.returns
returns c t e m s =
    let own = c.args.own.now in
    let a : length own.totals ≡ 16 = omega arith in
    record {
      vertical = even-lines true own m s a c.if-own.false (e t);
      horizontal = even-lines false own m s a c.if-own.false (e t);
    }
