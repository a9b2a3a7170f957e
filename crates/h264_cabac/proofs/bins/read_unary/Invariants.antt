use Rattle.std.proofs.Common.{◌≡◌, ◌-◌}
use Rattle.h264_cabac.specs.Bins.{decoded}
use Rattle.h264_cabac.specs.Elements.{unary_from}
use Rattle.h264_cabac.proofs.bins.read_unary.Given as goal

abbrev pub invariant-loop-k : goal.invariant-loop-k
invariant-loop-k l = decoded (unary_from l.indices 53 0) l.fn.decoder ≡ decoded (unary_from l.indices (53 - l.k) l.k) l.decoder
