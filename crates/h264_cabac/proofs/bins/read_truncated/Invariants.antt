use Rattle.std.proofs.Common.{◌≡◌, ◌-◌}
use Rattle.h264_cabac.specs.Bins.{decoded}
use Rattle.h264_cabac.specs.Elements.{truncated_from}
use Rattle.h264_cabac.proofs.bins.read_truncated.Given as goal

abbrev pub invariant-loop-k : goal.invariant-loop-k
invariant-loop-k l = decoded (truncated_from l.indices l.c_max 0) l.fn.decoder ≡ decoded (truncated_from l.indices (l.c_max - l.k) l.k) l.decoder
