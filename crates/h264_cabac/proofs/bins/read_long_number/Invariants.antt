use Rattle.std.proofs.Common.{◌≡◌, ◌-◌, ◌<◌, ◌^◌}
use Rattle.h264_cabac.specs.Bins.{decoded}
use Rattle.h264_cabac.specs.Elements.{number_from}
use Rattle.h264_cabac.proofs.bins.read_long_number.Given as goal

abbrev pub invariant-loop-i : goal.invariant-loop-i
invariant-loop-i l = (decoded (number_from l.n 0) l.fn.decoder ≡ decoded (number_from (l.n - l._i) l.number) l.decoder) × (l.number < 2 ^ l._i)
