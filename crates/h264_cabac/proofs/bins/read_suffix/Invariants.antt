use Rattle.std.proofs.Common.{◌≡◌, ◌-◌, ◌+◌, ◌^◌}
use Rattle.h264_cabac.specs.Bins.{decoded}
use Rattle.h264_cabac.specs.Elements.{golomb_from}
use Rattle.h264_cabac.proofs.bins.read_suffix.Given as goal

abbrev pub invariant-loop-ones : goal.invariant-loop-ones
invariant-loop-ones l =
    (decoded (golomb_from 17 l.first l.c_max) l.fn.decoder ≡ decoded (golomb_from (17 - l.ones) (l.first + l.ones) l.sum) l.decoder)
    × (l.sum + 2 ^ l.first ≡ l.c_max + 2 ^ (l.first + l.ones))
