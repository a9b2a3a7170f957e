use Rattle.std.proofs.Common.{◌≡◌, ◌-◌}
use Rattle.h264_strict.specs.SeiPart.{times}
use Rattle.h264_strict.specs.SeiTiming.{clock_timestamp}
use Rattle.h264_strict.proofs.sei.timing.so_many_timestamps.Given as goal

abbrev pub invariant-loop-n : goal.invariant-loop-n
invariant-loop-n l = record {
  rest : times l.count (clock_timestamp l.offset) l.fn.bits.body.bytes l.fn.bits.at ≡
      times (l.count - l._n) (clock_timestamp l.offset) l.bits.body.bytes l.bits.at;
  body : l.bits.body ≡ l.fn.bits.body;
}
