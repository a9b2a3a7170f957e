use Rattle.std.proofs.Common.{◌≡◌, ◌-◌, ◌≤◌, length}
use Rattle.h264_strict.specs.SeiTimes.{no_times, times_from}
use Rattle.h264_strict.proofs.sei.times.times_in.Given as goal

abbrev pub invariant-loop-n : goal.invariant-loop-n
invariant-loop-n l = record {
  within : l.at ≤ length l.rbsp.bytes;
  told : times_from l.known (length l.rbsp.bytes) l.rbsp.bytes 0 no_times ≡ times_from l.known (length l.rbsp.bytes - l._n) l.rbsp.bytes l.at l.times;
}
