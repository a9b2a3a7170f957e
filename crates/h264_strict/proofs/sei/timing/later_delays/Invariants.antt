use Rattle.std.proofs.Common.{◌≡◌, ◌-◌, min}
use Rattle.h264_strict.specs.SeiTiming.{delays_from}
use Rattle.h264_strict.proofs.sei.timing.later_delays.Given as goal

abbrev pub invariant-loop-i : goal.invariant-loop-i
invariant-loop-i l = record {
  rest : delays_from l.hrd (min l.hrd.cpbs.count 32 - 1) 1 l.fn.bits.body.bytes l.fn.bits.at ≡
      delays_from l.hrd (min l.hrd.cpbs.count 32 - l.i) l.i l.bits.body.bytes l.bits.at;
  body : l.bits.body ≡ l.fn.bits.body;
}
