use Rattle.std.proofs.Common.{◌≡◌, ◌-◌, ◌<◌, ◌^◌, [], take, drop, length, replicate}
use Rattle.h264_base.proofs.Steps.{Leads}
use Rattle.h264_bits.specs.Forms.{repeated}
use Rattle.h264_sps.specs.Hrd.{cpb, no_cpb}
use Rattle.h264_sps.proofs.hrd.read_cpbs.Given as goal

abbrev pub invariant-loop-i : goal.invariant-loop-i
invariant-loop-i g l = record {
  rest : Leads g.S.Elements.took g.S.Elements.failures (repeated cpb [] l.count) (repeated cpb (take l.i l.entries) (l.count - l.i)) l.fn.bits l.bits
      l.fn.sink l.sink;
  sized : length l.entries ≡ 32;
  following : drop l.i l.entries ≡ replicate (32 - l.i) no_cpb;
  room : g.S.Elements.failures l.sink < 2 ^ 64 - 1;
}
