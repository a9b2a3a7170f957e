use Rattle.std.proofs.Common.{◌≡◌, ◌-◌, ◌<◌, ◌^◌, [], take, length}
use Rattle.h264_base.proofs.Steps.{Leads}
use Rattle.h264_bits.specs.Forms.{repeated}
use Rattle.h264_cavlc.specs.Token.{trailing_one}
use Rattle.h264_cavlc.proofs.token.read_each_one.Given as goal

abbrev pub invariant-loop-k : goal.invariant-loop-k
invariant-loop-k g l = record {
  rest : Leads g.S.Elements.took g.S.Elements.failures (repeated trailing_one [] l.ones) (repeated trailing_one (take l.k l.levels) (l.ones - l.k)) l.fn.bits
      l.bits l.fn.sink l.sink;
  sized : length l.levels ≡ 16;
  room : g.S.Elements.failures l.sink < 2 ^ 64 - 1;
}
