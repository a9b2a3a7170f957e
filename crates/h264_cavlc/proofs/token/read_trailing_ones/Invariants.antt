use Rattle.std.proofs.Common.{◌+◌, ◌-◌, ◌<◌, ◌^◌, [], take}
use Rattle.h264_base.proofs.Steps.{Leads}
use Rattle.h264_bits.specs.Forms.{repeated}
use Rattle.h264_cavlc.specs.Token.{trailing_one}
use Rattle.h264_cavlc.proofs.token.read_trailing_ones.Given as goal

abbrev pub invariant-loop-k : goal.invariant-loop-k
invariant-loop-k g l = record {
  rest : Leads g.S.Elements.took g.S.Elements.failures (repeated trailing_one [] l.fn.ones) (repeated trailing_one (take l.k l.levels) (l.fn.ones - l.k))
      l.fn.bits (record { body = l.fn.bits.body; at = l.fn.bits.at + l.k }) l.fn.sink l.sink;
  room : g.S.Elements.failures l.sink < 2 ^ 64 - 1;
}
