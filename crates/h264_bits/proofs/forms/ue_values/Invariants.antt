use Rattle.std.proofs.Common.{◌≡◌, ◌-◌, ◌<◌, ◌^◌, [], take, drop, length}
use Rattle.h264_base.proofs.Steps.{Leads}
use Rattle.h264_bits.specs.Forms.{unsigned, each}
use Rattle.h264_bits.proofs.forms.ue_values.Given as goal

abbrev pub invariant-loop-i : goal.invariant-loop-i
invariant-loop-i g l = record {
  rest : Leads g.S.Elements.took g.S.Elements.failures (each unsigned [] l.names) (each unsigned (take l.i l.values) (drop l.i l.names)) l.fn.bits l.bits
      l.fn.sink l.sink;
  sized : length l.values ≡ length l.names;
  room : g.S.Elements.failures l.sink < 2 ^ 64 - 1;
}
