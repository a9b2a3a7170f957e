use Rattle.std.proofs.Common.{◌≡◌, ◌-◌, ◌<◌, ◌^◌, [], take, drop, length, replicate, pos}
use Rattle.h264_base.proofs.Steps.{Leads}
use Rattle.h264_bits.specs.Forms.{signed, repeated}
use Rattle.h264_base.specs.declared.element_name.ElementName.TheVariants.{OffsetForRefFrame}
use Rattle.h264_sps.proofs.count_type.read_cycle.Given as goal

abbrev pub invariant-loop-i : goal.invariant-loop-i
invariant-loop-i g l = record {
  rest : Leads g.S.Elements.took g.S.Elements.failures (repeated (signed OffsetForRefFrame) [] l.length)
      (repeated (signed OffsetForRefFrame) (take l.i l.offset_for_ref_frame) (l.length - l.i)) l.fn.bits l.bits l.fn.sink l.sink;
  sized : length l.offset_for_ref_frame ≡ 255;
  following : drop l.i l.offset_for_ref_frame ≡ replicate (255 - l.i) (pos 0);
  room : g.S.Elements.failures l.sink < 2 ^ 64 - 1;
}
