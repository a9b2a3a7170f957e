use Rattle.std.proofs.Common.{◌≡◌, ◌-◌, ◌<◌, ◌^◌, [], length}
use Rattle.h264_base.proofs.Steps.{Leads}
use Rattle.h264_bits.specs.Forms.{repeated}
use Rattle.h264_header.specs.PredWeightTable.{index_weights}
use Rattle.h264_header.proofs.weights.read_entries.Given as goal

abbrev pub invariant-loop-index : goal.invariant-loop-index
invariant-loop-index g l = record {
  rest : Leads g.S.Elements.took g.S.Elements.failures (repeated (index_weights l.luma_denom l.chroma_denom) [] l.active)
      (repeated (index_weights l.luma_denom l.chroma_denom) l.entries.items (l.active - l._index)) l.fn.bits l.bits l.fn.sink l.sink;
  sized : length l.entries.items ≡ l._index;
  room : g.S.Elements.failures l.sink < 2 ^ 64 - 1;
}
