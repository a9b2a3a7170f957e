-- The weights of a slice by reference index (7.4.3.2). To be read beside the standard.
use Rattle.std.specs.Prelude.{ℕ, Option, None, slice_get}
use Rattle.std.specs.Option.{option_map, option_and_then}
use Rattle.h264_base.specs.declared.weight.Weights.{Weights}
use Rattle.h264_header.specs.declared.header.IndexWeights.{IndexWeights}
use Rattle.h264_header.specs.declared.header.PredWeightTable.{PredWeightTable}
use Rattle.h264_header.specs.declared.header.SliceKind.{SliceKind}
use Rattle.h264_header.specs.declared.header.SliceKind.TheVariants as kinds
use Rattle.h264_header.specs.declared.header.Header.{Header}

abbrev pub table_of : SliceKind → Option PredWeightTable
table_of (kinds.P list) = list.pred_weight_table
table_of kinds.I = None

-- the weights of a reference index in a table; none beyond the active places of the slice's list
abbrev pub weights_at : PredWeightTable → ℕ → Option Weights
weights_at table ref_idx = option_map (λ (e : IndexWeights). e.weights) (slice_get table.entries.items ref_idx)

-- The weights of prediction from the picture at this place of the slice's list; none where the slice has no table, or its list no such place.
abbrev pub weights_of : Header → ℕ → Option Weights
weights_of h ref_idx = option_and_then (λ (t : PredWeightTable). weights_at t ref_idx) (table_of h.kind.value)
