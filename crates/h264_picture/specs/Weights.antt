-- The weights of a slice's reference indexes, by its header (7.4.3.2). To be read beside the standard.
use Rattle.std.specs.Prelude.{ℕ, List, Option}
use Rattle.std.specs.Option.{option_map}
use Rattle.h264_base.specs.declared.weight.Weights.{Weights}
use Rattle.h264_header.specs.Weights.{weights_of}
use Rattle.h264_header.specs.declared.header.Header.{Header}
use Rattle.h264_recon.specs.Table.{table}
use Rattle.h264_recon.specs.Weights.{all_limited}

-- By refIdxL0; none where its slice has no table of weights. They are in their ranges in each header that is accepted.
abbrev pub weights_at : Header → ℕ → Option Weights
weights_at h k = option_map all_limited (weights_of h k)

unfoldable pub slice_weights : Header → List (Option Weights)
slice_weights h = table 16 (weights_at h)
