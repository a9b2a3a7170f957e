-- What an edge says of its blocks, to macroblocks of this slice. A working form.
use Rattle.std.specs.Prelude.{ℕ, ◌+◌, ◌*◌, Bool, not, Option, Some, None, ◌==◌, ◌&&◌, ◌||◌, if◌then◌else◌}
use Rattle.std.proofs.Common.{get_or}
use Rattle.h264_intra.specs.declared.luma4.Intra4x4PredMode.{Intra4x4PredMode}
use Rattle.h264_intra.specs.declared.luma4.Intra4x4PredMode.TheVariants.{Vertical}
use Rattle.h264_near.specs.declared.context.Edge.{Edge}
use Rattle.h264_near.specs.declared.motion.Motion.{Motion}

abbrev pub edge_total : ℕ → ℕ → Option Edge → Option ℕ
edge_total slice k None = None
edge_total slice k (Some e) = if e.slice == slice then Some (get_or e.totals k 0) else None

abbrev pub edge_chroma : ℕ → ℕ → ℕ → Option Edge → Option ℕ
edge_chroma slice c k None = None
edge_chroma slice c k (Some e) = if e.slice == slice then Some (get_or e.chroma (c * 2 + k) 0) else None

abbrev pub edge_mode : ℕ → Bool → ℕ → Option Edge → Option Intra4x4PredMode
edge_mode slice constrained k None = None
edge_mode slice constrained k (Some e) = if e.slice == slice && (e.intra || not constrained) then Some (get_or e.modes k Vertical) else None

abbrev pub edge_motion : ℕ → ℕ → Option Edge → Option (Option Motion)
edge_motion slice k None = None
edge_motion slice k (Some e) = if e.slice == slice then Some (get_or e.motions k None) else None
