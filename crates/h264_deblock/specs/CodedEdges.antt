-- To be read beside the standard. The edges of a macroblock of the coded picture: which are filtered, and by what (8.7, 8.7.2.1, 8.7.2.2). Each slice is
-- known by its number.
use Rattle.std.specs.Prelude.{ℕ, zero, suc, ◌+◌, ◌%◌, Bool, true, false, ◌==◌, if◌then◌else◌, List, [], ◌∷◌, length, Option, Some, None}
use Rattle.h264_tables.specs.ChromaQp.{chroma_qp_of}
use Rattle.h264_tables.specs.declared.thresholds.Strength.TheVariants.{One, Two, Three}
use Rattle.h264_plane.specs.declared.frame.Component.{Component}
use Rattle.h264_plane.specs.declared.frame.Component.TheVariants.{Y, Cb, Cr}
use Rattle.h264_near.specs.Coded.{CodedMacroblock}
use Rattle.h264_near.specs.Keeps.{filter_qp_of}
use Rattle.h264_near.specs.Raster.{last_in, last_left}
use Rattle.h264_deblock.specs.Filtering.{PlaneEdges}
use Rattle.h264_deblock.specs.Strength.{Side, side_part, strength_between}
use Rattle.h264_deblock.specs.declared.edge_parameters.EdgeParameters.{EdgeParameters}
use Rattle.h264_deblock.specs.declared.edge_parameters.BoundaryStrength.{BoundaryStrength}
use Rattle.h264_deblock.specs.declared.edge_parameters.BoundaryStrength.TheVariants.{Zero, BelowFour, Four}
use Rattle.h264_deblock.specs.declared.slice_filter.Deblocking.{Deblocking}
use Rattle.h264_deblock.specs.declared.slice_filter.Deblocking.TheVariants.{AllEdges, Off, WithinSlice}
use Rattle.h264_deblock.specs.declared.slice_filter.SliceFilter.{SliceFilter}

-- ---- bS

abbrev pub named : ℕ → BoundaryStrength
named zero = Zero
named (suc zero) = BelowFour One
named (suc (suc zero)) = BelowFour Two
named (suc (suc (suc zero))) = BelowFour Three
named (suc (suc (suc (suc n)))) = Four

-- where both blocks exist
abbrev pub named_if : Option ℕ → BoundaryStrength
named_if None = Zero
named_if (Some n) = named n

-- the k-th block of a line of blocks of a macroblock: of a column of them beside a vertical edge, of a row beside a horizontal one
unfoldable pub block_at : Bool → ℕ → ℕ → CodedMacroblock → Option Side
block_at true line k m = side_part line k m
block_at false line k m = side_part k line m

-- bS of the k-th quarter of the edge before a line of blocks of q; p is the macroblock on its other side, and q itself where the line is not the first
unfoldable pub strength_at : Bool → ℕ → CodedMacroblock → CodedMacroblock → ℕ → BoundaryStrength
strength_at vertical line p q k = named_if (strength_between (line == 0) (block_at vertical ((line + 3) % 4) k p) (block_at vertical line k q))

unfoldable pub strengths : Bool → ℕ → CodedMacroblock → CodedMacroblock → List BoundaryStrength
strengths vertical line p q = strength_at vertical line p q 0 ∷ strength_at vertical line p q 1 ∷ strength_at vertical line p q 2
    ∷ strength_at vertical line p q 3 ∷ []

-- ---- an edge

-- the quantisation parameter of a macroblock in a plane: 0 of I_PCM, and in chroma its QPC
unfoldable pub plane_qp : (ℕ → SliceFilter) → Component → CodedMacroblock → ℕ
plane_qp slices Y m = filter_qp_of m.prediction m.qp
plane_qp slices Cb m = chroma_qp_of (filter_qp_of m.prediction m.qp) (slices m.slice).chroma_qp_index_offset
plane_qp slices Cr m = chroma_qp_of (filter_qp_of m.prediction m.qp) (slices m.slice).chroma_qp_index_offset

-- the edge before a line of blocks of q
unfoldable pub edge_of : (ℕ → SliceFilter) → Component → Bool → ℕ → CodedMacroblock → CodedMacroblock → EdgeParameters
edge_of slices plane vertical line p q = record {
  qp_p = plane_qp slices plane p;
  qp_q = plane_qp slices plane q;
  filter_offset_a = (slices q.slice).filter_offset_a;
  filter_offset_b = (slices q.slice).filter_offset_b;
  strengths = strengths vertical line p q;
}

-- whether an edge is filtered, by disable_deblocking_filter_idc of the slice of q, and whether p is of the same slice
abbrev pub filters : Deblocking → Bool → Bool
filters AllEdges same = true
filters Off same = false
filters WithinSlice same = same

-- the edge to the macroblock p, if there is one
unfoldable pub border : (ℕ → SliceFilter) → Component → Bool → Option CodedMacroblock → CodedMacroblock → Option EdgeParameters
border slices plane vertical None q = None
border slices plane vertical (Some p) q = if filters (slices q.slice).deblocking (p.slice == q.slice) then Some (edge_of slices plane vertical 0 p q) else None

-- an edge in the macroblock
unfoldable pub inner : (ℕ → SliceFilter) → Component → Bool → ℕ → CodedMacroblock → Option EdgeParameters
inner slices plane vertical line q = if filters (slices q.slice).deblocking true then Some (edge_of slices plane vertical line q q) else None

-- ---- the edges of a macroblock

-- those of a direction, of which chroma has every other one
unfoldable pub edges_along : (ℕ → SliceFilter) → Component → Bool → Option CodedMacroblock → CodedMacroblock → List (Option EdgeParameters)
edges_along slices Y vertical p q = border slices Y vertical p q ∷ inner slices Y vertical 1 q ∷ inner slices Y vertical 2 q ∷ inner slices Y vertical 3 q ∷ []
edges_along slices Cb vertical p q = border slices Cb vertical p q ∷ inner slices Cb vertical 2 q ∷ []
edges_along slices Cr vertical p q = border slices Cr vertical p q ∷ inner slices Cr vertical 2 q ∷ []

-- those of the macroblock q, which follows these in a picture that is so many macroblocks wide
unfoldable pub coded_edges : (ℕ → SliceFilter) → ℕ → List CodedMacroblock → CodedMacroblock → Component → PlaneEdges
coded_edges slices width picture q plane = record {
  vertical = edges_along slices plane true (last_left width picture) q;
  horizontal = edges_along slices plane false (last_in width picture (length picture % width)) q;
}
