-- To be read beside the standard. The samples of a picture (8), by its coded macroblocks in decoding order, the parameters of each slice by its number,
-- the places of its reference pictures in the pool by their numbers, and these pictures.
use Rattle.std.specs.Prelude.{◌≡◌, ℕ, ◌*◌, ◌<◌, Bool, List, [], length, take, slice_get, get_or, Option, Some, None}
use Rattle.h264_base.specs.declared.weight.Weights.{Weights}
use Rattle.h264_plane.specs.declared.frame.Component.{Component}
use Rattle.h264_plane.specs.Places.{side}
use Rattle.h264_near.specs.Coded as coded
use Rattle.h264_near.specs.Coded.{CodedMacroblock, no_residual}
use Rattle.h264_recon.specs.Inter.{Setting}
use Rattle.h264_recon.specs.Constructed.{Coded, Constructed}
use Rattle.h264_recon.specs.Given.{given, slice_settings}
use Rattle.h264_deblock.specs.declared.slice_filter.SliceFilter.{SliceFilter}
use Rattle.h264_deblock.specs.Filtering.{PlaneEdges, filtered_by, unfiltered}
use Rattle.h264_deblock.specs.CodedEdges.{coded_edges}
use Rattle.h264_plane.specs.Frames.{is_chroma}

-- what the samples of a slice's macroblocks depend on beside these: constrained_intra_pred_flag, its filter with chroma_qp_index_offset, and the weights
-- of its reference indexes, by refIdxL0, where they have any
pub record Parameters : Type 0 where
  pub constrained_intra : Bool
  pub filter : SliceFilter
  pub weights : List (Option Weights)

abbrev pub filters : (ℕ → Parameters) → ℕ → SliceFilter
filters slices n = (slices n).filter

-- the macroblock m of a slice with these parameters, after these macroblocks
abbrev pub given_by : ℕ → List CodedMacroblock → (ℕ → ℕ) → Parameters → CodedMacroblock → Coded
given_by width picture place s m = given width picture place (slice_settings s.weights s.constrained_intra s.filter.chroma_qp_index_offset) m

-- what stands where no macroblock is
abbrev pub nothing : CodedMacroblock
nothing = record { slice = 0; prediction = coded.Inter []; qp = 0; totals = []; chroma_totals = []; residual = no_residual }

-- the macroblock at an address
unfoldable pub macroblock_at : (ℕ → Parameters) → (ℕ → ℕ) → ℕ → List CodedMacroblock → ℕ → Coded
macroblock_at slices place width picture a = given_by width (take a picture) place (slices (get_or picture a nothing).slice) (get_or picture a nothing)

-- its edges in a plane; where there is no macroblock, no edges
abbrev pub edges_if : (ℕ → Parameters) → ℕ → List CodedMacroblock → Option CodedMacroblock → Component → PlaneEdges
edges_if slices width picture None plane = record { vertical = []; horizontal = [] }
edges_if slices width picture (Some m) plane = coded_edges (filters slices) width picture m plane

unfoldable pub edges_at : (ℕ → Parameters) → ℕ → List CodedMacroblock → Component → ℕ → PlaneEdges
edges_at slices width picture plane a = edges_if slices width (take a picture) (slice_get picture a) plane

-- The samples of the picture: there are samples u that meet the equations of construction, at every macroblock (8.3, 8.4, 8.5), and these are u after
-- the deblocking filter (8.7).
pub record IsDecoded (k : Setting) (place : ℕ → ℕ) (slices : ℕ → Parameters) (picture : List CodedMacroblock) (final : Component → ℕ → ℕ → ℕ) : Type 0 where
  pub whole : length picture ≡ k.down * k.across
  pub u : Component → ℕ → ℕ → ℕ
  pub constructed : Constructed k (macroblock_at slices place k.across picture) u
  pub filtered : (p : Component) (x y : ℕ) → x < side p * k.across → y < side p * k.down →
      final p x y ≡ filtered_by (k.down * k.across) (unfiltered k.across (side p) (is_chroma p) (edges_at slices k.across picture p) (u p)) x y
