-- What the row of contexts, the left column and the corner hold. A working form.
use Rattle.std.specs.Prelude.{◌≡◌, ℕ, ◌+◌, ◌*◌, ◌%◌, ◌<◌, List, length, Option, Some, None, vec_len, slice_get}
use Rattle.std.proofs.Common.{get_or}
use Rattle.h264_intra.specs.declared.luma4.Intra4x4PredMode.TheVariants.{Vertical}
use Rattle.h264_near.specs.declared.context.Contexts.{Contexts}
use Rattle.h264_near.specs.declared.context.Edge.{Edge}
use Rattle.h264_near.specs.declared.near.Near.{Near}
use Rattle.h264_near.specs.declared.skipped.Skipped.{Skipped}
use Rattle.h264_plane.specs.Blocks.{number_of}
use Rattle.h264_near.specs.Coded.{CodedMacroblock, Prediction, Pcm, is_intra, mode_in, motion_in, chroma_number_of}
use Rattle.h264_near.specs.Raster.{last_in, last_left, last_corner}

-- the quantisation parameter that the deblocking filter takes (8.7.2.2)
abbrev pub filter_qp_of : Prediction → ℕ → ℕ
filter_qp_of (Pcm samples) qp = 0
filter_qp_of p qp = qp

-- what the code knows of a macroblock is what neighbours need of it
pub record AreContexts (c : Contexts) (m : CodedMacroblock) : Type 0 where
  pub slice : m.slice ≡ c.slice
  pub intra : is_intra m.prediction ≡ c.intra
  pub qp : filter_qp_of m.prediction m.qp ≡ c.qp
  pub totals : m.totals ≡ c.totals
  pub chroma_totals : m.chroma_totals ≡ c.chroma_totals
  pub modes : (n : ℕ) → n < 16 → mode_in m.prediction n ≡ Some (get_or c.modes n Vertical)
  pub motions : (n : ℕ) → n < 16 → motion_in m.prediction n ≡ Some (get_or c.motions n None)

-- an edge holds these blocks of the macroblock
pub record Borders (luma : ℕ → ℕ) (chroma : ℕ → ℕ → ℕ) (e : Edge) (m : CodedMacroblock) : Type 0 where
  pub slice : m.slice ≡ e.slice
  pub intra : is_intra m.prediction ≡ e.intra
  pub qp : filter_qp_of m.prediction m.qp ≡ e.qp
  pub totals : (k : ℕ) → k < 4 → slice_get m.totals (luma k) ≡ Some (get_or e.totals k 0)
  pub chroma_totals : (c k : ℕ) → c < 2 → k < 2 → slice_get m.chroma_totals (chroma c k) ≡ Some (get_or e.chroma (c * 2 + k) 0)
  pub modes : (k : ℕ) → k < 4 → mode_in m.prediction (luma k) ≡ Some (get_or e.modes k Vertical)
  pub motions : (k : ℕ) → k < 4 → motion_in m.prediction (luma k) ≡ Some (get_or e.motions k None)

-- an edge where there is a macroblock, and none where there is none
abbrev pub IsEdge : (Edge → CodedMacroblock → Type 0) → Option Edge → Option CodedMacroblock → Type 0
IsEdge borders None None = Unit {0}
IsEdge borders None (Some m) = ⊥
IsEdge borders (Some e) None = ⊥
IsEdge borders (Some e) (Some m) = borders e m

-- the last row and the last column of a macroblock
abbrev pub Lower : Edge → CodedMacroblock → Type 0
Lower = Borders (λ k. number_of k 3) (λ c k. chroma_number_of c k 1)

abbrev pub Right : Edge → CodedMacroblock → Type 0
Right = Borders (λ k. number_of 3 k) (λ c k. chroma_number_of c 1 k)

-- how many macroblocks wide the picture is
abbrev pub width_of : Near → ℕ
width_of near = vec_len near.above

-- the macroblock to the left, where it is skipped
abbrev pub skipped_before : Near → Option Skipped
skipped_before near = near.skipped

-- The contexts are those that the next macroblocks need, after these macroblocks of a picture that is so many macroblocks wide.
pub record Keeps (width : ℕ) (picture : List CodedMacroblock) (near : Near) : Type 0 where
  pub sized : vec_len near.above ≡ width
  pub column : near.column ≡ length picture % width
  pub above : (c : ℕ) → c < width → IsEdge Lower (get_or near.above.items c None) (last_in width picture c)
  pub left : IsEdge Right near.left (last_left width picture)
  pub corner : IsEdge Lower near.corner (last_corner width picture)
