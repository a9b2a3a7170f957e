-- A picture in the making: its samples so far. A working form.
use Rattle.std.specs.Prelude.{◌≡◌, ℕ, ◌+◌, ◌<◌, ◌≤◌, List, [], length, get_or, Option, Some, None}
use Rattle.h264_plane.specs.Samples.{at}
use Rattle.h264_plane.specs.Frames.{plane_of, frame_at}
use Rattle.h264_plane.specs.declared.frame.Component.{Component}
use Rattle.h264_plane.specs.declared.frame.Frame.{Frame}
use Rattle.h264_near.specs.Coded.{CodedMacroblock}
use Rattle.h264_mbsyntax.specs.Macroblock.{predicted_qp}
use Rattle.h264_vectors.specs.declared.slice.SliceContext.{SliceContext}
use Rattle.h264_recon.specs.Inter.{Setting}
use Rattle.h264_recon.specs.Placed.{ArePlaced, weights_by}
use Rattle.h264_picture.specs.declared.canvas.Canvas.{Canvas}
use Rattle.h264_picture.specs.declared.samples.SliceSamples.{SliceSamples}
use Rattle.h264_picture.specs.declared.sequence.Sequence.{Sequence}
use Rattle.h264_picture.specs.declared.slice.Slice.{Slice}
use Rattle.h264_picture.specs.declared.work.Work.{Work}
use Rattle.h264_picture.specs.Decoded.{Parameters, IsDecoded}
use Rattle.h264_picture.specs.Held.{IsHeld}
use Rattle.h264_picture.specs.Holds.{HoldsIn, IsActive}
use Rattle.h264_picture.specs.Sound.{IsPlaceIn}

-- What the samples of a picture depend on beside its macroblocks: the parameters of its slices by their numbers, and the places of its reference
-- pictures, counted from the first one of the sequence, by their numbers.
pub record Making : Type 0 where
  pub slices : ℕ → Parameters
  pub place : ℕ → ℕ

-- the frames beside the one that is written
abbrev pub pool_of : Option Canvas → List Frame
pool_of None = []
pool_of (Some c) = c.frames.pool

-- the size of pictures, and frames as reference pictures, by their places
abbrev pub setting_by : (across down : ℕ) → List Frame → Setting
setting_by across down pool = record { across = across; down = down; reference = λ n p. at (plane_of p (frame_at pool n)) }

-- those of a sequence
abbrev pub setting_of : Sequence → Setting
setting_of s = setting_by s.across s.down (pool_of s.canvas)

-- ---- a sequence

-- lines and the frame that is written hold the samples of these macroblocks
abbrev pub HasSamplesIn : Setting → Making → List CodedMacroblock → Option Canvas → Type 0
HasSamplesIn k making picture None = ⊥
HasSamplesIn k making picture (Some c) = IsHeld k making.place making.slices c.lines c.frames.frame picture

-- Those of the sequence do; of nothing, where the samples are not asked for.
abbrev pub HasSamples : Option Making → List CodedMacroblock → Sequence → Type 0
HasSamples None picture s = Unit {0}
HasSamples (Some making) picture s = HasSamplesIn (setting_of s) making picture s.canvas

-- the samples of this slice are made by that
pub record MakesSlice (making : Making) (slice : Slice) : Type 0 where
  pub parameters : making.slices slice.context.number ≡ record {
    constrained_intra = slice.context.constrained_intra;
    filter = slice.filter;
    weights = weights_by slice.weights;
  }
  pub offset : slice.filter.chroma_qp_index_offset ≡ slice.context.chroma_qp_index_offset
  pub offsets : (n : ℕ) → (making.slices n).filter.chroma_qp_index_offset ≡ slice.filter.chroma_qp_index_offset
  pub placed : ArePlaced slice.context slice.places making.place

abbrev pub MakesIn : Option Making → Slice → Type 0
MakesIn None slice = Unit {0}
MakesIn (Some making) slice = MakesSlice making slice

-- so it will be, with what goes with the slice, where the places of the sequence's frames begin with `base`
pub record MakesSliceWith (making : Making) (slice : SliceContext) (samples : SliceSamples) (base : ℕ) (s : Sequence) : Type 0 where
  pub parameters : making.slices slice.number ≡ record {
    constrained_intra = slice.constrained_intra;
    filter = samples.filter;
    weights = weights_by samples.weights;
  }
  pub offset : samples.filter.chroma_qp_index_offset ≡ slice.chroma_qp_index_offset
  pub offsets : (n : ℕ) → (making.slices n).filter.chroma_qp_index_offset ≡ samples.filter.chroma_qp_index_offset
  pub placed : (k n : ℕ) → k < 16 → get_or slice.references k None ≡ Some n → (get_or samples.places k 0 ≡ base + making.place n)
      × IsPlaceIn s.canvas (making.place n)

abbrev pub MakesWith : Option Making → SliceContext → SliceSamples → ℕ → Sequence → Type 0
MakesWith None slice samples base s = Unit {0}
MakesWith (Some making) slice samples base s = MakesSliceWith making slice samples base s

-- the slice, where it begins with this macroblock
abbrev pub beginning_at : ℕ → SliceContext → SliceContext
beginning_at number slice = record slice { number = number }

-- it holds these macroblocks of a picture, with their samples
pub record HoldsMade (width size : ℕ) (making : Option Making) (picture : List CodedMacroblock) (s : Sequence) : Type 0 where
  pub holds : HoldsIn width size picture s
  pub samples : HasSamples making picture s

-- So it does between two macroblocks of a slice, and has QP_Y,PRED of the next one.
pub record Reads (width size : ℕ) (making : Option Making) (slice : Slice) (picture : List CodedMacroblock) (s : Sequence) : Type 0 where
  pub holds : HoldsIn width size picture s
  pub first : slice.context.number ≤ length picture
  pub predicted : s.mb.qp ≡ predicted_qp slice.context picture
  pub samples : HasSamples making picture s
  pub makes : MakesIn making slice

-- a frame is decoded of these macroblocks
abbrev pub IsMadeOf : Setting → Making → List CodedMacroblock → Option Frame → Type 0
IsMadeOf k making picture None = ⊥
IsMadeOf k making picture (Some f) = IsDecoded k making.place making.slices picture (λ p. at (plane_of p f))

-- ---- the work

-- It holds these macroblocks of a picture, with their samples.
abbrev pub HoldsSamples : ℕ → ℕ → Making → List CodedMacroblock → Work → Type 0
HoldsSamples width size making picture work = IsActive (HoldsMade width size (Some making) picture) work.active

-- What goes with a slice is what the picture's samples depend on: the slice's parameters, one chroma_qp_index_offset for all slices, and the
-- places of its reference pictures.
abbrev pub IsSliceOf : Making → SliceContext → SliceSamples → Work → Type 0
IsSliceOf making slice samples work = IsActive (MakesSliceWith making slice samples work.base) work.active

-- the frame is decoded of these macroblocks, with the frames of the active sequence as reference pictures
abbrev pub IsDecodedIn : Work → Making → List CodedMacroblock → Option Frame → Type 0
IsDecodedIn work making picture f = IsActive (λ (s : Sequence). IsMadeOf (setting_of s) making picture f) work.active

-- place n, counted from the first one of the sequence, has this frame as its reference picture
abbrev pub RefersTo : Work → ℕ → Frame → Type 0
RefersTo work n f = IsActive (λ (s : Sequence). (p : Component) (x y : ℕ) → (setting_of s).reference n p x y ≡ at (plane_of p f) x y) work.active
