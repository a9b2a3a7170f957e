-- The frames of the pictures of a stream. To be read beside the standard.
use Rattle.std.specs.Prelude.{◌≡◌, ℕ, ◌*◌, ◌<◌, List, [], ◌∷◌, ◌++◌, length, get_or, Some, None}
use Rattle.h264_plane.specs.declared.frame.Component.{Component}
use Rattle.h264_plane.specs.declared.frame.Frame.{Frame}
use Rattle.h264_plane.specs.Frames.{IsFrame, plane_of}
use Rattle.h264_plane.specs.Samples.{at}
use Rattle.h264_picture.specs.Decoded.{Parameters, IsDecoded as IsDecodedBy}
use Rattle.h264_picture.specs.Filter.{slice_filter}
use Rattle.h264_picture.specs.Weights.{slice_weights}
use Rattle.h264_verify.specs.Pictures.{CodedSlice, CodedPicture, last_slice}
use Rattle.h264_verify.specs.Lists.{named_in}

-- the slices of a picture, the last one first
abbrev pub slices_of : CodedPicture → List CodedSlice
slices_of p = p.later ++ p.first ∷ []

abbrev pub EachSlice : (CodedSlice → Type 0) → List CodedSlice → Type 0
EachSlice P [] = Unit {0}
EachSlice P (s ∷ slices) = P s × EachSlice P slices

-- a slice's number in its picture
abbrev pub number_of : CodedSlice → ℕ
number_of s = s.header.first_mb_in_slice.value

-- what the samples of its macroblocks take from its header and its picture parameter set
abbrev pub parameters_of : CodedSlice → Parameters
parameters_of s = record { constrained_intra = s.pps.constrained_intra_pred_flag; filter = slice_filter s.pps s.header; weights = slice_weights s.header }

-- Each picture that a slice's list names is one of those before, and at its place these reference samples are its frame's.
pub record Refers (frames : ℕ → Frame) (p : CodedPicture) (ps : List CodedPicture) (place : ℕ → ℕ) (reference : ℕ → Component → ℕ → ℕ → ℕ)
    (s : CodedSlice) : Type 0 where
  pub before : (k n : ℕ) → k < 16 → get_or (named_in (p ∷ ps) s) k None ≡ Some n → n < length ps
  pub samples : (k n : ℕ) → k < 16 → get_or (named_in (p ∷ ps) s) k None ≡ Some n → (c : Component) (x y : ℕ) →
      reference (place n) c x y ≡ at (plane_of c (frames n)) x y

-- The frame is the picture after these, decoded from the frames of the pictures that its lists name: it is as large, and its samples are those of the
-- equations (8), with the parameters of each slice by its number.
pub record IsDecoded (frames : ℕ → Frame) (p : CodedPicture) (ps : List CodedPicture) (frame : Frame) : Type 0 where
  pub size : IsFrame frame (16 * p.first.sps.frame_size.width) (16 * p.first.sps.frame_size.height)
  pub place : ℕ → ℕ
  pub reference : ℕ → Component → ℕ → ℕ → ℕ
  pub refers : EachSlice (Refers frames p ps place reference) (slices_of p)
  pub slices : ℕ → Parameters
  pub parameters : EachSlice (λ s. slices (number_of s) ≡ parameters_of s) (slices_of p)
  pub samples : IsDecodedBy (record {
    across = p.first.sps.frame_size.width;
    down = p.first.sps.frame_size.height;
    reference = reference;
  }) place slices (last_slice p).macroblocks (λ c. at (plane_of c frame))
