-- What a decoder says of a stream beside its frames. To be read beside docs/LIBRARY.md.
use Rattle.std.specs.Prelude.{◌≡◌, ℕ, ◌*◌, ◌+◌, ◌-◌, ◌<◌, ◌^◌, List, ◌++◌, codes, Result}
use Rattle.h264_base.specs.declared.stop.Stop.{Stop}
use Rattle.h264_base.specs.declared.summary.Summary.{Summary}
use Rattle.h264_pages.specs.Pages.{answer_fields}
use Rattle.h264_pages.specs.declared.survey.sequence.Sequence.{Sequence}
use Rattle.h264_stream.specs.declared.info.StreamInfo.{StreamInfo}

-- the object of an answer: its kind, the fields of the answer, and more fields after them
abbrev pub verdict_object : Result Summary Stop → (more : List ℕ) → List ℕ
verdict_object answer more = codes "{\"kind\":\"verdict\"" ++ (answer_fields answer ++ (more ++ codes "}"))

-- A set whose numbers are those of a picture: each of them fits 32 bits.
pub record IsSmall (set : Sequence) : Type 0 where
  pub width : set.width < 2 ^ 32
  pub height : set.height < 2 ^ 32
  pub left : set.cropping.left < 2 ^ 32
  pub right : set.cropping.right < 2 ^ 32
  pub top : set.cropping.top < 2 ^ 32
  pub bottom : set.cropping.bottom < 2 ^ 32

-- The sizes are those of this set, in luma samples (7.4.2.1.1).
pub record HasSizes (set : Sequence) (info : StreamInfo) : Type 0 where
  pub coded_width : info.coded_width ≡ 16 * set.width
  pub coded_height : info.coded_height ≡ 16 * set.height
  pub width : info.width ≡ 16 * set.width - 2 * (set.cropping.left + set.cropping.right)
  pub height : info.height ≡ 16 * set.height - 2 * (set.cropping.top + set.cropping.bottom)
  pub left : info.crop_left ≡ 2 * set.cropping.left
  pub right : info.crop_right ≡ 2 * set.cropping.right
  pub top : info.crop_top ≡ 2 * set.cropping.top
  pub bottom : info.crop_bottom ≡ 2 * set.cropping.bottom

-- What is said of a stream is what this sequence parameter set says.
pub record IsInfo (set : Sequence) (info : StreamInfo) : Type 0 where
  pub profile : info.profile_idc ≡ set.profile_idc
  pub level : info.level_idc ≡ set.level_idc
  pub sizes : IsSmall set → HasSizes set info
