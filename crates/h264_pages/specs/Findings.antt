-- Where a verdict stands in what a survey has. To be read beside docs/OUTPUT.md.
use Rattle.std.specs.Prelude.{ℕ, ◌-◌, ◌/◌, ◌%◌, ◌==◌, nat_le, if◌then◌else◌, Option, None, Some, option_map, option_and_then, List, Result, Err}
use Rattle.h264_base.specs.declared.rule.Rule.{Rule}
use Rattle.h264_base.specs.declared.rule.Rule.TheVariants.{Incomplete, FirstMb}
use Rattle.h264_base.specs.declared.stop.Stop.{Stop}
use Rattle.h264_base.specs.declared.stop.Stop.TheVariants.{No}
use Rattle.h264_base.specs.declared.summary.Summary.{Summary}
use Rattle.h264_pages.specs.Surveyed.{macroblock_read, sequence_read}
use Rattle.h264_pages.specs.SurveyedPictures.{last_picture}
use Rattle.h264_pages.specs.declared.pages.finding.Macroblock.{Macroblock}
use Rattle.h264_pages.specs.declared.survey.notes.Survey.{Survey}
use Rattle.h264_pages.specs.declared.survey.picture.Picture.{Picture}
use Rattle.h264_pages.specs.declared.survey.sequence.Sequence.{Sequence}
use Rattle.h264_pages.specs.declared.survey.slice.Slice.{Slice}

-- the rule that an answer names
abbrev pub rule_in : Result Summary Stop → Option Rule
rule_in (Err (No bit rule)) = Some rule
rule_in answer = None

-- the frame_num of the slice that is read
abbrev pub frame_num_in : Option Slice → Option ℕ
frame_num_in slice = option_and_then (λ (s : Slice). s.frame_num) slice

-- the number so many before one, where there is one
abbrev pub number_before : (less number : ℕ) → Option ℕ
number_before less number = if nat_le less number then Some (number - less) else None

-- The number of the picture that is read, of which so many were begun, where a slice is read. A first_mb_in_slice of 0 that is refused begins none.
abbrev pub picture_of_slice : Option Rule → (begun : ℕ) → Slice → Option ℕ
picture_of_slice (Some FirstMb) begun slice = number_before (if slice.first_mb_in_slice == 0 then 2 else 1) begun
picture_of_slice rule begun slice = number_before 1 begun

-- the number of the picture in which this rule was broken; the last one's where it is incomplete
unfoldable pub picture_in : Option Rule → (begun : ℕ) → Option Slice → Option ℕ
picture_in (Some Incomplete) begun slice = number_before 1 begun
picture_in rule begun slice = option_and_then (λ (s : Slice). picture_of_slice rule begun s) slice

-- the number of the last slice of a picture; 0 where there is none
abbrev pub slice_number : Option Picture → ℕ
slice_number None = 0
slice_number (Some picture) = picture.slices - 1

-- the number of the slice that is read in its picture
abbrev pub slice_in : Option Slice → List Picture → Option ℕ
slice_in slice pictures = option_map (λ (s : Slice). slice_number (last_picture pictures)) slice

-- a macroblock by its address, in a frame so many macroblocks wide; in the first column and row where the width is not known
abbrev pub macroblock_at : (address width : ℕ) → Macroblock
macroblock_at address width = if width == 0 then record { address = address; column = 0; row = 0 }
    else record { address = address; column = address % width; row = address / width }

-- the macroblock that was begun last, in the frame of the sequence parameter set that is read or used
abbrev pub macroblock_in : Survey → Option Macroblock
macroblock_in s = option_and_then (λ (address : ℕ). option_map (λ (set : Sequence). macroblock_at address set.width)
    (sequence_read s.sets.read s.slice s.sets.picture_sets.items s.sets.sequences.items)) (macroblock_read s.reading)
