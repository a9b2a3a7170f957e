-- What a survey tells of pictures and macroblocks. To be read beside the standard (7.3.3, 7.3.4, tables 7-11 and 7-13).
use Rattle.std.specs.Prelude.{ℕ, ℤ, ◌-◌, ◌==◌, ◌||◌, nat_lt, if◌then◌else◌, not, Bool, true, false}
use Rattle.std.specs.Prelude.{Option, None, Some, option_map, unwrap_or, List, [], ◌∷◌, ◌++◌, set, length, slice_get}
use Rattle.h264_base.specs.declared.element_name.ElementName.{ElementName}
use Rattle.h264_base.specs.declared.element_name.ElementName.TheVariants as names
use Rattle.h264_base.specs.declared.mode.SliceType.{SliceType}
use Rattle.h264_base.specs.declared.mode.SliceType.TheVariants as slice_types
use Rattle.h264_bits.specs.Forms.{natural}
use Rattle.h264_bits.specs.Counts.{grown}
use Rattle.h264_pages.specs.declared.survey.counts.MacroblockCounts.{MacroblockCounts}
use Rattle.h264_pages.specs.declared.survey.picture.Picture.{Picture}
use Rattle.h264_pages.specs.declared.survey.picture.PictureKind.{PictureKind}
use Rattle.h264_pages.specs.declared.survey.picture.PictureKind.TheVariants as kinds
use Rattle.h264_pages.specs.declared.survey.slice.Slice.{Slice}
use Rattle.h264_pages.specs.declared.survey.slice.Unit.{Unit}
use Rattle.h264_units.specs.UnitTypes.{type_number}

-- ---- macroblocks

-- a macroblock of this mb_type in an I slice (table 7-11): 0 is I_NxN, and 25 I_PCM
abbrev pub with_intra : ℕ → MacroblockCounts → MacroblockCounts
with_intra mb_type m =
    if mb_type == 0 then record m { intra_4x4 = grown m.intra_4x4 1 }
    else if mb_type == 25 then record m { pcm = grown m.pcm 1 }
    else record m { intra_16x16 = grown m.intra_16x16 1 }

-- an inter macroblock of this mb_type (table 7-13)
abbrev pub with_inter : ℕ → MacroblockCounts → MacroblockCounts
with_inter mb_type m =
    if mb_type == 0 then record m { inter_16x16 = grown m.inter_16x16 1 }
    else if mb_type == 1 then record m { inter_16x8 = grown m.inter_16x8 1 }
    else if mb_type == 2 then record m { inter_8x16 = grown m.inter_8x16 1 }
    else record m { inter_8x8 = grown m.inter_8x8 1 }

-- a macroblock of this mb_type in a slice of this type; in a P slice those of an I slice follow five of its own
abbrev pub with_macroblock : SliceType → ℕ → MacroblockCounts → MacroblockCounts
with_macroblock slice_types.I mb_type m = with_intra mb_type m
with_macroblock slice_types.P mb_type m = if nat_lt mb_type 5 then with_inter mb_type m else with_intra (mb_type - 5) m

-- an element of a slice of this type, where there is one: mb_type, or mb_skip_run
unfoldable pub macroblocks_after : ElementName → ℤ → Option Slice → MacroblockCounts → MacroblockCounts
macroblocks_after names.MbSkipRun v slice m = record m { skipped = grown m.skipped (natural v) }
macroblocks_after names.MbType v (Some slice) m = with_macroblock (unwrap_or slice.slice_type slice_types.I) (natural v) m
macroblocks_after name v slice m = m

-- ---- slices

-- the type that a value of slice_type names (table 7-6)
abbrev pub slice_type_of : ℕ → Option SliceType
slice_type_of v =
    if (v == 0) || (v == 5) then Some slice_types.P
    else if (v == 2) || (v == 7) then Some slice_types.I
    else None

-- a slice whose first element was read
abbrev pub slice_begun : ℕ → Slice
slice_begun first = record { first_mb_in_slice = first; slice_type = None; pic_parameter_set_id = None; frame_num = None }

-- the slice that is read, after an element
unfoldable pub slice_after : ElementName → ℤ → Option Slice → Option Slice
slice_after names.FirstMbInSlice v slice = Some (slice_begun (natural v))
slice_after names.SliceType v slice = option_map (λ (s : Slice). record s { slice_type = slice_type_of (natural v) }) slice
slice_after names.PicParameterSetId v slice = option_map (λ (s : Slice). record s { pic_parameter_set_id = Some (natural v) }) slice
slice_after names.FrameNum v slice = option_map (λ (s : Slice). record s { frame_num = Some (natural v) }) slice
slice_after name v slice = slice

-- ---- pictures

-- a unit: the values of its call, and its number in the stream
pub record UnitTold : Type 0 where
  pub byte : ℕ
  pub nal_unit_type : ℕ
  pub nal_ref_idc : ℕ
  pub length : ℕ
  pub number : ℕ

abbrev pub unit_told : Unit → UnitTold
unit_told u = record {
  byte = u.byte;
  nal_unit_type = type_number u.nal_unit_type;
  nal_ref_idc = u.nal_ref_idc;
  length = u.length;
  number = u.number;
}

-- what a picture is predicted from, by the type of its first unit; until a slice of type P is read
abbrev pub kind_begun : (nal_unit_type : ℕ) → PictureKind
kind_begun nal_unit_type = if nal_unit_type == 5 then kinds.Idr else kinds.I

-- a picture that begins with this unit
abbrev pub picture_begun : UnitTold → Picture
picture_begun u = record {
  kind = kind_begun u.nal_unit_type;
  is_reference = not (u.nal_ref_idc == 0);
  frame_num = 0;
  byte = u.byte;
  bytes = 0;
  slices = 0;
  resets = false;
}

abbrev pub last_picture : List Picture → Option Picture
last_picture pictures = slice_get pictures (length pictures - 1)

abbrev pub set_last : Option Picture → List Picture → List Picture
set_last None pictures = pictures
set_last (Some p) pictures = set pictures (length pictures - 1) p

-- the last picture changed so; none where there is none
abbrev pub change_last : (Picture → Picture) → List Picture → List Picture
change_last f pictures = set_last (option_map f (last_picture pictures)) pictures

-- A slice begins, with a unit of so many bytes.
abbrev pub with_slice : ℕ → Picture → Picture
with_slice bytes p = record p { slices = grown p.slices 1; bytes = grown p.bytes bytes }

-- The slice of macroblock 0 begins a picture.
abbrev pub pictures_begun : (first : ℕ) → UnitTold → List Picture → List Picture
pictures_begun first unit pictures = if first == 0 then pictures ++ picture_begun unit ∷ [] else pictures

abbrev pub with_frame_num : (first value : ℕ) → List Picture → List Picture
with_frame_num first value pictures = if first == 0 then change_last (λ p. record p { frame_num = value }) pictures else pictures

-- the pictures after an element, in the unit and the slice that are read; memory_management_control_operation 5 unmarks all frames (7.4.3.3)
unfoldable pub pictures_after : ElementName → ℤ → Option UnitTold → Option Slice → List Picture → List Picture
pictures_after names.FirstMbInSlice v (Some unit) slice pictures = change_last (with_slice unit.length) (pictures_begun (natural v) unit pictures)
pictures_after names.SliceType v unit slice pictures =
    if (natural v == 0) || (natural v == 5) then change_last (λ p. record p { kind = kinds.P }) pictures else pictures
pictures_after names.FrameNum v unit (Some slice) pictures = with_frame_num slice.first_mb_in_slice (natural v) pictures
pictures_after names.MemoryManagementControlOperation v unit slice pictures =
    if natural v == 5 then change_last (λ p. record p { resets = true }) pictures else pictures
pictures_after name v unit slice pictures = pictures

-- PrevRefFrameNum after this picture (7.4.3)
abbrev pub reference_after : Option Picture → Option ℕ → Option ℕ
reference_after None previous = previous
reference_after (Some p) previous = if p.is_reference then Some (if p.resets then 0 else p.frame_num) else previous

-- PrevRefFrameNum after an element, where these were the pictures before it
unfoldable pub previous_after : ElementName → ℤ → Option UnitTold → List Picture → Option ℕ → Option ℕ
previous_after names.FirstMbInSlice v (Some unit) pictures previous = if natural v == 0 then reference_after (last_picture pictures) previous else previous
previous_after name v unit pictures previous = previous

-- How many places of the picture buffer were taken at each picture (C.4.2), after a note of so many: the first after a picture has begun is its own.
abbrev pub places_after : (places : ℕ) → List Picture → List ℕ → List ℕ
places_after places pictures taken = if nat_lt (length taken) (length pictures) then taken ++ places ∷ [] else taken

-- An element begins a picture: first_mb_in_slice of 0.
unfoldable pub begins_picture : ElementName → ℤ → Bool
begins_picture names.FirstMbInSlice v = natural v == 0
begins_picture name v = false
