-- The lines of `info`, and its object. To be read beside docs/OUTPUT.md.
use Rattle.std.specs.Prelude.{ℕ, ◌/◌, ◌==◌, ◌&&◌, max, Bool, Option, None, Some, List, [], ◌∷◌, ◌++◌, codes, flat_map, length, if◌then◌else◌}
use Rattle.h264_pages.specs.Pages.{numbered, number_after, thousandths, quoted, named, number_field, maybe_field, text_field}
use Rattle.h264_pages.specs.Profiles.{profile_name, level_name}
use Rattle.h264_pages.specs.Rates.{product, rate_in, shown_side}
use Rattle.h264_pages.specs.Reasons.{cause_text, level_after, profile_declared, size_after, size_fields}
use Rattle.h264_pages.specs.Summed.{summed}
use Rattle.h264_pages.specs.declared.pages.finding.Finding.{Finding}
use Rattle.h264_pages.specs.declared.pages.glance.Declared.{Declared}
use Rattle.h264_pages.specs.declared.pages.info.PictureCounts.{PictureCounts}
use Rattle.h264_pages.specs.declared.survey.counts.MacroblockCounts.{MacroblockCounts}
use Rattle.h264_pages.specs.declared.survey.picture.Picture.{Picture}
use Rattle.h264_pages.specs.declared.survey.sequence.Cropping.{Cropping}
use Rattle.h264_pages.specs.declared.survey.sequence.Sequence.{Sequence}
use Rattle.h264_pages.specs.declared.survey.sequence.Timing.{Timing}

-- ---- a sequence parameter set

-- a profile by its number, with its name
abbrev pub profile_part : ℕ → (name : List ℕ) → List ℕ
profile_part profile_idc name = numbered (codes " profile ") profile_idc ++ (codes " (" ++ (name ++ codes ")"))

abbrev pub set_line : Sequence → List ℕ
set_line s = numbered (codes "info set ") s.seq_parameter_set_id ++ (profile_part s.profile_idc (profile_name s.profile_idc s.constraint_set1)
    ++ (codes " level " ++ (level_name s.profile_idc s.level_idc s.constraint_set3 ++ codes "\n")))

-- two numbers after a text, as of a width and a height
abbrev pub sides : List ℕ → ℕ → ℕ → List ℕ
sides before width height = numbered before width ++ numbered (codes "x") height

abbrev pub shown_sides : List ℕ → Sequence → List ℕ
shown_sides before s = sides before (shown_side s.width s.cropping.left s.cropping.right) (shown_side s.height s.cropping.top s.cropping.bottom)

abbrev pub coded_sides : List ℕ → Sequence → List ℕ
coded_sides before s = sides before (product s.width 16) (product s.height 16)

abbrev pub size_line : Sequence → List ℕ
size_line s = shown_sides (codes "info size ") s ++ (coded_sides (codes " coded ") s ++ (sides (codes " macroblocks ") s.width s.height ++ codes "\n"))

-- nothing is cut off
abbrev pub is_uncropped : Cropping → Bool
is_uncropped c = (c.left == 0) && (c.right == 0) && (c.top == 0) && (c.bottom == 0)

-- what is cut off, in samples
abbrev pub offsets_line : Cropping → List ℕ
offsets_line c = numbered (codes "info cropping left ") (product c.left 2) ++ (numbered (codes " right ") (product c.right 2)
    ++ (numbered (codes " top ") (product c.top 2) ++ (numbered (codes " bottom ") (product c.bottom 2) ++ codes "\n")))

-- that, where something is
abbrev pub cropping_line : Cropping → List ℕ
cropping_line c = if is_uncropped c then [] else offsets_line c

-- the frame rate, where it is given
abbrev pub rate_line : Option ℕ → List ℕ
rate_line None = []
rate_line (Some rate) = codes "info rate " ++ (thousandths rate ++ codes "\n")

abbrev pub buffer_line : Sequence → List ℕ
buffer_line s = numbered (codes "info reference frames ") s.max_num_ref_frames ++ (number_after (codes " buffer ") s.max_dec_frame_buffering
    ++ (number_after (codes " reorder ") s.max_num_reorder_frames ++ codes "\n"))

abbrev pub set_lines : Sequence → List ℕ
set_lines s = set_line s ++ (size_line s ++ (cropping_line s.cropping ++ (rate_line (rate_in s.timing) ++ buffer_line s)))

-- the set that was read last
abbrev pub declared_line : Declared → List ℕ
declared_line d = codes "info last set" ++ (profile_part d.profile_idc (profile_declared d) ++ (level_after (codes " level ") d d.level_idc
    ++ (size_after (codes " size ") d.size ++ codes "\n")))

-- that, where it is known
abbrev pub last_set_line : Option Declared → List ℕ
last_set_line None = []
last_set_line (Some d) = declared_line d

-- ---- pictures and macroblocks

abbrev pub kinds_line : (pictures : ℕ) → PictureCounts → List ℕ
kinds_line pictures c = numbered (codes "info pictures ") pictures ++ (numbered (codes " idr ") c.idr ++ (numbered (codes " i ") c.intra
    ++ (numbered (codes " p ") c.predicted ++ codes "\n")))

abbrev pub bytes_line : (pictures : ℕ) → PictureCounts → List ℕ
bytes_line pictures c = numbered (codes "info bytes ") c.bytes ++ (numbered (codes " a picture ") (c.bytes / max pictures 1)
    ++ (numbered (codes " largest ") c.largest ++ codes "\n"))

abbrev pub intra_text : MacroblockCounts → List ℕ
intra_text m = numbered (codes "info macroblocks i4x4 ") m.intra_4x4 ++ (numbered (codes " i16x16 ") m.intra_16x16 ++ numbered (codes " pcm ") m.pcm)

abbrev pub inter_text : MacroblockCounts → List ℕ
inter_text m = numbered (codes " p16x16 ") m.inter_16x16 ++ (numbered (codes " p16x8 ") m.inter_16x8 ++ (numbered (codes " p8x16 ") m.inter_8x16
    ++ numbered (codes " p8x8 ") m.inter_8x8))

abbrev pub macroblocks_line : MacroblockCounts → List ℕ
macroblocks_line m = intra_text m ++ (inter_text m ++ (numbered (codes " skip ") m.skipped ++ codes "\n"))

-- where nothing is known of why, the text is of another command
abbrev pub why_none : Option Finding → List ℕ
why_none None = []
why_none (Some f) = codes ": " ++ cause_text f.reason (codes "check --explain says why")

abbrev pub no_pictures_line : Option Finding → List ℕ
no_pictures_line finding = codes "info no pictures" ++ (why_none finding ++ codes "\n")

-- of so many pictures
abbrev pub count_lines : (pictures : ℕ) → PictureCounts → MacroblockCounts → List ℕ
count_lines pictures c m = kinds_line pictures c ++ (bytes_line pictures c ++ macroblocks_line m)

-- one line where there is no picture
abbrev pub picture_lines : List Picture → MacroblockCounts → Option Finding → List ℕ
picture_lines [] m finding = no_pictures_line finding
picture_lines (picture ∷ pictures) m finding = count_lines (length (picture ∷ pictures)) (summed (picture ∷ pictures)) m

-- ---- all of them

-- with this set read last
abbrev pub info_lines : List Sequence → Option Declared → List Picture → MacroblockCounts → Option Finding → List ℕ
info_lines sets last pictures m finding = flat_map set_lines sets ++ (last_set_line last ++ picture_lines pictures m finding)

-- ---- the object

abbrev pub profile_fields : Sequence → List ℕ
profile_fields s = number_field (codes "profile_idc") s.profile_idc ++ (text_field (codes "profile") (profile_name s.profile_idc s.constraint_set1)
    ++ number_field (codes "level_idc") s.level_idc)

-- the size that is shown
abbrev pub shown_fields : Sequence → List ℕ
shown_fields s = number_field (codes "width") (shown_side s.width s.cropping.left s.cropping.right)
    ++ number_field (codes "height") (shown_side s.height s.cropping.top s.cropping.bottom)

abbrev pub side_fields : Sequence → List ℕ
side_fields s = shown_fields s ++ (number_field (codes "width_in_macroblocks") s.width ++ number_field (codes "height_in_macroblocks") s.height)

abbrev pub buffer_fields : Sequence → List ℕ
buffer_fields s = number_field (codes "max_num_ref_frames") s.max_num_ref_frames
    ++ (maybe_field (codes "max_dec_frame_buffering") s.max_dec_frame_buffering ++ maybe_field (codes "max_num_reorder_frames") s.max_num_reorder_frames)

abbrev pub timing_fields : Option Timing → List ℕ
timing_fields None = []
timing_fields (Some t) = number_field (codes "num_units_in_tick") t.num_units_in_tick ++ number_field (codes "time_scale") t.time_scale

-- the frame rate, where it is given
abbrev pub rate_field : Option ℕ → List ℕ
rate_field None = []
rate_field (Some rate) = named (codes "frame_rate") ++ thousandths rate

-- the timing and the frame rate, where they are given
abbrev pub time_fields : Option Timing → List ℕ
time_fields timing = timing_fields timing ++ rate_field (rate_in timing)

-- the object of a sequence parameter set
abbrev pub set_object : Sequence → List ℕ
set_object s = numbered (codes "{\"seq_parameter_set_id\":") s.seq_parameter_set_id ++ (profile_fields s ++ (side_fields s ++ (buffer_fields s
    ++ (time_fields s.timing ++ codes "}"))))

abbrev pub declared_field : Declared → List ℕ
declared_field d = named (codes "last_set") ++ (numbered (codes "{\"profile_idc\":") d.profile_idc
    ++ (text_field (codes "profile") (profile_declared d) ++ (maybe_field (codes "level_idc") d.level_idc ++ (size_fields d.size ++ codes "}"))))

-- the set that was read last, where it is known
abbrev pub last_set_field : Option Declared → List ℕ
last_set_field None = []
last_set_field (Some d) = declared_field d

abbrev pub kind_fields : (pictures : ℕ) → PictureCounts → List ℕ
kind_fields pictures c = number_field (codes "pictures") pictures ++ (number_field (codes "idr") c.idr ++ (number_field (codes "i") c.intra
    ++ number_field (codes "p") c.predicted))

abbrev pub intra_fields : MacroblockCounts → List ℕ
intra_fields m = numbered (codes "{\"i4x4\":") m.intra_4x4 ++ (number_field (codes "i16x16") m.intra_16x16 ++ number_field (codes "pcm") m.pcm)

abbrev pub inter_fields : MacroblockCounts → List ℕ
inter_fields m = number_field (codes "p16x16") m.inter_16x16 ++ (number_field (codes "p16x8") m.inter_16x8 ++ (number_field (codes "p8x16") m.inter_8x16
    ++ number_field (codes "p8x8") m.inter_8x8))

abbrev pub macroblocks_field : MacroblockCounts → List ℕ
macroblocks_field m = named (codes "macroblocks") ++ (intra_fields m ++ (inter_fields m ++ (number_field (codes "skip") m.skipped ++ codes "}")))

-- of so many pictures
abbrev pub sum_fields : (pictures : ℕ) → PictureCounts → MacroblockCounts → List ℕ
sum_fields pictures c m = kind_fields pictures c ++ (number_field (codes "bytes") c.bytes ++ (number_field (codes "largest") c.largest
    ++ macroblocks_field m))

-- only that there is no picture, where there is none
abbrev pub count_fields : List Picture → MacroblockCounts → List ℕ
count_fields [] m = number_field (codes "pictures") 0
count_fields (picture ∷ pictures) m = sum_fields (length (picture ∷ pictures)) (summed (picture ∷ pictures)) m

abbrev pub after_comma : Sequence → List ℕ
after_comma s = codes "," ++ set_object s

-- with commas between them
abbrev pub set_objects : List Sequence → List ℕ
set_objects [] = []
set_objects (s ∷ more) = set_object s ++ flat_map after_comma more

abbrev pub sets_field : List Sequence → List ℕ
sets_field sets = named (codes "sets") ++ (codes "[" ++ (set_objects sets ++ codes "]"))

-- the object of a file, with this set read last
abbrev pub info_object : (file : List ℕ) → List Sequence → Option Declared → List Picture → MacroblockCounts → List ℕ
info_object file sets last pictures m =
    ((codes "{\"file\":" ++ quoted file) ++ text_field (codes "kind") (codes "info")) ++ (sets_field sets ++ (last_set_field last
    ++ (count_fields pictures m ++ codes "}\n")))
