-- What an input's first bytes say that it is, and why it is no stream for this program. To be read beside docs/OUTPUT.md.
use Rattle.std.specs.Prelude.{ℕ, ℤ, ◌≡◌, ◌+◌, ◌/◌, ◌==◌, ◌||◌, ◌&&◌, Bool, true, false, Option, None, Some, option_map, unwrap_or, slice_get, nat_eq}
use Rattle.std.specs.Prelude.{List, [], ◌∷◌, drop, codes, if◌then◌else◌}
use Rattle.std.specs.List.{starts_with}
use Rattle.h264_base.specs.declared.element_name.ElementName.{ElementName}
use Rattle.h264_base.specs.declared.element_name.ElementName.TheVariants.{EntropyCodingModeFlag}
use Rattle.h264_base.specs.declared.rule.Rule.{Rule}
use Rattle.h264_base.specs.declared.rule.Rule.TheVariants.{Profile, Tool}
use Rattle.h264_bits.specs.Forms.{natural}
use Rattle.h264_lines.specs.declared.trail.Element.{Element}
use Rattle.h264_pages.specs.declared.pages.container.Container.{Container}
use Rattle.h264_pages.specs.declared.pages.container.Container.TheVariants.{Mp4, Mkv, Ts, Avi, Flv}
use Rattle.h264_pages.specs.declared.pages.glance.Declared.{Declared}
use Rattle.h264_pages.specs.declared.pages.reason.Reason.{Reason}
use Rattle.h264_pages.specs.declared.pages.reason.Reason.TheVariants as reasons
use Rattle.h264_pages.specs.declared.survey.notes.Survey.{Survey}
use Rattle.h264_pages.specs.declared.survey.sequence.Sequence.{Sequence}
use Rattle.h264_pages.specs.declared.survey.sets.ParameterSet.{ParameterSet}
use Rattle.h264_pages.specs.declared.survey.sets.ParameterSet.TheVariants as kinds

-- ---- first bytes, with 0 for each that is not known

-- this text stands from a place on
abbrev pub stands_at : (place : ℕ) → (text bytes : List ℕ) → Bool
stands_at place text bytes = starts_with nat_eq (drop place bytes) text

abbrev pub byte_at : (place : ℕ) → (bytes : List ℕ) → ℕ
byte_at place bytes = unwrap_or (slice_get bytes place) 0

-- a box of ISO base media, with its type after its size
abbrev pub begins_mp4 : List ℕ → Bool
begins_mp4 bytes = stands_at 4 (codes "ftyp") bytes || stands_at 4 (codes "moov") bytes

-- the header of EBML
abbrev pub begins_mkv : List ℕ → Bool
begins_mkv bytes = stands_at 0 (26 ∷ 69 ∷ 223 ∷ 163 ∷ []) bytes

abbrev pub begins_avi : List ℕ → Bool
begins_avi bytes = stands_at 0 (codes "RIFF") bytes && stands_at 8 (codes "AVI ") bytes

-- two packets of 188 bytes, each with its sync byte (H.222.0, 2.4.3)
abbrev pub begins_ts : List ℕ → Bool
begins_ts bytes = (byte_at 0 bytes == 71) && (byte_at 188 bytes == 71)

-- the container that they begin
unfoldable pub container_of : List ℕ → Option Container
container_of bytes =
    if begins_mp4 bytes then Some Mp4
    else if begins_mkv bytes then Some Mkv
    else if begins_avi bytes then Some Avi
    else if stands_at 0 (codes "FLV") bytes then Some Flv
    else if begins_ts bytes then Some Ts
    else None

-- the place after the first start code, where one begins the input
abbrev pub first_unit : List ℕ → Option ℕ
first_unit bytes =
    if stands_at 0 (0 ∷ 0 ∷ 0 ∷ 1 ∷ []) bytes then Some 4
    else if stands_at 0 (0 ∷ 0 ∷ 1 ∷ []) bytes then Some 3
    else None

-- nal_unit_type of parameter sets and delimiters of HEVC (H.265, table 7-1)
abbrev pub is_hevc_type : ℕ → Bool
is_hevc_type kind = (kind == 32) || (kind == 33) || (kind == 34) || (kind == 35)

-- a unit of HEVC stands there, of the lowest layer (H.265, 7.3.1.2)
abbrev pub is_hevc_at : (place : Option ℕ) → (bytes : List ℕ) → Bool
is_hevc_at None bytes = false
is_hevc_at (Some place) bytes = is_hevc_type (byte_at place bytes / 2) && (byte_at (place + 1) bytes == 1)

unfoldable pub begins_hevc : List ℕ → Bool
begins_hevc bytes = is_hevc_at (first_unit bytes) bytes

-- ---- what is said of the set that is read, where no unit came after it

-- the sequence parameter set that is read
abbrev pub sequence_in : Option ParameterSet → Option Sequence
sequence_in None = None
sequence_in (Some (kinds.Sequence s)) = Some s
sequence_in (Some (kinds.Picture s)) = None

abbrev pub profile_of_set : Option Sequence → Option ℕ
profile_of_set set = option_map (λ (s : Sequence). s.profile_idc) set

abbrev pub profile_said : Option Declared → Option ℕ
profile_said declared = option_map (λ (d : Declared). d.profile_idc) declared

-- what is said is of the set that is read: it has its profile_idc
abbrev pub IsOfSetRead : Option Declared → Survey → Type 0
IsOfSetRead declared survey = profile_said declared ≡ profile_of_set (sequence_in survey.sets.read)

-- a profile_idc, where it was read
abbrev pub where_read : Option ℕ → Option ℕ
where_read None = None
where_read (Some profile_idc) = if profile_idc == 0 then None else Some profile_idc

-- the same, where its profile_idc was read
abbrev pub IsOfProfileRead : Option Declared → Survey → Type 0
IsOfProfileRead declared survey = profile_said declared ≡ where_read (profile_of_set (sequence_in survey.sets.read))

-- ---- why it is no stream for this program

-- this element, read last, asks for CABAC
unfoldable pub asks_for_cabac : ElementName → ℤ → Bool
asks_for_cabac EntropyCodingModeFlag v = natural v == 1
asks_for_cabac name v = false

abbrev pub is_cabac_asked : (last : Option Element) → Bool
is_cabac_asked None = false
is_cabac_asked (Some e) = asks_for_cabac e.name e.value

-- of a byte stream of H.264 that broke this rule, by what its last set says and the element that was read last
unfoldable pub reason_in_stream : Rule → Option Declared → (last : Option Element) → Option Reason
reason_in_stream Profile declared last = option_map reasons.OtherProfile declared
reason_in_stream Tool declared last = if is_cabac_asked last then Some reasons.Cabac else None
reason_in_stream rule declared last = None

-- of an input that begins as this container, or as HEVC
abbrev pub reason_given : Option Rule → Option Container → (is_hevc : Bool) → Option Declared → (last : Option Element) → Option Reason
reason_given None container is_hevc declared last = None
reason_given (Some rule) (Some container) is_hevc declared last = Some (reasons.Container container)
reason_given (Some rule) None true declared last = Some reasons.Hevc
reason_given (Some rule) None false declared last = reason_in_stream rule declared last

-- of an input with these first bytes
abbrev pub reason_of : (bytes : List ℕ) → Option Rule → Option Declared → (last : Option Element) → Option Reason
reason_of bytes rule declared last = reason_given rule (container_of bytes) (begins_hevc bytes) declared last
