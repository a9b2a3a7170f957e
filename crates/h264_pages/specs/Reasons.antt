-- Why an input is no stream for this program, and what to do about it. To be read beside docs/OUTPUT.md.
use Rattle.std.specs.Prelude.{ℕ, ◌==◌, ◌||◌, ◌&&◌, not, Bool, true, false, Option, None, Some, nat_eq, List, [], ◌++◌, length, codes, flat_map, if◌then◌else◌}
use Rattle.std.specs.List.{list_all, list_any}
use Rattle.std.specs.Cmp.Lexicographic.{pointwise}
use Rattle.std.specs.Char.{encode_utf8, is_control, is_ascii_alphanumeric}
use Rattle.std.specs.Fmt.{decimal}
use Rattle.std.specs.Str.{chars}
use Rattle.h264_pages.specs.Pages.{number_field, maybe_field, bool_field, text_field}
use Rattle.h264_pages.specs.Profiles.{profile_name, level_name}
use Rattle.h264_pages.specs.declared.pages.container.Container.{Container}
use Rattle.h264_pages.specs.declared.pages.container.Container.TheVariants.{Mp4, Mkv, Ts, Avi, Flv}
use Rattle.h264_pages.specs.declared.pages.glance.Declared.{Declared}
use Rattle.h264_pages.specs.declared.pages.glance.Size.{Size}
use Rattle.h264_pages.specs.declared.pages.reason.Reason.{Reason}
use Rattle.h264_pages.specs.declared.pages.reason.Reason.TheVariants as reasons

-- ---- containers

-- a container's name, which is that of a file's ending
abbrev pub container_name : Container → List ℕ
container_name Mp4 = codes "mp4"
container_name Mkv = codes "mkv"
container_name Ts = codes "ts"
container_name Avi = codes "avi"
container_name Flv = codes "flv"

-- what it is, in a sentence
abbrev pub container_title : Container → List ℕ
container_title Mp4 = codes "an MP4 or MOV file"
container_title Mkv = codes "a Matroska or WebM file"
container_title Ts = codes "an MPEG-2 transport stream"
container_title Avi = codes "an AVI file"
container_title Flv = codes "an FLV file"

-- ---- what a stream says of itself

abbrev pub size_text : Size → List ℕ
size_text size = decimal size.width ++ (codes "x" ++ decimal size.height)

abbrev pub size_after : List ℕ → Option Size → List ℕ
size_after before None = []
size_after before (Some size) = before ++ size_text size

-- the fields of a size, where it is known
abbrev pub size_fields : Option Size → List ℕ
size_fields None = []
size_fields (Some size) = number_field (codes "width") size.width ++ number_field (codes "height") size.height

abbrev pub profile_declared : Declared → List ℕ
profile_declared d = profile_name d.profile_idc d.constraint_set1

-- its level after a text, where it is known
abbrev pub level_after : List ℕ → Declared → Option ℕ → List ℕ
level_after before d None = []
level_after before d (Some level_idc) = before ++ level_name d.profile_idc level_idc d.constraint_set3

-- its entropy coding, where it is known
abbrev pub coding_text : Option Bool → List ℕ
coding_text None = []
coding_text (Some true) = codes ", CABAC"
coding_text (Some false) = codes ", CAVLC"

abbrev pub cabac_field : Option Bool → List ℕ
cabac_field None = []
cabac_field (Some is_cabac) = bool_field (codes "cabac") is_cabac

-- the fields of it
abbrev pub declared_fields : Declared → List ℕ
declared_fields d = text_field (codes "profile") (profile_declared d) ++ (number_field (codes "profile_idc") d.profile_idc
    ++ (maybe_field (codes "level_idc") d.level_idc ++ (size_fields d.size ++ cabac_field d.cabac)))

-- it is known, and has this value
abbrev pub is_known : Option Bool → Bool → Bool
is_known None value = false
is_known (Some true) value = value
is_known (Some false) value = not value

-- the Main profile (A.2.2), and Main with CAVLC and without fields
abbrev pub is_main : Declared → Bool
is_main d = d.profile_idc == 77

abbrev pub may_suit_main : Declared → Bool
may_suit_main d = is_main d && is_known d.frame_mbs_only true && is_known d.cabac false

-- why it is not judged, in a sentence
unfoldable pub refusal : Declared → List ℕ
refusal d =
    if not (is_main d) then codes " h264v does not judge this profile."
    else if may_suit_main d then codes " The target baseline does not judge this profile. --target main-ip judges it, unless it has B slices."
    else if is_known d.cabac true then codes " h264v does not judge CABAC."
    else if is_known d.frame_mbs_only false then codes " h264v does not judge fields."
    else codes " The target baseline does not judge this profile."

-- the profile has no name here
abbrev pub is_unnamed : Declared → Bool
is_unnamed d = pointwise nat_eq (profile_declared d) (codes "unknown")

abbrev pub profile_text : Declared → List ℕ
profile_text d = if is_unnamed d then codes "profile_idc " ++ decimal d.profile_idc else profile_declared d ++ codes " profile"

-- its profile, and level, size and entropy coding where they are known
abbrev pub declared_text : Declared → List ℕ
declared_text d = profile_text d ++ (level_after (codes ", level ") d d.level_idc ++ (size_after (codes ", ") d.size ++ coding_text d.cabac))

-- ---- reasons

-- the name of a reason
abbrev pub reason_name : Reason → List ℕ
reason_name (reasons.Container container) = codes "container"
reason_name reasons.Hevc = codes "hevc"
reason_name (reasons.OtherProfile declared) = codes "other-profile"
reason_name reasons.Cabac = codes "cabac"

-- what an input is and that it is not judged, in two sentences
abbrev pub sentence : Reason → List ℕ
sentence (reasons.Container container) =
    codes "The input is " ++ (container_title container ++
    codes ", which holds streams among other data. h264v judges an H.264 stream once it has been extracted.")
sentence reasons.Hevc = codes "The input is an H.265 (HEVC) stream. h264v judges H.264 only."
sentence (reasons.OtherProfile declared) = codes "The input is an H.264 stream: " ++ (declared_text declared ++ (codes "." ++ refusal declared))
sentence reasons.Cabac = codes "The input is an H.264 stream that is coded with CABAC. h264v does not judge CABAC."

-- the fields of what the input is, by its reason
abbrev pub input_fields : Reason → List ℕ
input_fields (reasons.Container container) = text_field (codes "container") (container_name container)
input_fields reasons.Hevc = []
input_fields (reasons.OtherProfile declared) = declared_fields declared
input_fields reasons.Cabac = []

-- the fields of a reason, before that of what to do about it
abbrev pub reason_fields : Reason → List ℕ
reason_fields reason = text_field (codes "reason") (reason_name reason) ++ input_fields reason

-- those of a reason, where there is one
abbrev pub given_reason_fields : Option Reason → List ℕ
given_reason_fields None = []
given_reason_fields (Some reason) = reason_fields reason

-- ---- the command that extracts a stream

-- a shell takes this character as it is
abbrev pub is_plain : ℕ → Bool
is_plain c = is_ascii_alphanumeric c || (c == 47) || (c == 46) || (c == 95) || (c == 45)

-- a character between single quotation marks: such a mark ends the text, stands after a backslash, and begins the text anew
abbrev pub quoted_character : ℕ → List ℕ
quoted_character c = if c == 39 then codes "'\\''" else encode_utf8 c

-- between single quotation marks
unfoldable pub shell_quoted : List ℕ → List ℕ
shell_quoted text = codes "'" ++ (flat_map quoted_character (chars text) ++ codes "'")

-- a text as one word of a POSIX shell
abbrev pub shell_word : List ℕ → List ℕ
shell_word text = if not (length text == 0) && list_all is_plain (chars text) then text else shell_quoted text

-- a line has this character of a name as it is
abbrev pub is_shown_as_it_is : ℕ → Bool
is_shown_as_it_is c = not (c == 92) && not (is_control c)

abbrev pub is_colon : ℕ → Bool
is_colon c = c == 58

-- a file's name as a word for ffmpeg, which looks for a protocol before a colon
abbrev pub file_name : List ℕ → List ℕ
file_name name = (if list_any is_colon (chars name) then codes "file:" else []) ++ shell_word name

-- FILE where it is not known, or where a line cannot have it as it is
abbrev pub file_word : Option (List ℕ) → List ℕ
file_word None = codes "FILE"
file_word (Some name) = if list_all is_shown_as_it_is (chars name) then file_name name else codes "FILE"

-- the command that extracts the stream of a file, where the input is a container
abbrev pub remedy : Reason → Option (List ℕ) → List ℕ
remedy (reasons.Container container) file = codes "ffmpeg -i " ++ (file_word file ++ codes " -c copy -bsf:v h264_mp4toannexb -f h264 OUT.264")
remedy reason file = []

abbrev pub has_remedy : Reason → Bool
has_remedy (reasons.Container container) = true
has_remedy reason = false

-- its field, where there is one
abbrev pub remedy_field : Reason → Option (List ℕ) → List ℕ
remedy_field reason file = if has_remedy reason then text_field (codes "remedy") (remedy reason file) else []

-- the fields of a reason, where there is one, and of what to do about it with a file of this name
abbrev pub remedied_fields : Option (List ℕ) → Option Reason → List ℕ
remedied_fields file None = []
remedied_fields file (Some reason) = reason_fields reason ++ remedy_field reason file

-- what causes an answer: what the input is, where it is no stream for this program; else what usually does
abbrev pub cause_text : Option Reason → (usual : List ℕ) → List ℕ
cause_text None usual = usual
cause_text (Some reason) usual = sentence reason
