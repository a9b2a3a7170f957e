-- Where judging may want memory: for bytes that are left, those of a unit that is read among them, and for a picture of another format than the one
-- before it. To be read beside the standard.
use Rattle.std.specs.Prelude.{◌≡◌, ◌≢◌, ℕ, ◌<◌, length, ◌==◌, ◌&&◌, ◌||◌, Bool, true, false, Option, Some, None, List, [], ◌∷◌, Ok, if◌then◌else◌}
use Rattle.h264_verify.specs.declared.state.Depth.{Depth}
use Rattle.h264_verify.specs.declared.state.Depth.TheVariants as depths
use Rattle.h264_base.specs.Body.{Body}
use Rattle.h264_base.specs.Grammar.{Element, Derives}
use Rattle.h264_units.specs.Stream.{NalUnit, Next, past}
use Rattle.h264_rbsp.specs.Rbsp.{body_of}
use Rattle.h264_sps.specs.declared.sps.Sps.{Sps}
use Rattle.h264_pps.specs.declared.Pps.{Pps}
use Rattle.h264_header.specs.declared.header.Header.{Header}
use Rattle.h264_header.specs.Layout.{sets_of}
use Rattle.h264_header.specs.Header.{header as header_syntax}
use Rattle.h264_units.specs.UnitHeader.{header_of, nal_unit_type}
use Rattle.h264_verify.specs.History.{History, maps_of}
use Rattle.h264_verify.specs.Pictures.{CodedPicture, sets_at, begins_at, runs_of}
use Rattle.h264_picture.specs.Buffer.{buffer_size}
use Rattle.h264_verify.specs.declared.decoder.Format.{Format}
use Rattle.h264_units.specs.UnitHeader.{is_slice}
use Rattle.h264_verify.specs.Units.{slice_unit}
use Rattle.h264_rbsp.specs.Emulation.{IsFault}
use Rattle.h264_verify.specs.declared.state.Extent.{Extent}
use Rattle.h264_verify.specs.Content.{Content}
use Rattle.h264_verify.specs.Order.{course_to_data}
use Rattle.h264_verify.specs.Course.{Runs}
use Rattle.h264_verify.specs.Telling.{Told}

-- in Units slices are passed over
abbrev pub reads_slices : Depth → Bool
reads_slices depths.Units = false
reads_slices depths.Headers = true
reads_slices depths.Full = true

-- a unit of this type is read: a parameter set, or a slice where slices are read
abbrev pub is_kind_read : Depth → ℕ → Bool
is_kind_read depth kind = kind == 7 || kind == 8 || is_slice kind && reads_slices depth

abbrev pub is_read : Depth → NalUnit → Bool
is_read depth unit = is_kind_read depth (nal_unit_type (header_of unit))

-- the RBSP of a unit that is read
abbrev pub bytes_of : Depth → NalUnit → Option Body
bytes_of depth unit = if is_read depth unit then Some (body_of unit) else None

-- These are the first units of the bytes at this place, and what is left of the bytes after them.
abbrev pub BeginWith : (at : ℕ) → (bytes : List ℕ) → List NalUnit → (after : ℕ) → (left : List ℕ) → Type 0
BeginWith at bytes [] after left = (after ≡ at) × (left ≡ bytes)
BeginWith at bytes (unit ∷ units) after left = (rest : List ℕ) × Next at bytes unit rest × BeginWith (past unit) rest units after left

-- bytes are left to be judged, unless no unit was judged before them
abbrev pub IsMore : ℕ → List ℕ → Type 0
IsMore place left = 0 < place → 0 < length left

-- the format of a sequence's pictures
abbrev pub format_of : Sps → Format
format_of sps = record { size = sps.frame_size; frames = buffer_size sps }

-- pictures of this sequence have frames of another size, or another number of them in the buffer, than the newest of these, or are the first
abbrev pub HasAnotherFormat : List CodedPicture → Sps → Type 0
HasAnotherFormat [] sps = Unit {0}
HasAnotherFormat (p ∷ ps) sps = format_of sps ≢ format_of p.first.sps

-- The slice in this unit has a header that derives in its grammar, begins a picture, and its pictures have another format than the one before it.
pub record BeginsAnotherFormat (before : History) (unit : NalUnit) : Type 0 where
  pub header : Header
  pub elements : List Element
  pub end : ℕ
  pub derives : Derives (header_syntax (sets_of (maps_of before)) (slice_unit unit)) (body_of unit) 0 elements end header
  pub sets : Pps × Sps
  pub names : sets_at before header ≡ Some sets
  pub begins : begins_at before header ≡ true
  pub is_another : HasAnotherFormat (runs_of before) sets.1

-- Slice data are read, and such a slice stands in this unit.
pub record ChangesFormat (depth : Depth) (before : History) (unit : NalUnit) : Type 0 where
  pub full : depth ≡ depths.Full
  pub slice : is_slice (nal_unit_type (header_of unit)) ≡ true
  pub begins : BeginsAnotherFormat before unit

-- These calls are all that is told of this unit up to its slice data, and every rule before them is met.
pub record ReachesData (extent : Extent) (before : History) (unit : NalUnit) (calls : List Told) : Type 0 where
  pub sound : (place : ℕ) → IsFault unit.body place → ⊥
  pub found : Content
  pub runs : Runs (course_to_data extent before unit) calls (Ok found)
