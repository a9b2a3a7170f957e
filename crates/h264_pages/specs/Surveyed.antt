-- What a survey tells of the calls of a stream. To be read beside docs/OUTPUT.md.
use Rattle.std.specs.Prelude.{ℕ, ℤ, ◌≡◌, ◌==◌, Bool, true, false, Option, None, Some, option_map, option_and_then, slice_get, List, [], ◌∷◌, ◌++◌, fold}
use Rattle.std.specs.List.{count_by}
use Rattle.circular_buffer.specs.Buffer.{keep_last}
use Rattle.h264_base.specs.Call.{Call, OfUnit, OfElement, OfFrame}
use Rattle.h264_base.specs.declared.element_name.ElementName.{ElementName}
use Rattle.h264_bits.specs.Counts.{grown}
use Rattle.h264_lines.specs.Chosen.{after_element}
use Rattle.h264_pages.specs.SurveyedPictures.{UnitTold, unit_told, slice_after, macroblocks_after, pictures_after, previous_after}
use Rattle.h264_pages.specs.SurveyedSets.{with_set_element, begun, kept_sequences, kept_picture_sets, find_sequence, find_picture_set}
use Rattle.h264_pages.specs.declared.survey.counts.MacroblockCounts.{MacroblockCounts}
use Rattle.h264_pages.specs.declared.survey.notes.Survey.{Survey}
use Rattle.h264_pages.specs.declared.survey.picture.Picture.{Picture}
use Rattle.h264_lines.specs.declared.reading.Reading.{Reading}
use Rattle.h264_pages.specs.declared.survey.sequence.PictureSet.{PictureSet}
use Rattle.h264_pages.specs.declared.survey.sequence.Sequence.{Sequence}
use Rattle.h264_pages.specs.declared.survey.sets.ParameterSet.{ParameterSet}
use Rattle.h264_pages.specs.declared.survey.sets.ParameterSet.TheVariants as kinds
use Rattle.h264_pages.specs.declared.survey.slice.Slice.{Slice}
use Rattle.h264_lines.specs.declared.reading.Reach.{Reach}
use Rattle.h264_lines.specs.declared.trail.Element.{Element}

-- What is told of a stream.
pub record StreamTold : Type 0 where
  -- how many units and frames, counted in 64 bits
  pub units : ℕ
  pub frames : ℕ
  -- the last 4096 elements
  pub elements : List Element
  -- the unit and the slice that are read, how far, and the address after the last macroblock
  pub unit : Option UnitTold
  pub slice : Option Slice
  pub reading : Reading
  pub coded : ℕ
  -- the parameter set that is read, and those that were taken up
  pub set : Option ParameterSet
  pub sequences : List Sequence
  pub picture_sets : List PictureSet
  -- the pictures in decoding order, and PrevRefFrameNum before the last (7.4.3)
  pub pictures : List Picture
  pub previous_reference : Option ℕ
  -- the macroblocks by type
  pub macroblocks : MacroblockCounts

abbrev pub no_macroblocks : MacroblockCounts
no_macroblocks = record {
  intra_4x4 = 0;
  intra_16x16 = 0;
  pcm = 0;
  inter_16x16 = 0;
  inter_16x8 = 0;
  inter_8x16 = 0;
  inter_8x8 = 0;
  skipped = 0;
}

-- before the first call
abbrev pub nothing_told : StreamTold
nothing_told = record {
  units = 0;
  frames = 0;
  elements = [];
  unit = None;
  slice = None;
  reading = record { pictures = 0; reach = None };
  coded = 0;
  set = None;
  sequences = [];
  picture_sets = [];
  pictures = [];
  previous_reference = None;
  macroblocks = no_macroblocks;
}

-- ---- a call more

abbrev pub unit_of : (byte kind reference length number : ℕ) → UnitTold
unit_of byte kind reference length number =
    record { byte = byte; nal_unit_type = kind; nal_ref_idc = reference; length = length; number = number }

-- A unit begins. The parameter set that was read is taken up.
abbrev pub and_unit : (byte kind reference length : ℕ) → StreamTold → StreamTold
and_unit byte kind reference length t = record t {
  units = grown t.units 1;
  unit = Some (unit_of byte kind reference length t.units);
  slice = None;
  reading = record t.reading { reach = None };
  set = begun kind;
  sequences = kept_sequences t.set t.sequences;
  picture_sets = kept_picture_sets t.set t.picture_sets;
}

abbrev pub and_frame : StreamTold → StreamTold
and_frame t = record t { frames = grown t.frames 1 }

-- the address after the last macroblock that was read, with the reading after it; that of before where none was read in the slice
abbrev pub coded_in : (macroblock : Option ℕ) → (next coded : ℕ) → ℕ
coded_in None next coded = coded
coded_in (Some first) next coded = next

abbrev pub coded_by : Option Reach → (coded : ℕ) → ℕ
coded_by None coded = coded
coded_by (Some reach) coded = coded_in reach.macroblock reach.next coded

abbrev pub coded_after : Reading → (coded : ℕ) → ℕ
coded_after reading coded = coded_by reading.reach coded

-- an element of the unit that is read
abbrev pub and_element : ElementName → (bit : ℕ) → ℤ → StreamTold → StreamTold
and_element name bit v t = record t {
  elements = keep_last 4096 (t.elements ++ record { name = name; bit = bit; value = v } ∷ []);
  slice = slice_after name v t.slice;
  reading = after_element name v t.reading;
  coded = coded_after (after_element name v t.reading) t.coded;
  set = option_map (with_set_element name v) t.set;
  pictures = pictures_after name v t.unit t.slice t.pictures;
  previous_reference = previous_after name v t.unit t.pictures t.previous_reference;
  macroblocks = macroblocks_after name v t.slice t.macroblocks;
}

abbrev pub and_call : StreamTold → Call → StreamTold
and_call t (OfUnit byte kind reference length) = and_unit byte kind reference length t
and_call t (OfElement name bit v) = and_element name bit v t
and_call t (OfFrame count width height samples) = and_frame t
and_call t call = t

-- what these calls tell
abbrev pub told_by : List Call → StreamTold
told_by calls = fold and_call nothing_told calls

-- ---- what a survey has of it

-- A survey has what is told; of parameter sets and pictures, unless memory was wanting for one.
pub record IsTold (survey : Survey) (t : StreamTold) : Type 0 where
  pub units : survey.units ≡ t.units
  pub frames : survey.frames ≡ t.frames
  pub elements : survey.elements.items ≡ t.elements
  pub room : survey.elements.capacity ≡ 4096
  pub unit : option_map unit_told survey.unit ≡ t.unit
  pub slice : survey.slice ≡ t.slice
  pub reading : survey.reading ≡ t.reading
  pub coded : survey.coded ≡ t.coded
  pub set : survey.sets.read ≡ t.set
  pub sequences : survey.sets.is_short ≡ false → survey.sets.sequences.items ≡ t.sequences
  pub picture_sets : survey.sets.is_short ≡ false → survey.sets.picture_sets.items ≡ t.picture_sets
  pub pictures : survey.pictures.is_short ≡ false → survey.pictures.list.items ≡ t.pictures
  pub previous_reference : survey.pictures.is_short ≡ false → survey.pictures.previous_reference ≡ t.previous_reference
  pub macroblocks : survey.macroblocks ≡ t.macroblocks

-- From old to new a survey has what this step adds, whatever it had.
abbrev pub Follows : (StreamTold → StreamTold) → (old new : Survey) → Type 0
Follows step old new = (t : StreamTold) → IsTold old t → IsTold new (step t)

-- this call tells a unit
abbrev pub is_unit : Call → Bool
is_unit (OfUnit byte kind reference length) = true
is_unit call = false

-- this call tells a frame
abbrev pub is_frame : Call → Bool
is_frame (OfFrame count width height bytes) = true
is_frame call = false

-- the survey of these calls: it has what they tell, and counts each unit and each frame, in 64 bits
pub record HasSurveyed (survey : Survey) (calls : List Call) : Type 0 where
  pub told : IsTold survey (told_by calls)
  pub units : survey.units ≡ grown 0 (count_by is_unit calls)
  pub frames : survey.frames ≡ grown 0 (count_by is_frame calls)

-- ---- what is found in it

abbrev pub begins_at : (bit : ℕ) → Element → Bool
begins_at bit e = e.bit == bit

-- the picture parameter set that the slice names
abbrev pub picture_set_named : Option Slice → List PictureSet → Option PictureSet
picture_set_named slice sets = option_and_then (λ (id : ℕ). find_picture_set id sets) (option_and_then (λ (s : Slice). s.pic_parameter_set_id) slice)

abbrev pub sequence_named : Option PictureSet → List Sequence → Option Sequence
sequence_named None sequences = slice_get sequences 0
sequence_named (Some set) sequences = find_sequence set.seq_parameter_set_id sequences

-- the sequence parameter set that is read, or that the slice uses; else the one that came first
abbrev pub sequence_read : Option ParameterSet → Option Slice → List PictureSet → List Sequence → Option Sequence
sequence_read (Some (kinds.Sequence s)) slice picture_sets sequences = Some s
sequence_read set slice picture_sets sequences = sequence_named (picture_set_named slice picture_sets) sequences

-- the macroblock that was begun last in the slice that is read
abbrev pub macroblock_read : Reading → Option ℕ
macroblock_read reading = option_and_then (λ (reach : Reach). reach.macroblock) reading.reach
