-- What is kept of the slices so far. A working form: it ties values of the program to the list of units.
use Rattle.std.specs.Prelude.{◌≡◌, ◌≢◌, ℕ, ◌+◌, ◌-◌, ◌*◌, ◌%◌, ◌<◌, ◌≤◌, ◌^◌, get_or, not, ◌||◌, ◌⊎◌, List, [], ◌∷◌, ◌++◌, map, length, ℤ, Option, Some, None}
use Rattle.std.specs.Prelude.{IfSome, Bool, true, false, if◌then◌else◌}
use Rattle.std.specs.Option.{option_map_or}
use Rattle.h264_near.specs.Coded.{CodedMacroblock}
use Rattle.h264_bits.specs.declared.element.Found.{Found}
use Rattle.h264_marking.specs.Frames.{References, frame_places}
use Rattle.h264_marking.specs.Gaps.{numbers_from}
use Rattle.h264_dpb.specs.Buffered.{Buffered}
use Rattle.h264_poc.specs.declared.picture.Picture.{Picture}
use Rattle.h264_poc.specs.Counts.{Keeps as KeepsCounts}
use Rattle.h264_sps.specs.declared.sps.Sps.{Sps}
use Rattle.h264_header.specs.declared.header.Header.{Header}
use Rattle.h264_header.specs.declared.header.Marking.{Marking}
use Rattle.h264_header.specs.Picture.{begins_picture, picture_elements, is_idr}
use Rattle.h264_sets.specs.Sets.{Maps}
use Rattle.h264_verify.specs.declared.frame_num.Gap.{Gap}
use Rattle.h264_verify.specs.declared.head.SlicePlace.{SlicePlace}
use Rattle.h264_verify.specs.declared.slices.Slice.{Slice}
use Rattle.h264_verify.specs.declared.slices.PicturesSoFar.{PicturesSoFar}
use Rattle.h264_verify.specs.declared.picture.OpenPicture.{OpenPicture}
use Rattle.h264_verify.specs.declared.picture.Types.{Types}
use Rattle.h264_verify.specs.declared.state.Depth.{Depth}
use Rattle.h264_verify.specs.declared.state.Depth.TheVariants as depths
use Rattle.h264_base.specs.declared.rule.Rule.TheVariants.{SliceType}
use Rattle.h264_picture.specs.declared.work.Work.{Work}
use Rattle.h264_picture.specs.Holds.{HoldsMacroblocks, Serves}
use Rattle.h264_picture.specs.Making.{Making, HoldsSamples}
use Rattle.h264_picture.specs.declared.frames.TheConstants.{PLACES}
use Rattle.h264_picture.specs.Places.{lent, first_place, places, is_active_place, purpose_of, MakesFrames, IsReleased, HasBegun, HasSize}
use Rattle.h264_plane.specs.declared.frame.Frame.{Frame}
use Rattle.h264_dpb.specs.Bumping.{is_held}
use Rattle.h264_dpb.specs.Turns.{Shown, Turn, stays, no_buffer, names, missing_turn, last_turn}
use Rattle.h264_dpb.specs.Kept.{KeepsBuffer, HasFrames, IsOrdered, is_occupied, place_of, size_of, IsReady as AreReady}
use Rattle.h264_dpb.specs.declared.output.Output.{Output}
use Rattle.h264_dpb.specs.declared.ended.Ended.{Ended}
use Rattle.h264_picture.specs.Buffer.{buffer_size}
use Rattle.h264_verify.specs.declared.decoder.Decoder.{Decoder}
use Rattle.h264_verify.specs.declared.decoder.Format.{Format}
use Rattle.h264_verify.specs.Buffering.{newest_count, after_all, within_newest, ended_picture}
use Rattle.h264_verify.specs.Decoding.{slices_of, EachSlice, number_of, parameters_of}
use Rattle.h264_verify.specs.Demands.{Demand}
use Rattle.h264_verify.specs.History.{History, maps_of}
use Rattle.h264_verify.specs.Pictures.{CodedSlice, CodedPicture, last_slice, picture_size, bit_after, goes_on, open_of, joined_to, runs_of, counted}
use Rattle.h264_verify.specs.Pictures.{with_sets, prev_ref_frame_num_of, held_after, held_in, ended_pictures}
use Rattle.h264_verify.specs.Memory.{format_of}
use Rattle.h264_marking.specs.Ended.{numbering_of}
use Rattle.h264_verify.specs.Telling.{Family, IsFamilyFor}
use Rattle.h264_verify.specs.Slices.{PicturesBefore, SlicesBefore, is_i, has_i, has_p, states_type, is_idr_due, newest_idr_of}
use Rattle.h264_verify.specs.Lists.{list_in, named_in}
use Rattle.h264_verify.specs.Data.{coded_so_far}
use Rattle.h264_verify.specs.Sound.{AreSound, has_ended, HasActive, NamesSet}

-- a slice of an IDR picture is I (7.4.3)
abbrev pub is_typed : Header → Bool
is_typed h = is_i h.kind.value || not (is_idr h)

-- which types these slices have, and whether one says that all have its type
abbrev pub types_of : List CodedSlice → Types
types_of slices = record { i = has_i slices; p = has_p slices; stated = states_type slices }

-- what is kept of this picture, to which more slices may come
pub record HoldsPicture (p : CodedPicture) (o : OpenPicture) : Type 0 where
  pub last : o.last ≡ picture_elements (last_slice p).header
  pub types : o.types ≡ types_of (p.later ++ p.first ∷ [])
  pub marking : o.marking ≡ p.first.header.marking
  pub numbering : o.numbering ≡ numbering_of p.first.sps p.first.header
  pub following : o.following ≡ bit_after (last_slice p).unit

abbrev pub HoldsOpen : Option CodedPicture → Option OpenPicture → Type 0
HoldsOpen None None = Unit {0}
HoldsOpen None (Some o) = ⊥
HoldsOpen (Some p) None = ⊥
HoldsOpen (Some p) (Some o) = HoldsPicture p o

-- whether a slice begins a picture, by what is kept
abbrev pub begins_by : Option OpenPicture → Header → Bool
begins_by None h = true
begins_by (Some o) h = begins_picture o.last (picture_elements h)

abbrev pub marking_by : Option OpenPicture → Option (Found Marking)
marking_by None = None
marking_by (Some o) = o.marking

abbrev pub types_by : Option OpenPicture → Types
types_by None = types_of []
types_by (Some o) = o.types

-- where one says so, slices of these types and this one have one type
abbrev pub agrees_by : Types → Header → Bool
agrees_by types h = not (h.same_type_in_picture || types.stated) || not (if is_i h.kind.value then types.p else types.i)

-- nothing is left of a picture that has ended
abbrev pub IsLeft : Bool → Option OpenPicture → Option OpenPicture → Type 0
IsLeft true old new = new ≡ None
IsLeft false old new = new ≡ old

-- what is held: while the newest of these pictures may go on, and once it has ended
abbrev pub held_by : Bool → Bool → List CodedPicture → References
held_by ended on pictures = if on then (if ended then held_after pictures else held_in pictures) else held_after pictures

-- what the end of the newest picture tells the buffer of frames
abbrev pub HoldsEnd : List CodedPicture → Option OpenPicture → Type 0
HoldsEnd [] o = Unit {0}
HoldsEnd (p ∷ ps) None = Unit {0}
HoldsEnd (p ∷ ps) (Some o) = o.ended ≡ ended_picture p ps

-- What is kept of these pictures: more slices may come to the newest, or not; it has ended, or not.
pub record KeepsPictures (on ended : Bool) (pictures : List CodedPicture) (slices : PicturesSoFar) : Type 0 where
  pub picture : HoldsOpen (open_of on pictures) slices.picture
  pub end : HoldsEnd pictures slices.picture
  pub newest_idr : slices.newest_idr ≡ newest_idr_of pictures
  pub counts : KeepsCounts (map counted pictures) slices.counts
  pub count : slices.count ≡ newest_count (map counted pictures)
  pub pictures_are : slices.pictures ≡ length pictures
  pub prev_ref : slices.prev_ref_frame_num ≡ prev_ref_frame_num_of pictures
  pub held : slices.held ≡ held_by ended on pictures

-- what is kept of the slices of these units
pub record KeepsSlices (before : History) (ended : Bool) (slices : PicturesSoFar) : Type 0 where
  pub due : slices.due ≡ is_idr_due before
  pub kept : KeepsPictures (goes_on before) ended (runs_of before) slices
  pub sound : AreSound (has_ended (goes_on before) ended) (runs_of before)
  pub active : HasActive (is_idr_due before) (runs_of before) (maps_of before)
  pub named : NamesSet (goes_on before) (runs_of before) (maps_of before)

-- where slice data are read, what is kept of the macroblocks of the picture that may go on
abbrev pub HoldsCoded : Option CodedPicture → Work → Type 0
HoldsCoded None work = Unit {0}
HoldsCoded (Some p) work = HoldsMacroblocks p.first.sps.frame_size.width (picture_size p.first.sps) (last_slice p).macroblocks work

-- what is kept of the macroblocks of the newest picture, after which a slice begins a picture or not
abbrev pub HoldsNewest : Bool → List CodedPicture → Work → Type 0
HoldsNewest true pictures work = Unit {0}
HoldsNewest false [] work = ⊥
HoldsNewest false (p ∷ pictures) work = HoldsCoded (Some p) work

-- ---- frames, where they are made

-- how many of these units' pictures have ended before a unit that may go on with the newest
abbrev pub ended_in : History → ℕ
ended_in before = length (ended_pictures (goes_on before) false (runs_of before))

-- what is written so far, and the buffer
abbrev pub buffer_by : Bool → Bool → List CodedPicture → Turn
buffer_by on ended [] = stays no_buffer
buffer_by true true (p ∷ ps) = after_all (p ∷ ps)
buffer_by true false (p ∷ ps) = within_newest (p ∷ ps)
buffer_by false ended (p ∷ ps) = after_all (p ∷ ps)

-- the work has room for pictures of a format
pub record IsRoomFor (f : Format) (work : Work) : Type 0 where
  pub serves : Serves f.size.width (f.size.width * f.size.height) work
  pub size : HasSize f.size.width f.size.height work
  pub places : places work ≡ f.frames + 1

abbrev pub HasFormat : Option Format → Work → Type 0
HasFormat None work = Unit {0}
HasFormat (Some f) work = IsRoomFor f work

-- what was lent stands at none of the active sequence's places
abbrev pub AreOlder : Work → Work → Type 0
AreOlder old new = (p : ℕ) → lent old p ≢ None → is_active_place (first_place new) p ≡ false

-- the buffer has as many places as the format says
abbrev pub IsSized : Option Format → Output → Type 0
IsSized None output = Unit {0}
IsSized (Some f) output = size_of output ≡ f.frames

-- no IDR picture is decoded: the frames of the sequence before are gone, and the buffer is as large as the sequence's
pub record IsSettled (d : Decoder) : Type 0 where
  pub released : IsReleased d.work
  pub sized : IsSized d.format d.output

-- what is kept of the buffer: it is this one, each frame in it is lent at its place, where frames are made, and the pictures in it are among so many
pub record KeepsOutput (frames : Family) (t : Turn) (next : ℕ) (d : Decoder) : Type 0 where
  pub buffer : KeepsBuffer t.buffer (length t.written) d.output
  pub made : IsFamilyFor (purpose_of d.work) frames
  pub frames_are : IfSome frames (λ f. HasFrames f (lent d.work) d.output)
  pub ordered : IsOrdered next d.output
  pub ready : AreReady (lent d.work) d.output
  pub format : HasFormat d.format d.work

-- the place of a picture's frame, counted from the first one of the sequence
abbrev pub place_by : Decoder → ℕ → ℕ
place_by d n = option_map_or (λ (place : ℕ). place - first_place d.work) (place_of d.output n) 0

-- what the samples of these slices depend on, which have this chroma_qp_index_offset
pub record IsMaking (chroma : ℤ) (slices : List CodedSlice) (d : Decoder) (making : Making) : Type 0 where
  pub parameters : EachSlice (λ s. making.slices (number_of s) ≡ parameters_of s) slices
  pub offsets : (n : ℕ) → (making.slices n).filter.chroma_qp_index_offset ≡ chroma
  pub places : (n : ℕ) → making.place n ≡ place_by d n

-- the frame of a picture among so many is lent at its place
pub record IsReference (frames : ℕ → Frame) (count : ℕ) (d : Decoder) (n : ℕ) : Type 0 where
  pub before : n < count
  pub near : place_by d n < PLACES
  pub lent_is : lent d.work (first_place d.work + place_by d n) ≡ Some (frames n)

-- a picture has this place among those of the sequence
pub record IsNear (d : Decoder) (n place : ℕ) : Type 0 where
  pub found : place_of d.output n ≡ Some place
  pub from : first_place d.work ≤ place
  pub to : place < first_place d.work + places d.work
  pub near : place < first_place d.work + PLACES

-- a place of the sequence is free: the buffer has fewer frames than there are places, or none stands at the first one
abbrev pub HasFreePlace : Decoder → Type 0
HasFreePlace d = ((next : ℕ) × IsOrdered next d.output × (size_of d.output < places d.work)) ⊎ (is_occupied (first_place d.work) d.output ≡ false)

-- it has such a place
pub record HasPlace (d : Decoder) (n : ℕ) : Type 0 where
  pub place : ℕ
  pub near : IsNear d n place

-- the work holds the macroblocks before a slice of this number, and where frames are made each picture that the slice's list names has its place
pub record SlicesSome (number : ℕ) (references : List (Option ℕ)) (d : Decoder) : Type 0 where
  pub width : ℕ
  pub size : ℕ
  pub macroblocks : List CodedMacroblock
  pub holds : HoldsMacroblocks width size macroblocks d.work
  pub next : number ≡ length macroblocks
  pub named : MakesFrames d.work → (k n : ℕ) → k < 16 → get_or references k None ≡ Some n → HasPlace d n

-- those that the list of a slice names are
pub record HasReferences (frames : ℕ → Frame) (pictures : List CodedPicture) (count : ℕ) (d : Decoder) (s : CodedSlice) : Type 0 where
  pub each : (k n : ℕ) → k < 16 → get_or (named_in pictures s) k None ≡ Some n → IsReference frames count d n

-- the numbers of these slices fall, the last one first
abbrev pub AreFalling : ℕ → List CodedSlice → Type 0
AreFalling high [] = Unit {0}
AreFalling high (s ∷ slices) = (number_of s < high) × AreFalling (number_of s) slices

-- what is kept of the samples of these slices of a picture, which are decoded from these frames
pub record HoldsFrames (frames : ℕ → Frame) (p : CodedPicture) (ps : List CodedPicture) (slices : List CodedSlice) (macroblocks : List CodedMacroblock)
    (d : Decoder) : Type 0 where
  pub references : EachSlice (HasReferences frames (p ∷ ps) (length ps) d) slices
  pub samples : (making : Making) → IsMaking p.first.pps.chroma_qp_index_offset slices d making →
      HoldsSamples p.first.sps.frame_size.width (picture_size p.first.sps) making macroblocks d.work

-- what is kept of these slices of a picture, and of their macroblocks
pub record HoldsSlices (frames : Family) (p : CodedPicture) (ps : List CodedPicture) (slices : List CodedSlice) (macroblocks : List CodedMacroblock)
    (d : Decoder) : Type 0 where
  pub holds : HoldsMacroblocks p.first.sps.frame_size.width (picture_size p.first.sps) macroblocks d.work
  pub numbers : AreFalling (length macroblocks) slices
  pub sets : EachSlice (λ s. s.pps ≡ p.first.pps) slices
  pub frames_are : IfSome frames (λ f. HoldsFrames f p ps slices macroblocks d)

-- the picture that is decoded has a place of its own among those of its sequence
pub record IsPlaced (d : Decoder) : Type 0 where
  pub active : is_active_place (first_place d.work) d.place ≡ true
  pub free : is_occupied d.place d.output ≡ false

-- what is kept of a picture that is decoded after these: where, its format, and its slices so far
pub record HoldsBegun (frames : Family) (p : CodedPicture) (ps : List CodedPicture) (slices : List CodedSlice) (macroblocks : List CodedMacroblock)
    (d : Decoder) : Type 0 where
  pub begun : HasBegun d.place d.work
  pub placed : IfSome frames (λ f. IsPlaced d)
  pub format : d.format ≡ Some (format_of p.first.sps)
  pub settled : is_idr p.first.header ≡ false → IsSettled d
  pub so_far : HoldsSlices frames p ps slices macroblocks d

-- the picture that is decoded, if there is one: more slices may come to the newest, which has not ended
abbrev pub HoldsFrame : Family → Bool → Bool → List CodedPicture → Decoder → Type 0
HoldsFrame frames on ended [] d = IsSettled d
HoldsFrame frames true true (p ∷ ps) d = IsSettled d
HoldsFrame frames true false (p ∷ ps) d = HoldsBegun frames p ps (slices_of p) (last_slice p).macroblocks d
HoldsFrame frames false ended (p ∷ ps) d = IsSettled d

-- the frames are those of the newest picture's sequence
abbrev pub HasFormatOf : List CodedPicture → Decoder → Type 0
HasFormatOf [] d = Unit {0}
HasFormatOf (p ∷ ps) d = d.format ≡ Some (format_of p.first.sps)

-- what is kept of the frames of these pictures
pub record KeepsFrames (frames : Family) (on ended : Bool) (pictures : List CodedPicture) (d : Decoder) : Type 0 where
  pub format : HasFormatOf pictures d
  pub output : KeepsOutput frames (buffer_by on ended pictures) (length (ended_pictures on ended pictures)) d
  pub picture : HoldsFrame frames on ended pictures d

-- Slice data are read at one depth. There is a decoder then, of which this is true, and none else.
unfoldable pub WhereMade : Depth → (Decoder → Type 0) → Option Decoder → Type 0
WhereMade depths.Units P None = Unit {0}
WhereMade depths.Units P (Some d) = ⊥
WhereMade depths.Headers P None = Unit {0}
WhereMade depths.Headers P (Some d) = ⊥
WhereMade depths.Full P None = ⊥
WhereMade depths.Full P (Some d) = P d

-- what is kept of them once the rules of a slice are met: after the gap before a picture that it begins, nothing is decoded yet
pub record EntersFrames (frames : Family) (slice : CodedSlice) (pictures : List CodedPicture) (d : Decoder) : Type 0 where
  pub format : is_idr slice.header ≡ false → d.format ≡ Some (format_of slice.sps)
  pub output : KeepsOutput frames (within_newest (joined_to true slice pictures)) (length pictures) d
  pub settled : IsSettled d

-- there is a picture before whose first slice data this is kept
pub record EntersSome (d : Decoder) : Type 0 where
  pub frames : Family
  pub slice : CodedSlice
  pub pictures : List CodedPicture
  pub keeps : EntersFrames frames slice pictures d

abbrev pub EntersBy : Family → Bool → CodedSlice → Bool → List CodedPicture → Decoder → Type 0
EntersBy frames true slice on pictures d = EntersFrames frames slice pictures d
EntersBy frames false slice on [] d = ⊥
EntersBy frames false slice on (p ∷ ps) d = KeepsFrames frames on false (p ∷ ps) d

-- what is kept of them where a picture begins with this slice, of which nothing was read
pub record BegunFrames (frames : Family) (slice : CodedSlice) (pictures : List CodedPicture) (d : Decoder) : Type 0 where
  pub output : KeepsOutput frames (within_newest (joined_to true slice pictures)) (length pictures) d
  pub picture : HoldsBegun frames (record { first = slice; later = [] }) pictures [] [] d

-- what is kept before slice data are read
abbrev pub BeginsFrames : Family → Bool → CodedSlice → List CodedPicture → Decoder → Type 0
BeginsFrames frames true slice pictures d = BegunFrames frames slice pictures d
BeginsFrames frames false slice [] d = ⊥
BeginsFrames frames false slice (p ∷ ps) d = KeepsFrames frames true false (p ∷ ps) d

-- what is kept of a slice whose rules are met, and that begins a picture after these, or belongs to the newest
pub record IsRead (place : SlicePlace) (kept : Slice) (pictures : List CodedPicture) (s : CodedSlice) : Type 0 where
  pub pps : place.pps.now ≡ s.pps
  pub sps : place.sps.now ≡ s.sps
  pub header : kept.header ≡ record s.header { marking = kept.header.marking }
  pub list : kept.list.items ≡ list_in (joined_to place.begins s pictures) s

-- there is such a slice, before whose data this is kept
pub record ReadsSome (place : SlicePlace) (kept : Slice) (d : Decoder) : Type 0 where
  pub frames : Family
  pub on : Bool
  pub pictures : List CodedPicture
  pub slice : CodedSlice
  pub is : IsRead place kept pictures slice
  pub next : number_of slice ≡ length (coded_so_far place.begins pictures)
  pub live : place.begins ≡ false → on ≡ true
  pub sound : AreSound false (joined_to place.begins slice pictures)
  pub typed : is_typed slice.header ≡ true
  pub keeps : EntersBy frames place.begins slice on pictures d

-- what is kept while the missing numbers before a picture are filled, where frames are made
pub record FillsFrames (frames : Family) (t : Turn) (next : ℕ) (d : Decoder) : Type 0 where
  pub output : KeepsOutput frames t next d
  pub settled : IsSettled d

-- all frames that waited after this are written
abbrev pub HasWritten : Turn → Decoder → Type 0
HasWritten t d = KeepsBuffer (last_turn t.buffer).buffer (length t.written + length (last_turn t.buffer).written) d.output

-- where frames are made, the frame of one more missing number, where these frames are held with it, writes nothing and leaves the buffer as it is
unfoldable pub BufferStays : Depth → References → Buffered Shown → Type 0
BufferStays depths.Units held b = Unit {0}
BufferStays depths.Headers held b = Unit {0}
BufferStays depths.Full held b = missing_turn held b ≡ stays b

-- where frames are made, the buffer has so many places
abbrev pub HasPlaces : ℕ → Option Decoder → Type 0
HasPlaces n decoder = IfSome decoder (λ d. n ≤ size_of d.output)

-- where they are made, they are of this format
abbrev pub IsMadeAs : Format → Option Decoder → Type 0
IsMadeAs f decoder = IfSome decoder (λ d. d.format ≡ Some f)

-- the format of frames, where they are made
abbrev pub format_in : Option Decoder → Option Format
format_in None = None
format_in (Some d) = d.format

-- A picture of this sequence parameter set that is no IDR picture goes on with the sequence: as many frames as may be held have places.
pub record GoesWith (sps : Sps) (held : References) (decoder : Option Decoder) : Type 0 where
  pub few : length held.frames ≤ frame_places sps.max_num_ref_frames
  pub places : HasPlaces (frame_places sps.max_num_ref_frames) decoder
  pub format : IsMadeAs (format_of sps) decoder

-- the numbers of a gap, one after another (7.4.3)
abbrev pub numbers_in : Gap → List ℕ
numbers_in gap = numbers_from gap.count ((gap.prev_ref_frame_num + 1) % gap.numbering.max_frame_num) gap.numbering.max_frame_num

-- there are frames of which this is kept
pub record FillsSome (d : Decoder) : Type 0 where
  pub frames : Family
  pub turn : Turn
  pub next : ℕ
  pub few : next < 2 ^ 62
  pub keeps : FillsFrames frames turn next d

-- there are such frames, where frames are made
pub record KeepsSomeGap (decoder : Option Decoder) : Type 0 where
  pub depth : Depth
  pub frames : Family
  pub turn : Turn
  pub next : ℕ
  pub few : next < 2 ^ 62
  pub keeps : WhereMade depth (FillsFrames frames turn next) decoder

-- there is a picture that is decoded, and of which the buffer is told this, where these frames are held: no more than there are places, and a reference picture
-- among them
pub record KeepsSomeEnd (ended : Ended) (held : References) (d : Decoder) : Type 0 where
  pub frames : Family
  pub p : CodedPicture
  pub ps : List CodedPicture
  pub is : ended ≡ ended_picture p ps
  pub few : length held.frames ≤ buffer_size p.first.sps
  pub marked : ended.reference ≡ true → is_held (names held) ended.picture ≡ true
  pub keeps : KeepsFrames frames true false (p ∷ ps) d

-- there are pictures of which this is kept; the newest has been marked, or not
pub record KeepsSomeFrames (ended : Bool) (slices : PicturesSoFar) (decoder : Option Decoder) : Type 0 where
  pub depth : Depth
  pub frames : Family
  pub before : History
  pub slices_are : KeepsSlices before ended slices
  pub keeps : WhereMade depth (KeepsFrames frames (goes_on before) false (runs_of before)) decoder

-- there are pictures of which this is kept, the newest of which has ended here, or not
pub record KeepsSomeRules (ended : Bool) (slices : PicturesSoFar) (decoder : Option Decoder) : Type 0 where
  pub depth : Depth
  pub frames : Family
  pub before : History
  pub slices_are : KeepsSlices before ended slices
  pub keeps : WhereMade depth (KeepsFrames frames (goes_on before) ended (runs_of before)) decoder

-- there are units of which this is kept
pub record KeepsSomeSlice (slices : PicturesSoFar) (sets : Maps) (decoder : Option Decoder) : Type 0 where
  pub depth : Depth
  pub frames : Family
  pub before : History
  pub sets_are : sets ≡ maps_of before
  pub slices_are : KeepsSlices before false slices
  pub keeps : WhereMade depth (KeepsFrames frames (goes_on before) false (runs_of before)) decoder

-- what the rules of a picture's first slice look at, by what is kept of the pictures before it
abbrev pub pictures_by : PicturesSoFar → List Picture → Buffered Shown → PicturesBefore
pictures_by slices pictures b = record {
  newest_idr = slices.newest_idr;
  prev_ref_frame_num = slices.prev_ref_frame_num;
  held = slices.held;
  counted = pictures;
  buffer = b;
}

-- where one says so, the slices of the picture that may go on have one type
abbrev pub same_type_by : Option OpenPicture → Header → Demand
same_type_by o h = record { rule = SliceType; bit = h.kind.bit; met = agrees_by (types_by o) h }

-- what the rules of a later slice look at, by what is kept of its picture
abbrev pub slices_by : PicturesSoFar → SlicesBefore
slices_by slices = record {
  has_i = (types_by slices.picture).i;
  has_p = (types_by slices.picture).p;
  states_type = (types_by slices.picture).stated;
  marking = marking_by slices.picture;
  held = slices.held;
}

-- a slice of these macroblocks, by its header and where it stands
abbrev pub slice_at : SlicePlace → Header → List CodedMacroblock → CodedSlice
slice_at place h macroblocks = with_sets place.unit.now h macroblocks (place.pps.now, place.sps.now)

-- What is kept once the rules of a slice are met, before it is entered: the open picture, the newest idr_pic_id and the number of
-- pictures are those before it; counts and held frames are those of the pictures with it.
pub record Entered (before : History) (begins : Bool) (slice : CodedSlice) (slices : PicturesSoFar) : Type 0 where
  pub picture : HoldsOpen (open_of (goes_on before) (runs_of before)) slices.picture
  pub end : HoldsEnd (runs_of before) slices.picture
  pub newest_idr : slices.newest_idr ≡ newest_idr_of (runs_of before)
  pub pictures_are : slices.pictures ≡ length (runs_of before)
  pub counts : KeepsCounts (map counted (joined_to begins slice (runs_of before))) slices.counts
  pub count : slices.count ≡ newest_count (map counted (joined_to begins slice (runs_of before)))
  pub prev_ref : slices.prev_ref_frame_num ≡ prev_ref_frame_num_of (joined_to begins slice (runs_of before))
  pub held : slices.held ≡ held_in (joined_to begins slice (runs_of before))
