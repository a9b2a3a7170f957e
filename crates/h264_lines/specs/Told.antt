-- What sinks make of the calls of a stream: lines, bytes of frames, and the last elements. A working form.
use Rattle.std.specs.Prelude.{Bool, true, false, ℕ, ◌+◌, ◌≡◌, ◌∷◌, ◌++◌, Option, List, []}
use Rattle.h264_base.specs.Call.{Call, OfUnit, OfSlice, OfElement, OfFrame}
use Rattle.h264_lines.specs.Objects.{Opening, opening_of, unit_in, slice_in, element_in, frame_in}
use Rattle.h264_lines.specs.Sent.{IsProperFront, Sends, IsBlamed, LentWriter, lent}
use Rattle.h264_lines.specs.declared.line_sink.LineSink.{LineSink}
use Rattle.h264_lines.specs.declared.listing.Listing.{Listing}
use Rattle.h264_lines.specs.declared.listing.Listing.TheVariants as listings
use Rattle.h264_lines.specs.declared.trail.Element.{Element}

-- a line and its end
abbrev pub ended : List ℕ → List ℕ
ended text = text ++ 10 ∷ []

-- the line of a call, where this many frames were told before; none where it has none.
abbrev pub line_of : (opening : Opening) → Listing → ℕ → Call → List ℕ
line_of opening listings.Units n (OfUnit byte kind reference length) = ended (unit_in opening byte kind reference length)
line_of opening listings.Slices n (OfSlice byte mb kind frame_num count) = ended (slice_in opening byte mb kind frame_num count)
line_of opening listings.Frames n (OfFrame count width height bytes) = ended (frame_in opening n count width height bytes)
line_of opening listings.Elements n (OfUnit byte kind reference length) = ended (unit_in opening byte kind reference length)
line_of opening listings.Elements n (OfSlice byte mb kind frame_num count) = ended (slice_in opening byte mb kind frame_num count)
line_of opening listings.Elements n (OfElement name bit value) = ended (element_in opening name bit value)
line_of opening listing n call = []

-- how many frames with lines are told by a call
abbrev pub counted : Listing → Call → ℕ
counted listings.Frames (OfFrame count width height bytes) = 1
counted listing call = 0

abbrev pub counted_of : Listing → List Call → ℕ
counted_of listing [] = 0
counted_of listing (call ∷ calls) = counted listing call + counted_of listing calls

-- the lines of these calls, where this many frames were told before
unfoldable pub lines_of : (opening : Opening) → Listing → ℕ → List Call → List ℕ
lines_of opening listing n [] = []
lines_of opening listing n (call ∷ calls) = line_of opening listing n call ++ lines_of opening listing (counted listing call + n) calls

-- the bytes of the frames of these calls, one after another
abbrev pub bytes_in : Call → List ℕ
bytes_in (OfFrame count width height bytes) = bytes
bytes_in call = []

unfoldable pub bytes_of : List Call → List ℕ
bytes_of [] = []
bytes_of (call ∷ calls) = bytes_in call ++ bytes_of calls

-- the elements of these calls
abbrev pub elements_in : Call → List Element
elements_in (OfElement name bit value) = record { name = name; bit = bit; value = value } ∷ []
elements_in call = []

unfoldable pub elements_of : List Call → List Element
elements_of [] = []
elements_of (call ∷ calls) = elements_in call ++ elements_of calls

-- ---- what a writer took of calls

-- The last of these calls broke off: the bytes are what the calls before it make and a part of its own, and less than all that they make.
pub record BreaksOff (make : List Call → List ℕ) (calls : List Call) (bytes : List ℕ) : Type 0 where
  pub before : List Call
  pub last : Call
  pub calls_are : calls ≡ before ++ last ∷ []
  pub part : List ℕ
  pub bytes_are : bytes ≡ make before ++ part
  pub less : IsProperFront bytes (make calls)

-- the writer took such bytes since the start
pub record HoldsBrokenOff (make : List Call → List ℕ) (start known : Option (List ℕ)) (calls : List Call) : Type 0 where
  pub bytes : List ℕ
  pub breaks_off : BreaksOff make calls bytes
  pub sends : Sends start known bytes

-- Since the start the writer took what these calls make; or the last of them broke off.
abbrev pub HoldsCalls : (broke_off : Bool) → (List Call → List ℕ) → (start known : Option (List ℕ)) → List Call → Type 0
HoldsCalls false make start known calls = Sends start known (make calls)
HoldsCalls true make start known calls = HoldsBrokenOff make start known calls

-- A sink of lines: its writer, what each line begins with, the calls that have lines, how many frames with lines were told, and whether the newest line
-- broke off.
pub record LineSinkState : Type 0 where
  pub writer : LentWriter
  pub opening : Opening
  pub listing : Listing
  pub frames : ℕ
  pub broke_off : Bool

abbrev pub line_state : {W K : Type 0} → (W → Option (List ℕ)) → (W → Bool) → LineSink W K → LineSinkState
line_state contents has_failed sink = record {
  writer = lent sink.pen.out.ghost_name (contents sink.pen.out.now) (has_failed sink.pen.out.now);
  opening = opening_of sink.form;
  listing = sink.listing;
  frames = sink.frames;
  broke_off = sink.broke_off;
}

-- After so many frames with lines the sink's writer took the lines of these calls since the start.
pub record HoldsLines (start : LentWriter) (sink : LineSinkState) (calls : List Call) : Type 0 where
  pub counts : sink.frames ≡ counted_of sink.listing calls
  pub holds : HoldsCalls sink.broke_off (lines_of sink.opening sink.listing 0) start.bytes sink.writer.bytes calls
  pub blamed : IsBlamed sink.broke_off start.has_failed sink.writer.has_failed

-- The writer took them through this reference, in this form and for this listing.
pub record TookLines (start : LentWriter) (opening : Opening) (listing : Listing) (sink : LineSinkState) (calls : List Call) : Type 0 where
  pub same_reference : sink.writer.reference ≡ start.reference
  pub same_opening : sink.opening ≡ opening
  pub same_listing : sink.listing ≡ listing
  pub lines : HoldsLines start sink calls

-- Through this reference the writer took the bytes of the frames of these calls since the start; or the last of them broke off.
pub record TookFrames (start : LentWriter) (broke_off : Bool) (writer : LentWriter) (calls : List Call) : Type 0 where
  pub same_reference : writer.reference ≡ start.reference
  pub holds : HoldsCalls broke_off bytes_of start.bytes writer.bytes calls
  pub blamed : IsBlamed broke_off start.has_failed writer.has_failed
