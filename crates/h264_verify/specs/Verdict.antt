-- To be read beside the standard. The verdict on a stream: a yes with its derivation, a no with the first rule that is broken and its
-- bit, or the first feature that is not judged (7.3, 7.4, 8.2.1, B.1).
use Rattle.std.specs.Prelude.{◌≡◌, ℕ, ◌+◌, ◌*◌, List, [], ◌∷◌, ◌++◌, length, Some, Result, Ok, Err}
use Rattle.h264_verify.specs.declared.state.Extent.{Extent}
use Rattle.h264_verify.specs.declared.state.Terms.{Terms}
use Rattle.h264_base.specs.declared.rule.Rule.{Rule}
use Rattle.h264_base.specs.declared.rule.Rule.TheVariants.{Emulation}
use Rattle.h264_base.specs.declared.stop.Feature.{Feature}
use Rattle.h264_base.specs.declared.stop.Stop.{Stop}
use Rattle.h264_base.specs.declared.stop.Stop.TheVariants.{No, Outside, Memory, Read, Write}
use Rattle.h264_base.specs.Call.{Call, SinkSpan}
use Rattle.h264_verify.specs.Telling.{Told, Tells, Family, IsFamilyFor, with_frames, calls_of, AreDecoded}
use Rattle.h264_units.specs.Stream.{NalUnit, Tail, Zeros, Splits, tail_stop}
use Rattle.h264_rbsp.specs.Emulation.{IsFault, IsFirstFault}
use Rattle.h264_base.specs.declared.summary.Summary.{Summary}
use Rattle.h264_verify.specs.Course.{Runs}
use Rattle.h264_verify.specs.History.{History, ReadUnit}
use Rattle.h264_verify.specs.Pictures.{runs_of}
use Rattle.h264_verify.specs.Memory.{ChangesFormat, ReachesData, BeginWith, IsMore}
use Rattle.h264_verify.specs.Units.{summary_of, extent_by}
use Rattle.h264_verify.specs.Order.{unit_course, end_steps}
use Rattle.h264_verify.specs.Decodable.{AreDecodable}

-- The bytes of a unit break no rule of emulation prevention (7.4.1).
abbrev pub IsSound : NalUnit → Type 0
IsSound unit = (place : ℕ) → IsFault unit.body place → ⊥

-- A unit after these whose course comes to its end: with every rule met, no feature among them, and a derivation of its content.
pub record IsLegal (extent : Extent) (before : History) (r : ReadUnit) (calls : List Told) : Type 0 where
  pub sound : IsSound r.unit
  pub runs : Runs (unit_course extent before r.unit) calls (Ok r.content)

-- A unit after these at which the verdict falls, with what was told of it before.
pub data IsStop (extent : Extent) (before : History) (unit : NalUnit) (stop : Stop) (calls : List Told) : Type 0 where
  -- its bytes break emulation prevention: nothing is told
  AtBytes : (place : ℕ) → IsFirstFault unit.body place → stop ≡ No (8 * (unit.from + place)) Emulation → calls ≡ [] → IsStop extent before unit stop calls
  -- its course stops
  InCourse : IsSound unit → Runs (unit_course extent before unit) calls (Err stop) → IsStop extent before unit stop calls

-- All of these units are legal, and the sink is told of each in turn. The last one stands first.
abbrev pub AreLegal : Extent → History → List Told → Type 0
AreLegal extent [] calls = calls ≡ []
AreLegal extent (r ∷ before) calls =
    (earlier : List Told) × (last : List Told) × AreLegal extent before earlier × IsLegal extent before r last × (calls ≡ earlier ++ last)

-- the units in their order, and these after them
abbrev pub in_order : History → List NalUnit → List NalUnit
in_order [] units = units
in_order (r ∷ before) units = in_order before (r.unit ∷ units)

-- The bytes are a byte stream, all its units are legal, and so is its end: there is a derivation that meets every rule, and no
-- feature that is not judged. So every prediction refers to a held picture, and the buffer stays within its level's frames.
pub record Holds (extent : Extent) (bytes : List ℕ) (calls : List Told) (summary : Summary) : Type 0 where
  pub units : History
  pub stream : Splits 0 bytes (in_order units []) Zeros
  pub first : List Told
  pub last : List Told
  pub legal : AreLegal extent units first
  pub end : Runs (end_steps extent.depth units (8 * length bytes)) last (Ok tt)
  pub calls_are : calls ≡ first ++ last
  pub summary_is : summary ≡ summary_of extent.depth units
  pub pictures : AreDecodable extent.depth (runs_of units)

-- What is left of a stream: its units, what stands after the last, and the byte where the stream ends.
pub record Remainder : Type 0 where
  pub units : List NalUnit
  pub tail : Tail
  pub end : ℕ

abbrev pub remainder : List NalUnit → Tail → ℕ → Remainder
remainder units tail end = record { units = units; tail = tail; end = end }

-- After the legal units the verdict falls at the next, or at what follows the last, or at the end of the input.
pub data IsStopAfter (extent : Extent) (before : History) (rest : Remainder) (stop : Stop) (calls : List Told) : Type 0 where
  AtNext : (unit : NalUnit) (later : List NalUnit) → rest.units ≡ unit ∷ later → IsStop extent before unit stop calls →
      IsStopAfter extent before rest stop calls
  AtTail : rest.units ≡ [] → tail_stop rest.tail ≡ Some stop → calls ≡ [] → IsStopAfter extent before rest stop calls
  AtEnd : rest.units ≡ [] → rest.tail ≡ Zeros → Runs (end_steps extent.depth before (8 * rest.end)) calls (Err stop) →
      IsStopAfter extent before rest stop calls

-- The units before are legal, and then the verdict falls.
pub record StopsAt (extent : Extent) (bytes : List ℕ) (calls : List Told) (stop : Stop) : Type 0 where
  pub before : History
  pub units : List NalUnit
  pub tail : Tail
  pub stream : Splits 0 bytes (in_order before units) tail
  pub first : List Told
  pub last : List Told
  pub legal : AreLegal extent before first
  pub stops : IsStopAfter extent before (remainder units tail (length bytes)) stop last
  pub calls_are : calls ≡ first ++ last

-- All rules before this one are met, it fails, and this is its bit.
abbrev pub Breaks : Extent → List ℕ → List Told → ℕ → Rule → Type 0
Breaks extent bytes calls bit rule = StopsAt extent bytes calls (No bit rule)

-- All rules before are met, and here stands a feature that is not judged.
abbrev pub MayStop : Extent → List ℕ → List Told → ℕ → Feature → Type 0
MayStop extent bytes calls bit feature = StopsAt extent bytes calls (Outside bit feature)

-- what is said of a stream, and what a sink is told of it up to there
abbrev pub Verdict : Extent → List ℕ → List Told → Result Summary Stop → Type 0
Verdict extent bytes calls (Ok summary) = Holds extent bytes calls summary
Verdict extent bytes calls (Err stop) = StopsAt extent bytes calls stop

-- A sink that took some of a stream's calls has taken some more, and they are all that the stream has up to this verdict.
pub record Whole {S : Type 0} (extent : Extent) (w : SinkSpan S Told) (bytes : List ℕ) (calls : List Told) (answer : Result Summary Stop) : Type 0 where
  pub more : List Told
  pub tells : Tells w.took w.old w.new more
  pub verdict : Verdict extent bytes (calls ++ more) answer

-- They are the first of those that the stream has.
pub record Front {S : Type 0} (extent : Extent) (w : SinkSpan S Told) (bytes : List ℕ) (calls : List Told) : Type 0 where
  pub more : List Told
  pub tells : Tells w.took w.old w.new more
  pub rest : List Told
  pub answer : Result Summary Stop
  pub verdict : Verdict extent bytes ((calls ++ more) ++ rest) answer

-- Memory is wanting after legal units, where these bytes are left from this place on: before anything is told of the next, for its bytes, of which there
-- are some, or at the beginning for the places of parameter sets; or in the next, whose slice begins a picture of another format than that of the
-- picture before it, once the rules of the slice are met, and before the first element of its data. So a slice of a picture that has begun wants
-- memory for its bytes alone, and the end of the input wants none.
pub data IsWanting (extent : Extent) (before : History) (units : List NalUnit) (calls : List Told) (place : ℕ) (left : List ℕ) : Type 0 where
  BeforeNext : calls ≡ [] → IsMore place left → IsWanting extent before units calls place left
  ForPicture : (unit : NalUnit) (later : List NalUnit) → units ≡ unit ∷ later → ChangesFormat extent.depth before unit →
      ReachesData extent before unit calls → IsWanting extent before units calls place left

-- The units before are legal, and then memory is wanting.
pub record WantsAt (extent : Extent) (bytes : List ℕ) (calls : List Told) : Type 0 where
  pub before : History
  pub units : List NalUnit
  pub tail : Tail
  pub stream : Splits 0 bytes (in_order before units) tail
  pub first : List Told
  pub last : List Told
  pub legal : AreLegal extent before first
  pub place : ℕ
  pub left : List ℕ
  pub stands : BeginWith 0 bytes (in_order before []) place left
  pub wants : IsWanting extent before units last place left
  pub calls_are : calls ≡ first ++ last

-- A sink that took some of a stream's calls has taken some more, and then memory was wanting.
pub record Wanting {S : Type 0} (extent : Extent) (w : SinkSpan S Told) (bytes : List ℕ) (calls : List Told) : Type 0 where
  pub more : List Told
  pub tells : Tells w.took w.old w.new more
  pub wants : WantsAt extent bytes (calls ++ more)

abbrev pub JudgedBy : {S : Type 0} → Extent → SinkSpan S Told → List ℕ → List Told → Result Summary Stop → Type 0
JudgedBy extent w bytes calls (Ok summary) = Whole extent w bytes calls (Ok summary) × (w.failures w.new ≡ w.failures w.old)
JudgedBy extent w bytes calls (Err (No bit rule)) = Whole extent w bytes calls (Err (No bit rule)) × (w.failures w.new ≡ w.failures w.old)
JudgedBy extent w bytes calls (Err (Outside bit feature)) = Whole extent w bytes calls (Err (Outside bit feature)) × (w.failures w.new ≡ w.failures w.old)
JudgedBy extent w bytes calls (Err Memory) = Front extent w bytes calls × (w.failures w.new ≡ w.failures w.old) × Wanting extent w bytes calls
JudgedBy extent w bytes calls (Err Read) = Front extent w bytes calls × (w.failures w.new ≡ w.failures w.old)
JudgedBy extent w bytes calls (Err Write) = Front extent w bytes calls × (w.failures w.new ≡ w.failures w.old + 1)

-- Of what was told with these frames the same is told with others, and the pictures are decoded as they were.
pub record SameTold (frames others : Family) (told : List Told) : Type 0 where
  pub calls : calls_of others told ≡ calls_of frames told
  pub decoded : AreDecoded frames told → AreDecoded others told

-- Of this stream, of which this was told with these frames, a yes has Holds, a no Breaks, an outside MayStop, and a sink was then told
-- exactly what comes up to there, with the frames of the pictures, decoded, or with none where no frames are made; memory, read and write come with
-- the first of it, memory only where it is wanting.
pub record Judged {S : Type 0} (terms : Terms) (w : SinkSpan S Call) (bytes : List ℕ) (frames : Family) (told : List Told)
    (answer : Result Summary Stop) : Type 0 where
  pub made : Family
  pub family : IsFamilyFor terms.purpose made
  pub same : SameTold frames made told
  pub judged : JudgedBy (extent_by terms) (with_frames made w) bytes told answer
