-- What a session was fed, and what comes of it as it goes on. A working form.
use Rattle.std.specs.Prelude.{◌≡◌, ◌≤◌, ℕ, IsFalse, List, [], ◌∷◌, ◌++◌, Option, Some, None, Result}
use Rattle.h264_verify.specs.declared.state.Terms.{Terms}
use Rattle.h264_verify.specs.Units.{extent_by}
use Rattle.h264_base.specs.declared.stop.Stop.{Stop}
use Rattle.h264_base.specs.Call.{Call, SinkSpan}
use Rattle.h264_units.specs.Stream.{NalUnit, Next, past, IsUndecided}
use Rattle.h264_units.specs.Splitting.{Splitting}
use Rattle.h264_verify.specs.declared.state.State.{State}
use Rattle.h264_base.specs.declared.summary.Summary.{Summary}
use Rattle.h264_verify.specs.Telling.{Told, Tells, Family, IsFamilyFor, took_with, with_frames, Agree, AreOf}
use Rattle.h264_verify.specs.History.{History}
use Rattle.h264_verify.specs.KeepingUnits.{Keeps}
use Rattle.h264_verify.specs.Keeping.{ended_in}
use Rattle.h264_verify.specs.Verdict.{in_order, AreLegal, SameTold, JudgedBy}
use Rattle.h264_verify.specs.Progress.{Progress, going}

-- From this place on these bytes show these units, each with its end whatever follows, and after them stands this rest.
abbrev pub ShowsUnits : ℕ → List ℕ → List NalUnit → ℕ → List ℕ → Type 0
ShowsUnits at bytes [] end rest = (end ≡ at) × (rest ≡ bytes)
ShowsUnits at bytes (unit ∷ units) end rest =
    (left : List ℕ) × ((more : List ℕ) → Next at (bytes ++ more) unit (left ++ more)) × ShowsUnits (past unit) left units end rest

-- The session was fed these bytes, and with these frames sinks were told this of them. It is that of all units whose ends these bytes
-- show, and these units are legal.
pub record WasFed (terms : Terms) (session : Progress) (bytes : List ℕ) (frames : Family) (told : List Told) : Type 0 where
  pub terms_is : session.terms ≡ terms
  pub family : IsFamilyFor terms.purpose frames
  pub runs : session.stop ≡ None
  pub before : History
  pub keeps : Keeps session.terms.depth frames before session.state
  pub shown : ShowsUnits 0 bytes (in_order before []) session.split.at session.split.rest
  pub undecided : IsUndecided session.split.rest
  pub legal : AreLegal (extent_by terms) before told
  pub of : AreOf (ended_in before) told

-- It was fed some bytes.
pub record WasFedSome (terms : Terms) (session : Progress) : Type 0 where
  pub bytes : List ℕ
  pub frames : Family
  pub told : List Told
  pub fed : WasFed terms session bytes frames told

-- between two calls no unit waits, each unit so far had a byte of the input, and the session was fed some bytes
abbrev pub IsReady : Terms → Splitting → State → Type 0
IsReady terms split state = ((split.stop ≡ None) × IsFalse split.waiting × IsFalse split.ended) × (state.units ≤ split.at)
    × (state.slices.pictures ≤ state.units) × WasFedSome terms (going terms split state)

abbrev pub IsSession : Terms → Option Stop → Splitting → State → Type 0
IsSession terms None split state = IsReady terms split state
IsSession terms (Some stop) split state = Unit {0}

-- The session was then fed these bytes, and the sink was told what comes of them after that, with these frames and some more.
pub record IsFed {S : Type 0} (terms : Terms) (w : SinkSpan S Call) (session : Progress) (bytes : List ℕ) (frames : Family)
    (told : List Told) : Type 0 where
  pub made : Family
  pub same : SameTold frames made told
  pub more : List Told
  pub tells : Tells (took_with made w.took) w.old w.new more
  pub fed : WasFed terms session bytes made (told ++ more)
  pub kept : w.failures w.new ≡ w.failures w.old

-- From where it was fed this the session went on by a piece, and the sink was told what comes of that, with the frames so far and those that ended.
pub record GoesOn {S : Type 0} {terms : Terms} {old : Progress} {bytes : List ℕ} {frames : Family} {told : List Told}
    (f : WasFed terms old bytes frames told) (w : SinkSpan S Call) (new : Progress) (piece : List ℕ) : Type 0 where
  pub made : Family
  pub same : Agree (ended_in f.before) frames made
  pub more : List Told
  pub tells : Tells (took_with made w.took) w.old w.new more
  pub fed : WasFed terms new (bytes ++ piece) made (told ++ more)
  pub grows : ended_in f.before ≤ ended_in fed.before
  pub kept : w.failures w.new ≡ w.failures w.old

-- From where it was fed this the session came to this answer on the whole stream, and the sink was told what comes of that.
pub record ComesTo {S : Type 0} {terms : Terms} {old : Progress} {bytes : List ℕ} {frames : Family} {told : List Told}
    (f : WasFed terms old bytes frames told) (w : SinkSpan S Call) (whole : List ℕ) (answer : Result Summary Stop) : Type 0 where
  pub made : Family
  pub same : Agree (ended_in f.before) frames made
  pub judged : JudgedBy (extent_by terms) (with_frames made w) whole told answer
