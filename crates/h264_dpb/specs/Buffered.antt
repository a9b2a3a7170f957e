-- The buffer, and what is stored in it. What names a picture is left open. To be read beside the standard.
use Rattle.std.specs.Prelude.{◌≡◌, ℕ, ◌+◌, ◌-◌, ◌<◌, ◌≤◌, not, ◌||◌, Bool, true, false, IsTrue, cond, List, [], ◌∷◌, length, Option, Result, Ok, Err}
use Rattle.h264_base.specs.declared.stop.Stop.{Stop}
use Rattle.h264_base.specs.declared.stop.Stop.TheVariants.{Write}
use Rattle.h264_base.specs.Call.{Call, SinkSpan, Tells, TellsFront}
use Rattle.h264_plane.specs.declared.frame.Frame.{Frame}
use Rattle.h264_dpb.specs.Shown.{is_shown}
use Rattle.h264_dpb.specs.declared.entry.Entry.{Entry}
use Rattle.h264_dpb.specs.declared.entry.Placed.{Placed}
use Rattle.h264_dpb.specs.declared.entry.Picture.{Picture}
use Rattle.h264_dpb.specs.declared.entry.Kind.{Kind}
use Rattle.h264_dpb.specs.declared.entry.Kind.TheVariants as kinds
use Rattle.h264_dpb.specs.Bumping.{Step, is_in_use, is_held, missing_in, marked, made_room, stored_reference, stored_other}
use Rattle.h264_dpb.specs.Writing.{calls_of}

-- the frames, how many places those take that do not exist, and how many there are
pub record Buffered (N : Type 0) : Type 0 where
  pub entries : List (Entry N)
  pub missing : ℕ
  pub size : ℕ

-- A picture that is used for reference, where these are held and so many frames among them do not exist.
abbrev pub reference_step : {N : Type 0} → Entry N → (N → Bool) → ℕ → Buffered N → Step N
reference_step e held missing b = stored_reference (b.size - missing) e (marked held b.entries)

-- a picture that is not
abbrev pub other_step : {N : Type 0} → Entry N → Buffered N → Step N
other_step e b = stored_other (b.size - b.missing) e b.entries

-- frames are output until one of so many places is free
abbrev pub room_step : {N : Type 0} → ℕ → List (Entry N) → Step N
room_step places es = made_room (length es) places es

-- A frame that does not exist, one of the missing.
abbrev pub missing_step : {N : Type 0} → (N → Bool) → ℕ → Buffered N → Step N
missing_step held missing b = room_step (b.size - (missing - 1)) (marked held b.entries)

-- how many of the frames are used for reference
abbrev pub references : {N : Type 0} → List (Entry N) → ℕ
references [] = 0
references (e ∷ es) = cond e.reference 1 0 + references es

-- each frame waits or is used for reference
abbrev pub AreUsed : {N : Type 0} → List (Entry N) → Type 0
AreUsed [] = Unit {0}
AreUsed (e ∷ es) = (is_in_use e ≡ true) × AreUsed es

-- the rectangle of a frame that waits lies in it, where it is lent
abbrev pub is_ready : (ℕ → Option Frame) → Entry Placed → Bool
is_ready lent e = not e.waiting || is_shown lent e.of

abbrev pub AreReady : (ℕ → Option Frame) → List (Entry Placed) → Type 0
AreReady lent [] = Unit {0}
AreReady lent (e ∷ es) = IsTrue (is_ready lent e) × AreReady lent es

abbrev pub StepsBy : {X S : Type 0} → SinkSpan S Call → (ℕ → Option Frame) → Step Placed → List (Entry Placed) → Result X Stop → Type 0
StepsBy w lent step new (Ok x) = (new ≡ step.entries) × Tells w.took w.old w.new (calls_of lent step.written) × (w.failures w.new ≡ w.failures w.old)
StepsBy w lent step new (Err e) =
    (e ≡ Write) × TellsFront w.took w.old w.new (calls_of lent step.written) × (w.failures w.new ≡ w.failures w.old + 1)

-- The sink was told the frames of a step, which left these in the buffer; or it failed, and took the first of them.
pub record Steps {X S : Type 0} (w : SinkSpan S Call) (lent : ℕ → Option Frame) (step : Step Placed) (new : List (Entry Placed))
    (result : Result X Stop) : Type 0 where
  pub steps : StepsBy w lent step new result

-- what is stored of a picture
abbrev pub entry_of : Picture → Bool → Entry Placed
entry_of p reference = record { of = p.of; count = p.count; waiting = true; reference = reference }

abbrev pub still : Picture → Placed → Bool
still p n = is_held p.held.now n.picture

-- what storing a picture writes and leaves
abbrev pub stored_by : Kind → Picture → Buffered Placed → Step Placed
stored_by kinds.Reference p b = reference_step (entry_of p true) (still p) (missing_in p.held.now) b
stored_by kinds.Other p b = other_step (entry_of p false) b
stored_by kinds.Missing p b = missing_step (still p) (missing_in p.held.now) b

abbrev pub missing_by : Kind → Picture → Buffered Placed → ℕ
missing_by kinds.Reference p b = missing_in p.held.now
missing_by kinds.Other p b = b.missing
missing_by kinds.Missing p b = missing_in p.held.now

-- Fewer other frames than there are places are used for reference, those that do not exist among them.
abbrev pub HasRoomBy : Kind → Picture → Buffered Placed → Type 0
HasRoomBy kinds.Reference p b = references (marked (still p) b.entries) + missing_in p.held.now < b.size
HasRoomBy kinds.Other p b = Unit {0}
HasRoomBy kinds.Missing p b = (0 < missing_in p.held.now) × (references (marked (still p) b.entries) + missing_in p.held.now ≤ b.size)

-- how many places are taken, by frames and by those that do not exist
abbrev pub places_taken : {N : Type 0} → Buffered N → ℕ
places_taken b = length b.entries + b.missing

-- The frames and those that do not exist have places.
abbrev pub StaysWithin : {N : Type 0} → Buffered N → Type 0
StaysWithin b = length b.entries + b.missing ≤ b.size

-- The rectangle of a picture that may wait lies in its frame, where that is lent; a frame that does not exist has none.
abbrev pub IsShownBy : Kind → (ℕ → Option Frame) → Picture → Type 0
IsShownBy kinds.Reference lent p = IsTrue (is_shown lent p.of)
IsShownBy kinds.Other lent p = IsTrue (is_shown lent p.of)
IsShownBy kinds.Missing lent p = Unit {0}
