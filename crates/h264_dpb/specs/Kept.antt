-- What is kept of the buffer of a stream: a frame is named by its place, and a store lends it. A working form.
use Rattle.std.specs.Prelude.{◌≡◌, ℕ, ◌+◌, ◌≤◌, Bool, true, false, IsTrue, Option, Some, List, [], ◌∷◌, map, length}
use Rattle.std.specs.List.{count_by}
use Rattle.h264_base.specs.Call.{Call}
use Rattle.h264_plane.specs.declared.frame.Frame.{Frame}
use Rattle.h264_dpb.specs.declared.entry.Entry.{Entry}
use Rattle.h264_dpb.specs.declared.entry.Placed.{Placed}
use Rattle.h264_dpb.specs.declared.entry.Kind.{Kind}
use Rattle.h264_dpb.specs.declared.entry.Kind.TheVariants as kinds
use Rattle.h264_dpb.specs.Shown.{fits, frame_call}
use Rattle.h264_dpb.specs.Numbered.{AreRising, number_of, is_taken, place_in}
use Rattle.h264_dpb.specs.Renamed.{all_renamed}
use Rattle.h264_dpb.specs.Buffered.{Buffered, AreReady}
use Rattle.h264_dpb.specs.declared.ended.Ended.{Ended}
use Rattle.h264_dpb.specs.declared.output.Output.{Output}
use Rattle.h264_dpb.specs.Turns.{Shown}

-- what a place is of
abbrev pub shown_at : Placed → Shown
shown_at n = record { picture = n.picture; rectangle = n.rectangle }

-- this holds of each of these
abbrev pub Each : {N : Type 0} → (N → Type 0) → List (Entry N) → Type 0
Each P [] = Unit {0}
Each P (e ∷ es) = P e.of × Each P es

-- the frame of a picture is lent at its place, and the rectangle lies in it
abbrev pub IsAtPlace : (ℕ → Frame) → (ℕ → Option Frame) → Placed → Type 0
IsAtPlace frames lent n = (lent n.place ≡ Some (frames n.picture)) × IsTrue (fits n.rectangle (frames n.picture))

-- the entries are the same but for their places, and so are the numbers
pub record SameBuffer (b : Buffered Shown) (kept : Buffered Placed) : Type 0 where
  pub entries : b.entries ≡ all_renamed shown_at kept.entries
  pub missing : b.missing ≡ kept.missing
  pub size : b.size ≡ kept.size

-- This is kept of a buffer of pictures, of which so many frames were written.
pub record KeepsBuffer (b : Buffered Shown) (written : ℕ) (output : Output) : Type 0 where
  pub same : SameBuffer b output.buffer
  pub count : output.frames ≡ written

-- each frame in it is at its place
pub record HasFrames (frames : ℕ → Frame) (lent : ℕ → Option Frame) (output : Output) : Type 0 where
  pub each : Each (IsAtPlace frames lent) output.buffer.entries

-- how many frames wait for output
abbrev pub waiting_in : {N : Type 0} → List (Entry N) → ℕ
waiting_in es = count_by (λ e. e.waiting) es

-- the pictures in it stand in decoding order, before the one with this number; all frames have places; and no more frames wait or were
-- written than there were pictures
pub record IsOrdered (next : ℕ) (output : Output) : Type 0 where
  pub rising : AreRising number_of 0 output.buffer.entries next
  pub within : length output.buffer.entries + output.buffer.missing ≤ output.buffer.size
  pub count : output.frames + waiting_in output.buffer.entries ≤ next

-- there is no frame in it
pub record IsEmpty (output : Output) : Type 0 where
  pub none : output.buffer.entries ≡ []

-- each frame that waits can be written
pub record IsReady (lent : ℕ → Option Frame) (output : Output) : Type 0 where
  pub ready : AreReady lent output.buffer.entries

-- a frame of it stands at this place
abbrev pub is_occupied : ℕ → Output → Bool
is_occupied place output = is_taken output.buffer.entries place

-- the place of a picture's frame in it, by the picture's number
abbrev pub place_of : Output → ℕ → Option ℕ
place_of output n = place_in output.buffer.entries n

abbrev pub size_of : Output → ℕ
size_of output = output.buffer.size

-- what is stored of a picture
abbrev pub kind_of : Bool → Kind
kind_of true = kinds.Reference
kind_of false = kinds.Other

-- where a picture's frame stands
abbrev pub placed_at : Ended → ℕ → Placed
placed_at p place = record { picture = p.picture; place = place; rectangle = p.rectangle }

-- the calls of frames that are written
abbrev pub shown_call : (ℕ → Frame) → Entry Shown → Call
shown_call frames e = frame_call e.count (frames e.of.picture) e.of.rectangle

abbrev pub shown_calls : (ℕ → Frame) → List (Entry Shown) → List Call
shown_calls frames written = map (shown_call frames) written
