-- What a sink is told of frames. A working form.
use Rattle.std.specs.Prelude.{◌≡◌, ℕ, ◌+◌, Option, Some, None, List, [], ◌∷◌, Result, Ok, Err}
use Rattle.std.specs.List.{flat_map}
use Rattle.h264_base.specs.declared.stop.Stop.{Stop}
use Rattle.h264_base.specs.declared.stop.Stop.TheVariants.{Write}
use Rattle.h264_base.specs.Call.{Call, Tells, TellsFront}
use Rattle.h264_plane.specs.declared.frame.Frame.{Frame}
use Rattle.h264_dpb.specs.Shown.{frame_call}
use Rattle.h264_dpb.specs.declared.entry.Entry.{Entry}
use Rattle.h264_dpb.specs.declared.entry.Placed.{Placed}

-- the call of a frame, where there is one
abbrev pub calls_with : Option Frame → Entry Placed → List Call
calls_with None e = []
calls_with (Some f) e = frame_call e.count f e.of.rectangle ∷ []

-- the calls of these frames, each at its place; none of a frame that is not lent
abbrev pub calls_at : (ℕ → Option Frame) → Entry Placed → List Call
calls_at lent e = calls_with (lent e.of.place) e

abbrev pub calls_of : (ℕ → Option Frame) → List (Entry Placed) → List Call
calls_of lent written = flat_map (calls_at lent) written

-- no frame is lent
abbrev pub LendsNone : (ℕ → Option Frame) → Type 0
LendsNone lent = (place : ℕ) → lent place ≡ None

abbrev pub WritesBy : {X S : Type 0} → (S → List Call → Type 0) → (S → ℕ) → List Call → S → S → Result X Stop → Type 0
WritesBy took failures calls s s' (Ok x) = Tells took s s' calls × (failures s' ≡ failures s)
WritesBy took failures calls s s' (Err e) = (e ≡ Write) × TellsFront took s s' calls × (failures s' ≡ failures s + 1)

-- The sink took these calls; or it failed, and took the first of them.
pub record Writes {X S : Type 0} (took : S → List Call → Type 0) (failures : S → ℕ) (calls : List Call) (s s' : S) (result : Result X Stop) : Type 0 where
  pub writes : WritesBy took failures calls s s' result
