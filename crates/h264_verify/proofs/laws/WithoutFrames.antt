-- What is told without frames beside what is told with them.
use Rattle.std.proofs.Common.{ℕ, List, [], ◌∷◌, Some, None, inl, inr, refl}
use Rattle.h264_base.specs.Call.{Call}
use Rattle.h264_plane.specs.declared.frame.Frame.{Frame}
use Rattle.h264_dpb.specs.Kept.{shown_call}
use Rattle.h264_verify.specs.Telling.{Told, Said, Decodes, Shows, calls_of}
use Rattle.h264_verify.specs.Family.{IsFrame, LeavesFramesOut}

-- a frame more is left out
one-out : (o : Call) → IsFrame o → (calls others : List Call) → LeavesFramesOut calls others → LeavesFramesOut calls (o ∷ others)
one-out o h [] others l = (h, l)
one-out o h (c ∷ calls) others l = inr (h, l)

pub frames-out : (frames : ℕ → Frame) (told : List Told) → LeavesFramesOut (calls_of None told) (calls_of (Some frames) told)
frames-out frames [] = tt
frames-out frames (Said c ∷ told) = inl (refl, frames-out frames told)
frames-out frames (Decodes ps ∷ told) = frames-out frames told
frames-out frames (Shows e ∷ told) = one-out (shown_call frames e) tt (calls_of None told) (calls_of (Some frames) told) (frames-out frames told)
