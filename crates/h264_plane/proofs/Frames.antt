use Rattle.std.proofs.Common.{◌≡◌, ℕ, ◌+◌, ◌<◌, List, [], ◌∷◌, ◌++◌, length, arith, below_more, ◌∙◌}
use Rattle.std.proofs.lemmas.List.{get_or_append_left, get_or_push}
use Rattle.h264_plane.specs.Samples.{Samples, IsSized, IsBlank, ShowsSamples}
use Rattle.h264_plane.specs.Frames.{plane_of, frame_at, no_frame, IsFrame, IsWritten}
use Rattle.h264_plane.specs.declared.frame.Component.{Component}
use Rattle.h264_plane.specs.declared.frame.Component.TheVariants.{Y, Cb, Cr}
use Rattle.h264_plane.specs.declared.frame.Frame.{Frame}

-- one more frame at the end of a list of frames of one size
pub frames_push : (xs : List Frame) (f : Frame) (n w h : ℕ) → length xs ≡ n → ((k : ℕ) → k < n → IsFrame (frame_at xs k) w h) → IsFrame f w h →
    (k : ℕ) → k < n + 1 → IsFrame (frame_at (xs ++ f ∷ []) k) w h
frames_push xs f n w h e each last = below_more _ _
    (λ k p. let inside : k < length xs = omega arith in rw get_or_append_left (each k p))
    (rw (get_or_push xs f no_frame n e) last)

-- the same of frames that are blank
pub blank_push : (xs : List Frame) (f : Frame) (n : ℕ) → length xs ≡ n → ((k : ℕ) → k < n → (c : Component) → IsBlank (plane_of c (frame_at xs k))) →
    ((c : Component) → IsBlank (plane_of c f)) →
    (k : ℕ) → k < n + 1 → (c : Component) → IsBlank (plane_of c (frame_at (xs ++ f ∷ []) k))
blank_push xs f n e each last = below_more _ _
    (λ k p c. let inside : k < length xs = omega arith in rw get_or_append_left (each k p c))
    (λ c. rw (get_or_push xs f no_frame n e) (last c))

sized_kept : (old new : Samples) (w h : ℕ) (s : ℕ → ℕ → ℕ) → ShowsSamples old new s → IsSized old w h → IsSized new w h
sized_kept old new w h s held size = record { columns = held.width ∙ size.columns; rows = held.height ∙ size.rows }

sized_same : (old new : Samples) (w h : ℕ) → new ≡ old → IsSized old w h → IsSized new w h
sized_same old new w h e size = rw e size

-- a frame that was written is a frame of its size
pub frame_kept : (c : Component) (old new : Frame) (w h : ℕ) (s : ℕ → ℕ → ℕ) → IsWritten c old new s → IsFrame old w h → IsFrame new w h
frame_kept Y old new w h s e f = record {
  y = sized_kept old.y new.y _ _ s e.written f.y;
  cb = sized_same _ _ _ _ e.kept.0 f.cb;
  cr = sized_same _ _ _ _ e.kept.1 f.cr;
  columns = f.columns;
  rows = f.rows;
}
frame_kept Cb old new w h s e f = record {
  y = sized_same _ _ _ _ e.kept.0 f.y;
  cb = sized_kept old.cb new.cb _ _ s e.written f.cb;
  cr = sized_same _ _ _ _ e.kept.1 f.cr;
  columns = f.columns;
  rows = f.rows;
}
frame_kept Cr old new w h s e f = record {
  y = sized_same _ _ _ _ e.kept.0 f.y;
  cb = sized_same _ _ _ _ e.kept.1 f.cb;
  cr = sized_kept old.cr new.cr _ _ s e.written f.cr;
  columns = f.columns;
  rows = f.rows;
}
