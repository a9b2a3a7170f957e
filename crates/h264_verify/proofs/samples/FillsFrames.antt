-- What is kept while missing numbers are filled.
use Rattle.std.proofs.Common.{◌≡◌, ℕ, ◌+◌, ◌<◌, ◌^◌, length, Option, Some, None, Result, Ok, Err, OnOk, refl, sym, ◌∙◌, subst, length-append}
use Rattle.std.specs.Prelude.{IfSome}
use Rattle.h264_plane.specs.declared.frame.Frame.{Frame}
use Rattle.h264_marking.specs.Frames.{References}
use Rattle.h264_picture.specs.Places.{lent}
use Rattle.h264_dpb.specs.declared.output.Output.{Output}
use Rattle.h264_dpb.specs.Turns.{Shown, Turn, turn_then, missing_turn}
use Rattle.h264_dpb.specs.Buffered.{Buffered}
use Rattle.h264_dpb.specs.Kept.{KeepsBuffer, HasFrames, IsOrdered, IsReady, size_of}
use Rattle.h264_verify.specs.declared.decoder.Decoder.{Decoder}
use Rattle.h264_verify.specs.declared.decoder.Format.{Format}
use Rattle.h264_verify.specs.Keeping.{FillsFrames, FillsSome, KeepsSomeGap, IsSized}
use Rattle.h264_verify.proofs.kept.WhereMade.{some-made}
use Rattle.h264_verify.specs.Telling.{Family}

pub gap-ordered : (d : Decoder) → FillsSome d → (next : ℕ) × (next < 2 ^ 62) × IsOrdered next d.output
gap-ordered d k = (k.next, k.few, k.keeps.output.ordered)

pub gap-ready : (d : Decoder) → FillsSome d → IsReady (lent d.work) d.output
gap-ready d k = k.keeps.output.ready

pub some-filled : (o : Option Decoder) (d : Decoder) → o ≡ Some d → KeepsSomeGap o → FillsSome d
some-filled o d e k = record { frames = k.frames; turn = k.turn; next = k.next; few = k.few; keeps = (some-made _ k.depth o d e k.keeps).1 }

pub sized : (o : Option Format) (f : Format) (output : Output) → o ≡ Some f → IsSized o output → size_of output ≡ f.frames
sized o f output e h = subst (λ (x : Option Format). IsSized x output) e h

-- ---- missing numbers, one after another

-- a missing number leaves as many places
size-missing : (held : References) (b : Buffered Shown) → (missing_turn held b).buffer.size ≡ b.size
unfolding missing_turn
size-missing held b = refl

still-sized : (o : Option Format) (old new : Output) → size_of new ≡ size_of old → IsSized o old → IsSized o new
still-sized None old new e h = tt
still-sized (Some f) old new e h = e ∙ h

filled-frames : (frames : Family) {P : (ℕ → Frame) → Type 0} → ((f : ℕ → Frame) → frames ≡ Some f → P f) → IfSome frames P
filled-frames None h = tt
filled-frames (Some f) h = h f refl

-- one more missing number is filled
pub gap-filled : {X E : Type 0} (frames : Family) (t : Turn) (next : ℕ) (held : References) (old : Decoder) (out : Output) (r : Result X E) →
    FillsFrames frames t next old →
    OnOk r (KeepsBuffer (missing_turn held t.buffer).buffer (length t.written + length (missing_turn held t.buffer).written) out) →
    ((f : ℕ → Frame) → frames ≡ Some f → OnOk r (HasFrames f (lent old.work) out)) → OnOk r (IsOrdered next out) → OnOk r (IsReady (lent old.work) out) →
    OnOk r (FillsFrames frames (turn_then t (missing_turn held)) next (record old { output = out }))
gap-filled frames t next held old out (Ok x) k b f o a = record {
  output = record {
    buffer = subst (λ (n : ℕ). KeepsBuffer (missing_turn held t.buffer).buffer n out)
        (sym (length-append t.written (missing_turn held t.buffer).written)) b;
    made = k.output.made;
    frames_are = filled-frames frames f;
    ordered = o;
    ready = a;
    format = k.output.format;
  };
  settled = record {
    released = k.settled.released;
    sized = still-sized old.format old.output out (sym b.same.size ∙ size-missing held t.buffer ∙ k.output.buffer.same.size) k.settled.sized;
  };
}
gap-filled frames t next held old out (Err e) k b f o a = tt
