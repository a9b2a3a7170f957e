-- What a decoder has of the bytes that it was given: the session's standing or the verdict, and the frames. To be read beside docs/LIBRARY.md.
use Rattle.std.specs.Prelude.{◌≡◌, ℕ, List, Result, Err}
use Rattle.h264_base.specs.Call.{Call}
use Rattle.h264_base.specs.declared.stop.Stop.{Stop}
use Rattle.h264_base.specs.declared.stop.Stop.TheVariants.{Read, Write}
use Rattle.h264_stream.specs.Queue.{Waits, IsFilled, told_of_frames}
use Rattle.h264_verify.specs.Account.{Account, calls_in}
use Rattle.h264_stream.specs.declared.queue.ShownFrame.{ShownFrame}
use Rattle.h264_verify.specs.Feeding.{WasFed}
use Rattle.h264_verify.specs.Progress.{Progress}
use Rattle.h264_verify.specs.Telling.{Told, Family, calls_of, AreDecoded}
use Rattle.h264_base.specs.declared.summary.Summary.{Summary}
use Rattle.h264_verify.specs.declared.state.Terms.{Terms}

-- The stream is judged so far. The session was fed these bytes, and the pictures are decoded. So many of the frames that they give were
-- handed out, the first ones, and these wait, all others.
pub record IsDecoding (terms : Terms) (session : Progress) (bytes : List ℕ) (handed_out : ℕ) (waiting : List ShownFrame) : Type 0 where
  pub frames : Family
  pub told : List Told
  pub fed : WasFed terms session bytes frames told
  pub decoded : AreDecoded frames told
  pub waits : Waits handed_out waiting (calls_of frames told)

-- This is the answer to these bytes: the verdict, or that memory was wanting. So many of the frames up to there were handed out, the
-- first ones, and these wait, all others.
pub record HasDecoded (terms : Terms) (bytes : List ℕ) (answer : Result Summary Stop) (handed_out : ℕ) (waiting : List ShownFrame) : Type 0 where
  pub account : Account terms bytes answer
  pub waits : Waits handed_out waiting (calls_in account)
  pub no_read : answer ≡ Err Read → ⊥
  pub no_write : answer ≡ Err Write → ⊥

-- Frames came in after those that waited, and none was handed out.
pub record HasGrown (out_before : ℕ) (waiting_before : List ShownFrame) (handed_out : ℕ) (waiting : List ShownFrame) : Type 0 where
  pub calls : List Call
  pub filled : IsFilled out_before (told_of_frames waiting_before) handed_out waiting calls
