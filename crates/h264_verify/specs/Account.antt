-- What was told of a stream up to an answer. To be read beside docs/OUTPUT.md.
use Rattle.std.specs.Prelude.{ℕ, List, ◌++◌, Result, Ok, Err}
use Rattle.h264_base.specs.Call.{Call}
use Rattle.h264_base.specs.declared.stop.Stop.{Stop}
use Rattle.h264_base.specs.declared.stop.Stop.TheVariants.{No, Outside, Memory, Read, Write}
use Rattle.h264_verify.specs.Telling.{Told, calls_of, AreDecoded, Family, IsFamilyFor}
use Rattle.h264_verify.specs.Verdict.{Verdict}
use Rattle.h264_base.specs.declared.summary.Summary.{Summary}
use Rattle.h264_verify.specs.declared.state.Extent.{Extent}
use Rattle.h264_verify.specs.declared.state.Terms.{Terms}
use Rattle.h264_verify.specs.Units.{extent_by}

-- It is the first of what comes to pass as this stream is judged.
pub record IsFront (extent : Extent) (bytes : List ℕ) (told : List Told) : Type 0 where
  pub rest : List Told
  pub answer : Result Summary Stop
  pub verdict : Verdict extent bytes (told ++ rest) answer

-- A yes, a no and an outside are the verdict on this stream, and this is all that comes to pass up to there; memory, read and write
-- come with the first of it.
abbrev pub Answers : Extent → List ℕ → List Told → Result Summary Stop → Type 0
Answers extent bytes told (Ok summary) = Verdict extent bytes told (Ok summary)
Answers extent bytes told (Err (No bit rule)) = Verdict extent bytes told (Err (No bit rule))
Answers extent bytes told (Err (Outside bit feature)) = Verdict extent bytes told (Err (Outside bit feature))
Answers extent bytes told (Err Memory) = IsFront extent bytes told
Answers extent bytes told (Err Read) = IsFront extent bytes told
Answers extent bytes told (Err Write) = IsFront extent bytes told

-- what was told of a stream up to an answer, with a family of frames in which the pictures are decoded, where frames are made
pub record Account (terms : Terms) (bytes : List ℕ) (answer : Result Summary Stop) : Type 0 where
  pub frames : Family
  pub family : IsFamilyFor terms.purpose frames
  pub told : List Told
  pub decoded : AreDecoded frames told
  pub answers : Answers (extent_by terms) bytes told answer

-- the calls of a sink
abbrev pub calls_in : {terms : Terms} {bytes : List ℕ} {answer : Result Summary Stop} → Account terms bytes answer → List Call
calls_in a = calls_of a.frames a.told
