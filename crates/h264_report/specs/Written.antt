-- What the commands write of a stream: what stands before the last line, and the last line. To be read beside docs/OUTPUT.md.
use Rattle.std.specs.Prelude.{◌≡◌, ℕ, Bool, true, false, List, [], ◌++◌, Option, None, Some, Result, Ok, Err, ◌⊎◌}
use Rattle.circular_buffer.specs.Buffer.{keep_last}
use Rattle.h264_base.specs.Call.{Call}
use Rattle.h264_base.specs.declared.mode.Mode.{Mode}
use Rattle.h264_base.specs.declared.mode.Mode.TheVariants as modes
use Rattle.h264_base.specs.declared.mode.Target.{Target}
use Rattle.h264_base.specs.declared.stop.Stop.{Stop}
use Rattle.h264_base.specs.declared.stop.Stop.TheVariants.{No, Outside, Memory, Read, Write}
use Rattle.h264_lines.specs.Lines.{verdict_text}
use Rattle.h264_lines.specs.Objects.{bare}
use Rattle.h264_lines.specs.Sent.{Sends, Takes, WriterSpan}
use Rattle.h264_lines.specs.Told.{ended, lines_of, bytes_of, elements_of, BreaksOff}
use Rattle.h264_lines.specs.Trail.{element_lines}
use Rattle.h264_lines.specs.Answer.{answer_status}
use Rattle.h264_report.specs.declared.judging.Ending.{Ending}
use Rattle.h264_lines.specs.declared.listing.Listing.{Listing}
use Rattle.h264_lines.specs.declared.trail.Element.{Element}
use Rattle.h264_verify.specs.Account.{Account, calls_in}
use Rattle.h264_base.specs.declared.summary.Summary.{Summary}
use Rattle.h264_verify.specs.declared.state.Terms.{Terms}
use Rattle.h264_verify.specs.Units.{terms_of}

-- This holds of the bytes that a source gives. Where it does not tell them, it holds of some bytes.
abbrev pub OfBytes : Option (List ℕ) → (List ℕ → Type 0) → Type 0
OfBytes None Is = (bytes : List ℕ) × Is bytes
OfBytes (Some bytes) Is = Is bytes

-- ---- what is written of the calls

-- These bytes are all that the calls make; only where a write failed the last of the calls may break off.
abbrev pub IsWritten : (List Call → List ℕ) → Result Summary Stop → List Call → List ℕ → Type 0
IsWritten make (Ok summary) calls bytes = bytes ≡ make calls
IsWritten make (Err (No bit rule)) calls bytes = bytes ≡ make calls
IsWritten make (Err (Outside bit feature)) calls bytes = bytes ≡ make calls
IsWritten make (Err Memory) calls bytes = bytes ≡ make calls
IsWritten make (Err Read) calls bytes = bytes ≡ make calls
IsWritten make (Err Write) calls bytes = (bytes ≡ make calls) ⊎ BreaksOff make calls bytes

-- What was written of the calls of this stream up to this answer.
pub record Writes (make : List Call → List ℕ) (terms : Terms) (bytes : List ℕ) (answer : Result Summary Stop) (old new : Option (List ℕ)) : Type 0 where
  pub account : Account terms bytes answer
  pub text : List ℕ
  pub is_written : IsWritten make answer (calls_in account) text
  pub sends : Sends old new text

-- the last line of an answer
abbrev pub last_line : Mode → Result Summary Stop → List ℕ
last_line mode answer = ended (verdict_text mode answer)

-- ---- the commands

-- The lines of a listing, and after them the last line.
pub record Lists (mode : Mode) (target : Target) (listing : Listing) (bytes : List ℕ) (ending : Ending) (out : WriterSpan) : Type 0 where
  pub account : Account (terms_of mode target) bytes ending.answer
  pub lines : List ℕ
  pub are_lines : IsWritten (lines_of bare listing 0) ending.answer (calls_in account) lines
  pub text : Takes ending.written out.old out.new (lines ++ last_line mode ending.answer)

-- a rule is broken
abbrev pub is_no : Result Summary Stop → Bool
is_no (Ok summary) = false
is_no (Err (No bit rule)) = true
is_no (Err (Outside bit feature)) = false
is_no (Err Memory) = false
is_no (Err Read) = false
is_no (Err Write) = false

-- the lines of these elements after a no, and none after any other answer
abbrev pub trail_text : List Element → Result Summary Stop → List ℕ
trail_text es (Ok summary) = []
trail_text es (Err (No bit rule)) = element_lines es
trail_text es (Err (Outside bit feature)) = []
trail_text es (Err Memory) = []
trail_text es (Err Read) = []
trail_text es (Err Write) = []

-- The stream is judged without its frames. After a no the last 16 elements, the oldest first, and after them the last line; else the last line alone.
pub record Checks (target : Target) (bytes : List ℕ) (ending : Ending) (out : WriterSpan) : Type 0 where
  pub account : Account (terms_of modes.Verdict target) bytes ending.answer
  pub text : Takes ending.written out.old out.new
      (trail_text (keep_last 16 (elements_of (calls_in account))) ending.answer ++ last_line modes.Full ending.answer)

-- The frames to one writer, the last line to the other.
pub record Decodes (target : Target) (bytes : List ℕ) (ending : Ending) (out err : WriterSpan) : Type 0 where
  pub frames : Writes bytes_of (terms_of modes.Full target) bytes ending.answer out.old out.new
  pub text : Takes ending.written err.old err.new (last_line modes.Full ending.answer)

-- ---- the exit status

-- that of the answer where all was written, else that of a device that failed
abbrev pub status_of : Bool → Result Summary Stop → ℕ
status_of true answer = answer_status answer
status_of false answer = 4
