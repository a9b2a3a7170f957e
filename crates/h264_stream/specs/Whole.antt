-- What a stream is judged by of which only the verdict is asked. To be read beside docs/LIBRARY.md.
use Rattle.h264_base.specs.declared.mode.Mode.{Mode}
use Rattle.h264_base.specs.declared.mode.Mode.TheVariants as modes

-- the mode that judges as far as this one, and makes no frames
abbrev pub without_frames : Mode → Mode
without_frames modes.Units = modes.Units
without_frames modes.Headers = modes.Headers
without_frames modes.Verdict = modes.Verdict
without_frames modes.Full = modes.Verdict
