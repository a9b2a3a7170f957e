-- What a mode asks for. To be read beside the standard.
use Rattle.h264_base.specs.declared.mode.Mode.{Mode}
use Rattle.h264_base.specs.declared.mode.Mode.TheVariants as modes
use Rattle.h264_picture.specs.declared.purpose.Purpose.{Purpose}
use Rattle.h264_picture.specs.declared.purpose.Purpose.TheVariants as purposes
use Rattle.h264_verify.specs.declared.state.Depth.{Depth}
use Rattle.h264_verify.specs.declared.state.Depth.TheVariants as depths

-- how far a stream is judged: for the verdict alone as far as for its frames
abbrev pub depth_of : Mode → Depth
depth_of modes.Units = depths.Units
depth_of modes.Headers = depths.Headers
depth_of modes.Verdict = depths.Full
depth_of modes.Full = depths.Full

-- what its pictures are decoded for, where slice data are read
abbrev pub purpose_for : Mode → Purpose
purpose_for modes.Units = purposes.Frames
purpose_for modes.Headers = purposes.Frames
purpose_for modes.Verdict = purposes.Verdict
purpose_for modes.Full = purposes.Frames
