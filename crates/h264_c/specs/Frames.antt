-- What C reads of a frame. To be read beside include/h264v.h.
use Rattle.std.specs.Prelude.{◌≡◌, ◌<◌, ◌^◌, length}
use Rattle.std.specs.Vec.{vec_ptr}
use Rattle.h264_c.specs.declared.frame.CFrame.{CFrame}
use Rattle.h264_stream.specs.declared.queue.ShownFrame.{ShownFrame}

-- The fields are those of this frame, whose samples they point to. A side has 32 bits, which hold those of every stream.
pub record IsFrame (shown : ShownFrame) (frame : CFrame) : Type 0 where
  pub samples : frame.samples ≡ vec_ptr shown.samples
  pub size : frame.size ≡ length shown.samples.items
  pub count : frame.count ≡ shown.count
  pub width : shown.width < 2 ^ 32 → frame.width ≡ shown.width
  pub height : shown.height < 2 ^ 32 → frame.height ≡ shown.height
