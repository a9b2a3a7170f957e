use Rattle.std.specs.Prelude.{◌≡◌}
use Rattle.h264_lines.specs.Sent.{Sends}
use Rattle.h264_dpb.specs.Shown.{width_in, height_in, cropped}
use Rattle.h264_lines.specs.Rows.{shows_all_columns, parts_before}
use Rattle.h264_lines.proofs.frames.send_frame.Given as goal

abbrev pub invariant-loop-k : goal.invariant-loop-k
invariant-loop-k g l = Sends (g.W.Device.contents l.fn.out) (g.W.Device.contents l.out)
    (parts_before (shows_all_columns l.rectangle) (width_in l.rectangle l.frame) (height_in l.rectangle l.frame) (cropped l.rectangle l.frame) l.k) ×
    (g.W.Device.has_failed l.out ≡ g.W.Device.has_failed l.fn.out)
