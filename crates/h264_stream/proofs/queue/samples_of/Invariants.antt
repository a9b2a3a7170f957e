use Rattle.std.specs.Prelude.{◌≡◌}
use Rattle.h264_dpb.specs.Shown.{width_in, height_in, cropped}
use Rattle.h264_lines.specs.Rows.{shows_all_columns, parts_before}
use Rattle.h264_stream.proofs.queue.samples_of.Given as goal

abbrev pub invariant-loop-k : goal.invariant-loop-k
invariant-loop-k l = l.samples.items ≡ parts_before (shows_all_columns l.rectangle) (width_in l.rectangle l.frame) (height_in l.rectangle l.frame)
    (cropped l.rectangle l.frame) l.k
