use Rattle.std.specs.Prelude.{◌≡◌, length, None}
use Rattle.h264_dpb.specs.Shown.{width_in, height_in, cropped}
use Rattle.h264_lines.specs.Rows.{shows_all_columns, parts_before}
use Rattle.h264_compare.specs.Given.{Compares}
use Rattle.h264_compare.specs.Stands.{stands}
use Rattle.h264_compare.proofs.comparing.Comparison.compare_shown.Given as goal

abbrev pub invariant-loop-k : goal.invariant-loop-k
invariant-loop-k g l =
    let made = parts_before (shows_all_columns l.rectangle) (width_in l.rectangle l.frame) (height_in l.rectangle l.frame) (cropped l.rectangle l.frame) l.k in
    Compares l.shown 0 (stands g.R.Read.remaining l.fn.self) (stands g.R.Read.remaining l.self) made l.differs None × (l.byte ≡ length made)
