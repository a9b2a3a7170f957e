use Rattle.std.proofs.Common.{refl}
use Rattle.h264_base.proofs.Steps.{bind, stop, done}
use Rattle.h264_sps.specs.Vui.{video_signal_type}
use Rattle.h264_sps.proofs.Ways.{passed-on}
use Rattle.h264_sps.proofs.vui.read_video_signal_type.Goals as goal

pub returns-in_err-format : goal.returns-in_err-format
unfolding video_signal_type
returns-in_err-format g c = passed-on _ c.from_residual.ensures.1 (stop _ c.in_err-format.ensures.meets)

pub returns-in_err-full_range : goal.returns-in_err-full_range
unfolding video_signal_type
returns-in_err-full_range g c = passed-on _ c.from_residual-in_err-full_range.ensures.1
    (bind _ c.in_ok-format.ensures.meets (stop _ c.in_err-full_range.ensures))

pub returns-in_err-present : goal.returns-in_err-present
unfolding video_signal_type
returns-in_err-present g c = passed-on _ c.from_residual-in_err-present.ensures.1
    (bind _ c.in_ok-format.ensures.meets (bind _ c.in_ok-full_range.ensures (stop _ c.in_err-present.ensures)))

pub returns-in_err-description : goal.returns-in_err-description
unfolding video_signal_type
returns-in_err-description g c = passed-on _ c.from_residual-in_err-description.ensures.1
    (bind _ c.in_ok-format.ensures.meets (bind _ c.in_ok-full_range.ensures (bind _ c.in_ok-present.ensures (stop _ c.in_err-description.ensures))))

pub returns : goal.returns
unfolding video_signal_type
returns g c = bind _ c.in_ok-format.ensures.meets
    (bind _ c.in_ok-full_range.ensures (bind _ c.in_ok-present.ensures (bind _ c.in_ok-description.ensures (done _ _ _ _ _ _ _ refl))))
