use Rattle.h264_sps.proofs.Ways.{absent, there}
use Rattle.h264_sps.proofs.vui.read_low_delay.Goals as goal

pub returns-then-not-present : goal.returns-then-not-present
returns-then-not-present g c = absent _ c.if-not-present.true

pub returns : goal.returns
returns g c = there c.if-not-present.false c.there.ensures c.flag_value.ensures
