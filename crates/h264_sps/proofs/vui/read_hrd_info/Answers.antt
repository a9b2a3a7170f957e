use Rattle.h264_base.proofs.Steps.{bind, stop}
use Rattle.h264_sps.specs.Vui.{flagged}
use Rattle.h264_sps.proofs.Ways.{absent, there}
use Rattle.h264_sps.proofs.vui.read_hrd_info.Goals as goal

pub returns-in-Ok-true : goal.returns-in-Ok-true
unfolding flagged
returns-in-Ok-true g c = bind _ c.in-Ok-true.ensures (there c.in-Ok-true.field-0-test c.there.ensures c.read_hrd.ensures)

pub returns-in-Ok-false : goal.returns-in-Ok-false
unfolding flagged
returns-in-Ok-false g c = bind _ c.in-Ok-false.ensures (absent _ c.in-Ok-false.field-0-test)

pub returns-in-Err : goal.returns-in-Err
unfolding flagged
returns-in-Err g c = stop _ c.in-Err.ensures
