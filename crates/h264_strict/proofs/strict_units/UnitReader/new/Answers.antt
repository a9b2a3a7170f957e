use Rattle.h264_strict.proofs.Broken.{none-found}
use Rattle.h264_strict.proofs.Units.{took-nothing}
use Rattle.h264_strict.proofs.strict_units.UnitReader.new.Goals as goal

pub returns : goal.returns
returns c = took-nothing c.new.result _ c.new.ensures c.new-2.ensures (λ rule. none-found rule)
