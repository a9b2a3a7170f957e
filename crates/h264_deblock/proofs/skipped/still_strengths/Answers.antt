use Rattle.std.proofs.Common.{true, false, refl}
use Rattle.h264_deblock.proofs.Skips.{skip-lines}
use Rattle.h264_deblock.proofs.skipped.still_strengths.Goals as goal

pub returns-clause-still : goal.returns-clause-still
returns-clause-still c = record { vertical = refl; horizontal = refl }

pub returns-clause-vertical : goal.returns-clause-vertical
returns-clause-vertical c own coded s = skip-lines true own coded s

pub returns-clause-horizontal : goal.returns-clause-horizontal
returns-clause-horizontal c own coded s = skip-lines false own coded s
