use Rattle.std.proofs.Common.{arith}
use Rattle.std.proofs.lemmas.Bool.Decides.{nat_tests}
use Rattle.h264_deblock.proofs.Levels.{idle-alpha, idle-beta}
use Rattle.h264_deblock.proofs.limits.is_idle_at.Goals as goal

pub returns-then-level-eq0 : goal.returns-then-level-eq0
returns-then-level-eq0 c t e is = idle-alpha c.args.level.now e is c.if-level-eq0.true

pub returns-else-level-eq0 : goal.returns-else-level-eq0
returns-else-level-eq0 c t e is = idle-beta c.args.level.now e is (grind (t, arith, nat_tests))
