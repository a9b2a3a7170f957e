use Rattle.std.proofs.Common.{inr}
use Rattle.h264_command.proofs.more.blame.Goals as goal

pub returns-in_default-clause-told : goal.returns-in_default-clause-told
returns-in_default-clause-told g c well = inr (c.put_blame.ensures.told well)
