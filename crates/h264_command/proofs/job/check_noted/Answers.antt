use Rattle.h264_report.proofs.Accounts.{none-elements}
use Rattle.h264_command.proofs.job.check_noted.Goals as goal

pub check_with-requires-clause-none : goal.check_with-requires-clause-none
check_with-requires-clause-none g c = none-elements _ c.in-Ok.ensures
