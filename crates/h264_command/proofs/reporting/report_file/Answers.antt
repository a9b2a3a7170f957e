use Rattle.h264_command.proofs.Texts.{page-taken}
use Rattle.h264_command.proofs.reporting.report_file.Goals as goal

pub returns-clause-text : goal.returns-clause-text
returns-clause-text g c = page-taken c.put_text.result _ _ _ c.put_text.ensures.text c.put_text.ensures.failed
