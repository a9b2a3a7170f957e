use Rattle.h264_command.proofs.Told.{taken, nothing-held}
use Rattle.h264_command.proofs.command.refused.Goals as goal

pub returns-clause-handed_over : goal.returns-clause-handed_over
returns-clause-handed_over g c = nothing-held c.put_text.result _ _ c.put_text.ensures.handed_over c.put_text.ensures.failed

pub returns-clause-told : goal.returns-clause-told
returns-clause-told g c none = taken c.put_text.result _ c.put_text.ensures.text c.put_text.ensures.failed none
