use Rattle.std.proofs.Common.{refl}
use Rattle.h264_command.proofs.command.put_unread.Goals as goal

pub returns-clause-answer : goal.returns-clause-answer
returns-clause-answer g c = c.put_answer.ensures.read refl

pub returns-clause-says : goal.returns-clause-says
returns-clause-says g c = rw (c.put_answer.ensures.read refl) at c.put_answer.ensures.text
