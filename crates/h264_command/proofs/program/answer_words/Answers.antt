use Rattle.h264_command.specs.More.{Plain, More}
use Rattle.h264_command.proofs.Statuses.{moved}
use Rattle.h264_command.proofs.program.answer_words.Goals as goal

pub run_more-requires : goal.run_more-requires
run_more-requires g c = rw (c.command.ensures.kept c.in-More.wanted c.in-More.is) c.requires

pub returns-in-Fault : goal.returns-in-Fault
returns-in-Fault g c = Plain _ c.in-Fault.ensures.comes

pub returns-in-Done : goal.returns-in-Done
returns-in-Done g c = Plain _ c.in-Done.ensures.comes

pub returns-in-More : goal.returns-in-More
returns-in-More g c =
    let comes = c.in-More.ensures.comes in
    let request = c.in-More.wanted.request in
    More _ request.task request.file.now comes.0
    (moved comes.1 comes.2 comes.3 (rw (c.command.ensures.kept c.in-More.wanted c.in-More.is) at c.run_more.ensures))
