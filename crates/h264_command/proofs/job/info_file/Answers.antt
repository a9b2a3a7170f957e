use Rattle.std.proofs.Common.{sym, subst}
use Rattle.h264_command.specs.Files.{left_of}
use Rattle.h264_command.specs.Surveys.{IsSurveyed}
use Rattle.h264_command.specs.declared.job.Found.{Found}
use Rattle.h264_command.proofs.Texts.{some-map}
use Rattle.h264_command.proofs.job.info_file.Goals as goal

pub returns-in_default-info_text-clause-surveyed : goal.returns-in_default-info_text-clause-surveyed
returns-in_default-info_text-clause-surveyed g c = some-map _ _ c.if_unread.result
    (λ found same. subst (λ (f : Found). IsSurveyed c.args.job.now (left_of g.F.Read.remaining c.args.file.now.reader) f.answer f.survey) (sym same)
    (c.judge-surveyed.ensures.surveyed tt)) c.if_unread.ensures.same

pub returns-clause-surveyed : goal.returns-clause-surveyed
returns-clause-surveyed g c = c.judge-surveyed.ensures.surveyed tt
