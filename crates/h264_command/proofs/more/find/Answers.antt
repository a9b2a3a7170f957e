use Rattle.std.proofs.Common.{refl, sym, ap, ◌∙◌}
use Rattle.h264_command.specs.Surveys.{surveys}
use Rattle.h264_command.proofs.Texts.{decode-text, list-text, no-text, report-text, some-map}
use Rattle.h264_command.proofs.more.find.Goals as goal

pub returns-in-Check-clause-text : goal.returns-in-Check-clause-text
returns-in-Check-clause-text g c = no-text c.check_file.result _ _ _ _ c.in-Check.is (λ bytes answer. refl)

pub returns-in-Decode-clause-text : goal.returns-in-Decode-clause-text
returns-in-Decode-clause-text g c = decode-text c.decode_file.result _ _ _ _ _ _ c.in-Decode.is c.decode_file.ensures.text

pub returns-in-Info-clause-text : goal.returns-in-Info-clause-text
returns-in-Info-clause-text g c = no-text c.info_file.result _ _ _ _ c.in-Info.is (λ bytes answer. refl)

pub returns-in-Report-clause-text : goal.returns-in-Report-clause-text
returns-in-Report-clause-text g c = report-text c.report_file.result _ _ _ _ _ _ c.in-Report.is c.report_file.ensures.text

pub returns-in_default-clause-text : goal.returns-in_default-clause-text
returns-in_default-clause-text g c = list-text c.list_file.result _ _ _ _ _ _ c.in_default.not-Check c.in_default.not-Decode c.in_default.not-Info
    c.in_default.not-Report c.list_file.ensures.text

pub returns-in-Check-clause-surveyed : goal.returns-in-Check-clause-surveyed
returns-in-Check-clause-surveyed g c = some-map _ _ c.check_file.result
    (λ found h e. h (sym (ap (λ task. surveys task c.args.job.now.options) c.in-Check.is) ∙ e)) c.check_file.ensures.surveyed

pub returns-in_default-clause-surveyed : goal.returns-in_default-clause-surveyed
returns-in_default-clause-surveyed g c = some-map _ _ c.list_file.result
    (λ found h e. h) c.list_file.ensures.surveyed
