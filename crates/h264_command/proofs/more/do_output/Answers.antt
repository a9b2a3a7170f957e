use Rattle.std.proofs.Common.{refl, sym, ◌∙◌, subst}
use Rattle.std.specs.Io.KnownBytes.{Keeps}
use Rattle.h264_report.proofs.Accounts.{of-kept}
use Rattle.h264_verify.specs.Units.{terms_of}
use Rattle.h264_command.specs.Files.{IsUnread, TellsFailure, left_of, was_read_by}
use Rattle.h264_command.specs.More.{IsAnswer}
use Rattle.h264_words.specs.Words.{mode_of}
use Rattle.h264_command.proofs.Failing.{opened, read-since}
use Rattle.h264_command.proofs.Further.{broken-kept, broken-same}
use Rattle.h264_command.proofs.Texts.{text-kept}
use Rattle.h264_command.proofs.ToldReads.{told-since}
use Rattle.h264_command.proofs.Writing.{told-aside, untold-aside}
use Rattle.h264_command.proofs.more.do_output.Goals as goal

pub returns-clause-answer : goal.returns-clause-answer
returns-clause-answer g c =
    let k = subst (λ name. Keeps (g.O.Opener.holds c.args.files.now.opener name) (left_of g.O.File.Read.remaining c.open.new.self.file.reader))
    c.system_name.ensures
    (opened c.open.result _ (sym c.is_err.ensures.value ∙ c.if-is_err.false) c.open.ensures.opened) in
    rw c.close_output.ensures.answer
    (of-kept _ _ (λ bytes. IsAnswer (terms_of (mode_of c.args.job.now.task) c.args.job.now.options.target) bytes c.judge_opened-done.result.ending.answer) k
    (rw c.make.ensures.file at c.judge_opened-done.ensures.answer))

pub returns-clause-broken : goal.returns-clause-broken
returns-clause-broken g c =
    let k = subst (λ name. Keeps (g.O.Opener.holds c.args.files.now.opener name) (left_of g.O.File.Read.remaining c.open.new.self.file.reader))
    c.system_name.ensures
    (opened c.open.result _ (sym c.is_err.ensures.value ∙ c.if-is_err.false) c.open.ensures.opened) in
    broken-same c.judge_opened-done.result c.close_output.result c.close_output.ensures.answer c.close_output.ensures.broken
    (broken-kept _ _ _ _ c.judge_opened-done.result k (rw c.make.ensures.file at c.judge_opened-done.ensures.broken))

pub returns-clause-read : goal.returns-clause-read
returns-clause-read g c e =
    let well = sym c.is_err.ensures.value ∙ c.if-is_err.false in
    let after = c.judge_opened-done.new.file in
    let told = rw c.close_output.ensures.answer at e in
    rw c.close_output.ensures.file
    (read-since (was_read_by after.reads after.failures) (opened c.open.result _ well c.open.ensures.kept) (opened c.open.result _ well c.open.ensures.reads)
    (subst (λ f. IsUnread f.failures f.reads after.failures after.reads) c.make.ensures.file (c.judge_opened-done.ensures.read told)))

pub returns-clause-read_told : goal.returns-clause-read_told
returns-clause-read_told g c =
    let after = c.judge_opened-done.new.file in
    rw (c.close_output.ensures.answer, c.close_output.ensures.file)
    (told-since (opened c.open.result _ (sym c.is_err.ensures.value ∙ c.if-is_err.false) c.open.ensures.kept)
    (subst (λ f. TellsFailure f.failures after.failures c.judge_opened-done.result.ending.answer) c.make.ensures.file c.judge_opened-done.ensures.read_told))

pub returns-then-is_err-clause-output : goal.returns-then-is_err-clause-output
returns-then-is_err-clause-output g c = untold-aside c.put_unjudged-done.result.ending (rw c.put_unjudged-done.ensures.answer refl)

pub returns-in-Err-clause-output : goal.returns-in-Err-clause-output
returns-in-Err-clause-output g c = untold-aside c.put_unjudged.result.ending (rw c.put_unjudged.ensures.answer refl)

pub returns-clause-output : goal.returns-clause-output
returns-clause-output g c =
    let k = subst (λ name. Keeps (g.O.Opener.holds c.args.files.now.opener name) (left_of g.O.File.Read.remaining c.open.new.self.file.reader))
    c.system_name.ensures
    (opened c.open.result _ (sym c.is_err.ensures.value ∙ c.if-is_err.false) c.open.ensures.opened) in
    told-aside g.O.Maker.goes_to g.O.Maker.is_finished g.O.Output.Write.contents c.args.output.now c.judge_opened-done.result.ending
    c.close_output.result.ending c.in-Ok.made c.new-device.result
    c.judge_opened-done.new.out _ c.in-Ok.ensures.named c.new-device.ensures.writer c.new-device.ensures.failed c.judge_opened-done.ensures.failures
    (rw (← c.close_output.ensures.answer) at (text-kept _ _ _ k (rw c.make.ensures.file at c.judge_opened-done.ensures.text)))
    c.close_output.ensures.whole c.close_output.ensures.finished
