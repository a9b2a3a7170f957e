use Rattle.std.proofs.Common.{◌+◌, [], false, refl, sym, ap, ◌∙◌, subst, inl}
use Rattle.h264_report.proofs.Accounts.{of-kept}
use Rattle.h264_verify.specs.Units.{terms_of}
use Rattle.h264_command.specs.Files.{left_of}
use Rattle.h264_command.specs.Further.{IsFound}
use Rattle.h264_words.specs.Options.{asks_further}
use Rattle.h264_command.specs.More.{IsAnswer}
use Rattle.h264_command.specs.Texts.{IsTextOf, opening_in}
use Rattle.h264_words.specs.Words.{mode_of}
use Rattle.h264_command.proofs.Answered.{or-memory}
use Rattle.h264_command.proofs.Further.{broken-kept, broken-told, told-answer, told-plainly}
use Rattle.h264_command.proofs.ToldReads.{told-kept, told-since}
use Rattle.h264_command.proofs.Reopened.{held-still, opened-again, opened-as, read-after}
use Rattle.h264_command.proofs.Texts.{text-alone, text-kept}
use Rattle.h264_command.proofs.Writing.{read-told, writes-untold}
use Rattle.h264_command.proofs.more.do_file.Goals as goal

-- ---- judged once, with notes

pub returns-then-not-is_glanced_at-clause-answer : goal.returns-then-not-is_glanced_at-clause-answer
returns-then-not-is_glanced_at-clause-answer g c =
    let k = opened-as g.O.Opener.holds _ _ c.system_name-name.ensures c.in_default.ensures.opened in
    of-kept _ _ (λ bytes. IsAnswer (terms_of (mode_of c.args.job.now.task) c.args.job.now.options.target) bytes c.judge_opened.result.ending.answer) k
    c.judge_opened.ensures.answer

pub returns-then-not-is_glanced_at-clause-broken : goal.returns-then-not-is_glanced_at-clause-broken
returns-then-not-is_glanced_at-clause-broken g c =
    let k = opened-as g.O.Opener.holds _ _ c.system_name-name.ensures c.in_default.ensures.opened in
    broken-kept _ _ _ _ c.judge_opened.result k c.judge_opened.ensures.broken

pub returns-then-not-is_glanced_at-clause-read : goal.returns-then-not-is_glanced_at-clause-read
returns-then-not-is_glanced_at-clause-read g c e = read-after _ c.in_default.ensures.kept (c.judge_opened.ensures.read e)

pub returns-then-not-is_glanced_at-clause-read_told : goal.returns-then-not-is_glanced_at-clause-read_told
returns-then-not-is_glanced_at-clause-read_told g c = told-since c.in_default.ensures.kept c.judge_opened.ensures.read_told

pub returns-then-not-is_glanced_at-clause-text : goal.returns-then-not-is_glanced_at-clause-text
returns-then-not-is_glanced_at-clause-text g c =
    let k = opened-as g.O.Opener.holds _ _ c.system_name-name.ensures c.in_default.ensures.opened in
    text-kept _ _ _ k c.judge_opened.ensures.text

-- ---- told at the first reading

pub returns-in-Some-clause-answer : goal.returns-in-Some-clause-answer
returns-in-Some-clause-answer g c =
    let k = opened-as g.O.Opener.holds _ _ c.system_name-name.ensures c.in_default.ensures.opened in
    of-kept _ _ (λ bytes. IsAnswer (terms_of (mode_of c.args.job.now.task) c.args.job.now.options.target) bytes c.put_answer.result.ending.answer) k
    (or-memory c.args.job.now.task c.args.job.now.options.target _ c.in-Some.found.answer _ c.put_answer.ensures.answer c.in-Some.ensures.answer)

pub returns-in-Some-clause-broken : goal.returns-in-Some-clause-broken
returns-in-Some-clause-broken g c =
    let k = opened-as g.O.Opener.holds _ _ c.system_name-name.ensures c.in_default.ensures.opened in
    let further = subst (λ task. IsFound (asks_further task c.args.job.now.options.strict)
    (terms_of (mode_of c.args.job.now.task) c.args.job.now.options.target) (left_of g.O.File.Read.remaining c.open.new.self.file.reader)
    c.in-Some.found.answer c.in-Some.found.strict) (sym (c.if-not-is_glanced_at.ensures refl)) c.in-Some.ensures.further in
    broken-kept _ _ _ _ c.put_answer.result k (broken-told c.in-Some.found.strict _ _ _ false c.in-Some.found.answer c.in-Some.found.answer c.put_answer.result
    further (told-plainly c.in-Some.found.answer c.in-Some.ensures.write) c.put_answer.ensures.answer c.put_answer.ensures.broken
    c.put_answer.ensures.unbroken)

pub returns-in-Some-clause-read : goal.returns-in-Some-clause-read
returns-in-Some-clause-read g c e = read-after _ c.in_default.ensures.kept (c.in-Some.ensures.read (read-told false c.in-Some.found.answer
    c.in-Some.found.answer c.put_answer.result.ending.answer (told-plainly c.in-Some.found.answer c.in-Some.ensures.write) c.put_answer.ensures.answer e))

pub returns-in-Some-clause-read_told : goal.returns-in-Some-clause-read_told
returns-in-Some-clause-read_told g c = told-since c.in_default.ensures.kept
    (told-kept false (told-plainly c.in-Some.found.answer c.in-Some.ensures.write) c.put_answer.ensures.read c.put_answer.ensures.write
    c.in-Some.ensures.read_told)

pub returns-in-Some-clause-failures : goal.returns-in-Some-clause-failures
returns-in-Some-clause-failures g c = writes-untold c.in-Some.ensures.write c.put_answer.ensures.answer c.put_answer.ensures.devices

pub returns-in-Some-clause-text : goal.returns-in-Some-clause-text
returns-in-Some-clause-text g c =
    let k = opened-as g.O.Opener.holds _ _ c.system_name-name.ensures c.in_default.ensures.opened in
    text-kept _ _ _ k (text-alone _ c.in-Some.found.answer _
    (λ bytes. subst (λ task. IsTextOf task c.args.job.now.options
    (opening_in c.args.job.now.options.json c.args.job.now.file.now c.args.job.now.prefix.now) bytes c.in-Some.found.answer [])
    (sym (c.if-not-is_glanced_at.ensures refl)) refl)
    (told-answer false c.in-Some.found.answer c.in-Some.found.answer c.put_answer.result.ending.answer
    (told-plainly c.in-Some.found.answer c.in-Some.ensures.write) c.put_answer.ensures.answer) c.put_answer.ensures.text)

-- ---- judged once more

pub returns-in-Ok-clause-answer : goal.returns-in-Ok-clause-answer
returns-in-Ok-clause-answer g c =
    let same = held-still g.O.Opener.holds c.in_default-glance_at.ensures.opener c.in_default.ensures.holds in
    let k = opened-again g.O.Opener.holds _ _ same c.system_name-name.ensures c.in-Ok.ensures.opened in
    of-kept _ _ (λ bytes. IsAnswer (terms_of (mode_of c.args.job.now.task) c.args.job.now.options.target) bytes c.judge_opened-in-Ok.result.ending.answer) k
    c.judge_opened-in-Ok.ensures.answer

pub returns-in-Ok-clause-broken : goal.returns-in-Ok-clause-broken
returns-in-Ok-clause-broken g c =
    let same = held-still g.O.Opener.holds c.in_default-glance_at.ensures.opener c.in_default.ensures.holds in
    let k = opened-again g.O.Opener.holds _ _ same c.system_name-name.ensures c.in-Ok.ensures.opened in
    broken-kept _ _ _ _ c.judge_opened-in-Ok.result k c.judge_opened-in-Ok.ensures.broken

pub returns-in-Ok-clause-read : goal.returns-in-Ok-clause-read
returns-in-Ok-clause-read g c e = read-after _ (c.in-Ok.ensures.kept ∙ c.in_default-glance_at.ensures.unread ∙ c.in_default.ensures.kept)
    (c.judge_opened-in-Ok.ensures.read e)

pub returns-in-Ok-clause-read_told : goal.returns-in-Ok-clause-read_told
returns-in-Ok-clause-read_told g c = told-since (c.in-Ok.ensures.kept ∙ c.in_default-glance_at.ensures.unread ∙ c.in_default.ensures.kept)
    c.judge_opened-in-Ok.ensures.read_told

pub returns-in-Ok-clause-text : goal.returns-in-Ok-clause-text
returns-in-Ok-clause-text g c =
    let same = held-still g.O.Opener.holds c.in_default-glance_at.ensures.opener c.in_default.ensures.holds in
    let k = opened-again g.O.Opener.holds _ _ same c.system_name-name.ensures c.in-Ok.ensures.opened in
    text-kept _ _ _ k c.judge_opened-in-Ok.ensures.text

pub returns-in-Ok-clause-holds : goal.returns-in-Ok-clause-holds
returns-in-Ok-clause-holds g c name = c.in-Ok.ensures.holds name ∙
    held-still g.O.Opener.holds c.in_default-glance_at.ensures.opener c.in_default.ensures.holds name

pub returns-in-Err-open_again-clause-read : goal.returns-in-Err-open_again-clause-read
returns-in-Err-open_again-clause-read g c e = inl
    (c.in-Err-open_again.ensures.failed ∙ ap (λ n. n + 1) (c.in_default-glance_at.ensures.unread ∙ c.in_default.ensures.kept))
