use Rattle.h264_command.proofs.Further.{broken-told, no-verdict, told-answer}
use Rattle.h264_command.proofs.ToldReads.{told-kept}
use Rattle.h264_command.specs.Commands.{output_of}
use Rattle.h264_command.proofs.Texts.{judged-text, unjudged-text}
use Rattle.h264_command.proofs.Writing.{read-told, rest-sent, writes-told}
use Rattle.h264_command.proofs.more.judge_opened.Goals as goal

pub returns-clause-broken : goal.returns-clause-broken
returns-clause-broken g c =
    broken-told c.in-Some.found.strict _ _ _ c.is_cut_off-broke_off.result c.in-Some.found.answer c.told_answer-found.result c.put_answer.result
    c.in-Some.ensures.further c.told_answer-found.ensures c.put_answer.ensures.answer
    c.put_answer.ensures.broken c.put_answer.ensures.unbroken

pub returns-clause-read : goal.returns-clause-read
returns-clause-read g c e =
    c.in-Some.ensures.read (read-told c.is_cut_off-broke_off.result c.in-Some.found.answer c.told_answer-found.result c.put_answer.result.ending.answer
    c.told_answer-found.ensures c.put_answer.ensures.answer e)

pub returns-clause-read_told : goal.returns-clause-read_told
returns-clause-read_told g c = told-kept c.is_cut_off-broke_off.result c.told_answer-found.ensures c.put_answer.ensures.read c.put_answer.ensures.write
    c.in-Some.ensures.read_told

pub returns-clause-failures : goal.returns-clause-failures
returns-clause-failures g c =
    writes-told c.in-Some.found.answer c.is_cut_off-broke_off.ensures.cut c.is_cut_off-broke_off.ensures.whole c.did_fail-failed.ensures
    c.told_answer-found.ensures c.put_answer.ensures.answer c.put_answer.ensures.write
    (rest-sent c.send_rest.result _ _ c.send_rest.ensures.handed_over c.send_rest.ensures.failed) c.put_answer.ensures.devices

pub returns-in_default-clause-text : goal.returns-in_default-clause-text
returns-in_default-clause-text g c =
    let none = no-verdict c.did_fail-failed.result _ c.stop_of.ensures in
    rw c.put_no_verdict.ensures.answer (unjudged-text _ _ _ none (rw c.in_default.ensures.untouched at c.send_rest.ensures.kept)
    (c.put_no_verdict.ensures.text none))

pub returns-clause-text : goal.returns-clause-text
returns-clause-text g c =
    judged-text _ c.send_rest.result _ (output_of g.W.Device.contents g.W.Device.has_failed g.W.Device.holds_back c.send_rest.new.self) _
    (told-answer c.is_cut_off-broke_off.result c.in-Some.found.answer c.told_answer-found.result c.put_answer.result.ending.answer
    c.told_answer-found.ensures c.put_answer.ensures.answer) c.in-Some.ensures.text c.send_rest.ensures.kept c.send_rest.ensures.quiet
    c.send_rest.ensures.failed c.put_answer.ensures.devices.kept c.put_answer.ensures.text
