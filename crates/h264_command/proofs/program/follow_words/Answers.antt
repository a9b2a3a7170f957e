use Rattle.std.proofs.Common.{Some, ap, subst, sym, ◌∙◌}
use Rattle.h264_report.specs.Written.{status_of}
use Rattle.h264_command.specs.Lists.{StandsFor, texts_in}
use Rattle.h264_command.specs.More.{Asked, Listed, NoWords}
use Rattle.h264_command.proofs.program.follow_words.Goals as goal

pub returns-in-Ok-None : goal.returns-in-Ok-None
returns-in-Ok-None g c =
    let none = c.in-Ok-None.field-0-is in
    let untold = rw none at c.in-Ok-None.ensures.untold in
    Asked (rw none at c.in-Ok-None.ensures.unlisted) (rw untold at c.answer_words.ensures)

pub returns-in-Ok-Some-Words : goal.returns-in-Ok-Some-Words
returns-in-Ok-Some-Words g c =
    let some = c.in-Ok-Some-Words.field-0-is ∙ ap (λ l. Some l) c.in-Ok-Some-Words.field-0-0-is in
    let plain = rw some at c.in-Ok-Some-Words.ensures.plain in
    let same = ap texts_in c.as_slice.ensures.value in
    Listed (rw some at c.in-Ok-Some-Words.ensures.listed) (texts_in c.as_slice.result.now)
    (subst (λ l. StandsFor l (texts_in c.args.words.now)) (sym same) plain) _ c.answer_words-in-Ok-Some-Words.ensures

pub returns-in-Err : goal.returns-in-Err
returns-in-Err g c =
    NoWords c.put_memory.result.written (c.status.ensures ∙ ap (λ answer. status_of c.put_memory.result.written answer) c.put_memory.ensures.answer)
    c.put_memory.ensures.handed_over c.put_memory.ensures.text
