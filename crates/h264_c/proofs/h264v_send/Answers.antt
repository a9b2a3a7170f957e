use Rattle.std.proofs.Common.{sym, ap, ◌∙◌, subst}
use Rattle.h264_stream.specs.Given.{IsGiven}
use Rattle.h264_c.proofs.h264v_send.Goals as goal

pub returns-in-Some-clause-verdict : goal.returns-in-Some-clause-verdict
returns-in-Some-clause-verdict c terms before v is =
    let same = c.deref_mut.ensures.value ∙ c.into_box-stream.ensures in
    let given = subst (λ s. IsGiven terms s.decoder before) (sym same) v in
    let codes = c.send-answer.ensures.codes ∙ ap (λ s. s.decoder.codes.bits.items) same in
    (c.in-Some.answer, c.send-answer.new.self, c.verdict_of.ensures, c.in-Some.ensures.told terms before given, codes)
