use Rattle.std.proofs.Common.{sym, ap, ◌∙◌, subst}
use Rattle.h264_stream.specs.Given.{IsGiven}
use Rattle.h264_c.proofs.h264v_finish.Goals as goal

pub returns : goal.returns
returns c terms before v =
    let same = c.deref_mut.ensures.value ∙ c.into_box-stream.ensures in
    let given = subst (λ s. IsGiven terms s.decoder before) (sym same) v in
    let codes = c.finish-answer.ensures.codes ∙ ap (λ s. s.decoder.codes.bits.items) same in
    (c.finish-answer.result, c.finish-answer.new.self, c.verdict_of.ensures, c.finish-answer.ensures.told terms before given, codes)
