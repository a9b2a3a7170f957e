use Rattle.std.proofs.Common.{◌*◌, ◌++◌, [], ◌∷◌, length, sym, ap, ◌∙◌, subst}
use Rattle.h264_stream.specs.Given.{IsGiven}
use Rattle.h264_c.proofs.h264v_send_unit.Goals as goal

pub returns-in-Ok-None-clause-unit : goal.returns-in-Ok-None-clause-unit
returns-in-Ok-None-clause-unit c terms before v sent =
    let given = subst (λ s. IsGiven terms s.decoder before) (sym (c.deref_mut.ensures.value ∙ c.into_box-stream.ensures)) v in
    rw c.in-Ok-None.is at (c.send_unit-sent.ensures.unit terms before given)

pub returns-in-Ok-Some-clause-unit : goal.returns-in-Ok-Some-clause-unit
returns-in-Ok-Some-clause-unit c terms before v sent =
    let given = subst (λ s. IsGiven terms s.decoder before) (sym (c.deref_mut.ensures.value ∙ c.into_box-stream.ensures)) v in
    rw c.in-Ok-Some.is at (c.send_unit-sent.ensures.unit terms before given)

pub returns-in-Ok-Some-clause-verdict : goal.returns-in-Ok-Some-clause-verdict
returns-in-Ok-Some-clause-verdict c terms before v is =
    let same = c.deref_mut.ensures.value ∙ c.into_box-stream.ensures in
    let given = subst (λ s. IsGiven terms s.decoder before) (sym same) v in
    let found = rw c.in-Ok-Some.is at c.in-Ok-Some.field-0-is in
    let told = rw (c.in-Ok-Some.is, found) at (c.send_unit-sent.ensures.told terms before given) in
    let put = rw c.in-Ok-Some.is at (c.send_unit-sent.ensures.codes terms before given) in
    let codes = ap (λ s. s.decoder.codes.bits.items ++ 8 * length before ∷ []) same in
    (c.in-Ok-Some.answer, c.send_unit-sent.new.self, c.verdict_of.ensures, told, λ short. put short ∙ codes)
