use Rattle.std.proofs.Common.{◌≡◌, ◌<◌, ◌++◌, ◌∷◌, suc, length, take, drop, sym, ap, ◌∙◌, subst}
use Rattle.std.proofs.Math.Seq.{take-append_seam}
use Rattle.std.proofs.lemmas.Option.{none-some}
use Rattle.h264_stream.specs.Given.{IsGiven}
use Rattle.h264_stream.specs.Noted.{verdict_object}
use Rattle.h264_stream.specs.Sent.{sent_answer}
use Rattle.h264_stream.specs.declared.decoder.Standing.TheVariants.{Fallen}
use Rattle.h264_c.proofs.h264v_explain.Goals as goal

pub returns-in-Some-clause-object : goal.returns-in-Some-clause-object
returns-in-Some-clause-object c answer is long room =
    let there = c.deref.ensures ∙ c.into_box-stream.ensures in
    let at = subst (λ s. s.decoder.standing ≡ Fallen answer) (sym there) is in
    let o = c.in-Some.ensures.answered answer at in
    let same = c.as_str.ensures ∙ sym c.as_str-in-Some.ensures in
    let filled = c.put_text.ensures.fits (subst (λ l. length l < length c.args.buffer.now) (sym same) room) in
    let text = c.as_str.result.now in
    let rest = 0 ∷ drop (suc (length text)) c.args.buffer.now in (
      o.0,
      ap (λ l. take (length c.as_str-in-Some.result.now) l) filled ∙ ap (λ l. take (length l) (text ++ rest)) (sym same) ∙ take-append_seam text rest
          ∙ c.as_str.ensures ∙ o.1 ∙ ap (λ s. verdict_object (sent_answer s.decoder.codes.bits.items answer) o.0) there,
    )

pub returns-in-Some-clause-running : goal.returns-in-Some-clause-running
returns-in-Some-clause-running c terms before v =
    let given = subst (λ s. IsGiven terms s.decoder before) (sym (c.deref.ensures ∙ c.into_box-stream.ensures)) v in
    absurd (none-some c.in-Some.object (sym (c.in-Some.ensures.running terms before given)))
