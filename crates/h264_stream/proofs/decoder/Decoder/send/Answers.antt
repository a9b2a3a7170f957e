use Rattle.h264_stream.proofs.decoder.Decoder.send.Goals as goal

pub returns-clause-told : goal.returns-clause-told
returns-clause-told c terms bytes v later =
    record { answer = c.in_ok-answer.answer; answered = c.in_ok-answer.ensures.answered terms bytes v later; told_is = c.sent_answer.ensures }
