use Rattle.std.proofs.Common.{refl, sym, ◌∙◌}
use Rattle.h264_stream.proofs.Givens.{given-decoding}
use Rattle.h264_stream.proofs.decoder.Decoder.finish.Goals as goal

pub returns-in-Running-clause-grows : goal.returns-in-Running-clause-grows
returns-in-Running-clause-grows c terms bytes v =
    c.conclude_queue-answer.ensures.grows terms bytes (given-decoding (sym c.replace-open.ensures.value ∙ c.in-Running.is) v)

pub returns-in-Running-clause-told : goal.returns-in-Running-clause-told
returns-in-Running-clause-told c terms bytes v = record {
  answer = c.conclude_queue-answer.result;
  answered = record {
    fallen = refl;
    decoded = c.conclude_queue-answer.ensures.answers terms bytes (given-decoding (sym c.replace-open.ensures.value ∙ c.in-Running.is) v);
  };
  told_is = c.sent_answer-in-Running.ensures;
}
