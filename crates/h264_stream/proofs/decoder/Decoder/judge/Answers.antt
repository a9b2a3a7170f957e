use Rattle.std.proofs.Common.{refl}
use Rattle.h264_stream.proofs.Givens.{given-decoding, counted-more}
use Rattle.h264_stream.proofs.decoder.Decoder.judge.Goals as goal

pub returns-in-None-clause-grows : goal.returns-in-None-clause-grows
returns-in-None-clause-grows c terms bytes v = c.feed_queue.ensures.grows terms bytes (given-decoding c.in-Running.is v)

pub returns-clause-grows : goal.returns-clause-grows
returns-clause-grows c terms bytes v = c.feed_queue.ensures.grows terms bytes (given-decoding c.in-Running.is v)

pub returns-in-None-clause-given : goal.returns-in-None-clause-given
returns-in-None-clause-given c terms bytes v = record {
  session = c.feed_queue.new.session;
  runs = refl;
  decoding = rw c.in-None.is at (c.feed_queue.ensures.goes terms bytes (given-decoding c.in-Running.is v));
  counted = counted-more bytes c.args.piece.now v.counted c.pass.ensures.judged;
}

pub returns-clause-answered : goal.returns-clause-answered
returns-clause-answered c terms bytes v later =
    record { fallen = refl; decoded = c.in-Some.ensures.answers terms bytes (given-decoding c.in-Running.is v) later }
