use Rattle.std.proofs.Common.{subst}
use Rattle.h264_stream.specs.Decoding.{IsDecoding, HasGrown}
use Rattle.h264_stream.proofs.decoder.feed_queue.Goals as goal

pub returns-clause-grows : goal.returns-clause-grows
returns-clause-grows c terms bytes d =
    subst (λ q. IsDecoding terms c.args.session.now bytes q.handed_out q.waiting.items →
    HasGrown q.handed_out q.waiting.items c.feed-fed.result.queue.handed_out c.feed-fed.result.queue.waiting.items)
    c.take_all.ensures (c.feed-fed.ensures.grows terms bytes) d
