use Rattle.h264_verify.specs.Telling.{calls_of}
use Rattle.h264_verify.specs.Account.{calls_in}
use Rattle.h264_stream.proofs.Decoded.{waits-after}
use Rattle.h264_stream.proofs.decoder.Decoder.take_frame.Goals as goal

pub returns-clause-given : goal.returns-clause-given
returns-clause-given c terms bytes v =
    let d = v.decoding in
    let w = waits-after (calls_of d.frames d.told) c.take_frame.result c.take_frame.ensures.first c.take_frame.ensures.counted c.take_frame.ensures.kept
    d.waits in
    record {
      session = v.session;
      runs = v.runs;
      decoding = record { frames = d.frames; told = d.told; fed = d.fed; decoded = d.decoded; waits = w };
      counted = v.counted;
    }

pub returns-clause-answered : goal.returns-clause-answered
returns-clause-answered c terms bytes answer v =
    let d = v.decoded in
    let w = waits-after (calls_in d.account) c.take_frame.result c.take_frame.ensures.first c.take_frame.ensures.counted c.take_frame.ensures.kept d.waits in
    record { fallen = v.fallen; decoded = record { account = d.account; waits = w; no_read = d.no_read; no_write = d.no_write } }
