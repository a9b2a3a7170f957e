use Rattle.std.proofs.Common.{refl}
use Rattle.h264_stream.proofs.Decoded.{begins}
use Rattle.h264_stream.proofs.decoder.Decoder.new.Goals as goal

pub returns-clause-given : goal.returns-clause-given
returns-clause-given c = record {
  session = c.in_ok-session.session;
  runs = refl;
  decoding = begins c.in_ok-session.ensures.fed c.new-2.ensures.handed_out c.new-2.ensures.waiting;
  counted = λ _. c.new-4.ensures.judged;
}
