use Rattle.h264_stream.proofs.decoder.Decoder.give_back.Goals as goal

pub returns-clause-given : goal.returns-clause-given
returns-clause-given c terms bytes v = record {
  session = v.session;
  runs = v.runs;
  decoding = rw (c.give_back.ensures.waiting, c.give_back.ensures.handed_out) v.decoding;
  counted = v.counted;
}

pub returns-clause-answered : goal.returns-clause-answered
returns-clause-answered c terms bytes answer v =
    record { fallen = v.fallen; decoded = rw (c.give_back.ensures.waiting, c.give_back.ensures.handed_out) v.decoded }
