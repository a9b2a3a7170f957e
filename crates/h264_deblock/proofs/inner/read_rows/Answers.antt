use Rattle.h264_deblock.proofs.inner.read_rows.Goals as goal

pub returns-clause-cb : goal.returns-clause-cb
returns-clause-cb c n i = record {
  p1 = c.read_pair.ensures.cb n i;
  p0 = c.read_pair-2.ensures.cb n i;
  q0 = c.read_pair-3.ensures.cb n i;
  q1 = c.read_pair-4.ensures.cb n i;
}

pub returns-clause-cr : goal.returns-clause-cr
returns-clause-cr c n i = record {
  p1 = c.read_pair.ensures.cr n i;
  p0 = c.read_pair-2.ensures.cr n i;
  q0 = c.read_pair-3.ensures.cr n i;
  q1 = c.read_pair-4.ensures.cr n i;
}
