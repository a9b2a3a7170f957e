use Rattle.h264_lines.proofs.line_sink.LineSink.put_line.Goals as goal

pub returns-in-Ok-clause-blamed : goal.returns-in-Ok-clause-blamed
returns-in-Ok-clause-blamed g c = rw c.requires.whole c.in-Ok.ensures.quiet
