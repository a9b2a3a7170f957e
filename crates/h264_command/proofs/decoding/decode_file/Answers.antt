use Rattle.h264_command.proofs.decoding.decode_file.Goals as goal

pub returns-then-job-clause-text : goal.returns-then-job-clause-text
returns-then-job-clause-text g c = rw c.if-job.true c.decode_framed.ensures.text

pub returns-clause-text : goal.returns-clause-text
returns-clause-text g c = rw c.if-job.false c.decode_bare.ensures.text
