use Rattle.h264_write.proofs.Escapes.{escaped-body, escaped-rbsp}
use Rattle.h264_write.proofs.escape.unit.Goals as goal

pub returns-clause-body : goal.returns-clause-body
returns-clause-body c = rw c.in_ok-body.ensures (escaped-body c.args.header c.args.rbsp.now c.requires.header c.requires.some c.requires.last)

pub returns-clause-rbsp : goal.returns-clause-rbsp
returns-clause-rbsp c = rw c.in_ok-body.ensures (escaped-rbsp c.args.rbsp.now)
