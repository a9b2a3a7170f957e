use Rattle.h264_cabac.proofs.Parts.{range-fits, left-offset, left-stands}
use Rattle.h264_cabac.proofs.register.without.Goals as goal

pub returns-clause-same : goal.returns-clause-same
returns-clause-same c bytes =
    let r = c.args.r in
    rw (range-fits c.args.rest r.ahead c.requires.rest c.requires.few, left-offset r.number c.args.rest r.ahead c.requires.enough)

pub returns-clause-stands : goal.returns-clause-stands
returns-clause-stands c bytes is =
    let r = c.args.r in
    rw (range-fits c.args.rest r.ahead c.requires.rest c.requires.few)
    (left-stands bytes r c.args.rest c.args.range c.requires.enough c.requires.below c.requires.high is)
