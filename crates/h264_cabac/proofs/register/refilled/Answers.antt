use Rattle.h264_cabac.proofs.Registers.{longer-stands}
use Rattle.h264_cabac.proofs.Parts.{shift-fits}
use Rattle.h264_cabac.proofs.register.refilled.Goals as goal

pub returns-clause-same : goal.returns-clause-same
returns-clause-same c =
    let l = longer-stands c.args.bytes.now c.args.r c.load-next.result c.if-r-ge-ENOUGH.false c.load-next.ensures c.requires in
    rw (shift-fits c.args.bytes.now c.args.r c.if-r-ge-ENOUGH.false c.requires, l.same)

pub returns-clause-stands : goal.returns-clause-stands
returns-clause-stands c =
    let l = longer-stands c.args.bytes.now c.args.r c.load-next.result c.if-r-ge-ENOUGH.false c.load-next.ensures c.requires in
    rw (shift-fits c.args.bytes.now c.args.r c.if-r-ge-ENOUGH.false c.requires) l.stands
