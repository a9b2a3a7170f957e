use Rattle.h264_rbsp.proofs.Told.{none-checked, some-checked-at, none-along, first-along}
use Rattle.h264_rbsp.proofs.emulation.check_emulation.Goals as goal

pub returns-in-None-clause-value : goal.returns-in-None-clause-value
returns-in-None-clause-value c = none-checked c.args.unit.now.from c.args.unit.now.body (none-along _ _ c.body.ensures.value c.in-None.ensures.first)

pub returns-in-None-clause-ok : goal.returns-in-None-clause-ok
returns-in-None-clause-ok c = none-along _ _ c.body.ensures.value c.in-None.ensures.first

pub returns-in-Some-clause-value : goal.returns-in-Some-clause-value
returns-in-Some-clause-value c =
    some-checked-at c.args.unit.now.from c.from.result c.args.unit.now.body c.in-Some.place c.from.ensures.value
    (first-along _ _ _ c.body.ensures.value c.in-Some.ensures.first)
