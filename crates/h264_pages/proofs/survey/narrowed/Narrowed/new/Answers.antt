use Rattle.h264_pages.proofs.Choosing.{took-first}
use Rattle.h264_pages.proofs.survey.narrowed.Narrowed.new.Goals as goal

pub returns-clause-took : goal.returns-clause-took
returns-clause-took g c h = took-first g.S.Elements.took c.args.choice c.new.result c.args.sink c.new.ensures h
