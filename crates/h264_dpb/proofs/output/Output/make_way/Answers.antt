use Rattle.std.proofs.Common.{sym, ◌∙◌}
use Rattle.h264_dpb.proofs.Answering.{way-writes, way-keeps, way-stays, way-none}
use Rattle.h264_dpb.proofs.output.Output.make_way.Goals as goal

pub returns-then-empties-clause-writes : goal.returns-then-empties-clause-writes
returns-then-empties-clause-writes g c =
    λ frames b written k h. way-writes c.args.picture.now b g.S.Elements.took g.S.Elements.failures frames c.args.sink.now c.flush.new.sink c.flush.result
    (sym c.empties.ensures ∙ c.if-empties.true) (c.flush.ensures.writes frames b written k h)

pub returns-then-empties-clause-keeps : goal.returns-then-empties-clause-keeps
returns-then-empties-clause-keeps g c = λ b written k. way-keeps c.args.picture.now b written c.flush.new.self c.flush.result
    (sym c.empties.ensures ∙ c.if-empties.true) (c.flush.ensures.keeps b written k)

pub returns-clause-writes : goal.returns-clause-writes
returns-clause-writes g c = λ frames b written k h. way-none c.args.picture.now b g.S.Elements.took g.S.Elements.failures frames c.args.sink.now
    (sym c.empties.ensures ∙ c.if-empties.false)

pub returns-clause-keeps : goal.returns-clause-keeps
returns-clause-keeps g c = λ b written k. way-stays c.args.picture.now b written c.args.self.now (sym c.empties.ensures ∙ c.if-empties.false) k
