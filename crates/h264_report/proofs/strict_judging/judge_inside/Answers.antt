use Rattle.std.proofs.Common.{Bool, [], ap, subst, ◌∙◌}
use Rattle.h264_strict.specs.StrictUnits.{TellsOfBytes}
use Rattle.h264_report.proofs.strict_judging.judge_inside.Goals as goal

pub returns-clause-same_reference : goal.returns-clause-same_reference
returns-clause-same_reference g c =
    let took = c.run-answer.ensures.some.2.so_far [] (c.new-inside.ensures.units, c.new-inside.ensures.before, c.new-inside.ensures.name ∙ c.requires.name) in
    c.finish-lent.ensures.name ∙ took.2

pub returns-clause-verdict : goal.returns-clause-verdict
returns-clause-verdict g c bytes known = c.run-answer.ensures.verdict bytes (ap g.R.Source.left c.new-inside.ensures.source ∙ known)

pub returns-clause-units : goal.returns-clause-units
returns-clause-units g c =
    let some = c.run-answer.ensures.some in
    let took = some.2.so_far [] (c.new-inside.ensures.units, c.new-inside.ensures.before, c.new-inside.ensures.name ∙ c.requires.name) in (
      some.0,
      some.1,
      λ known e. let p = some.2.first known (ap g.R.Source.left c.new-inside.ensures.source ∙ e) in (p.0, p.1, p.2),
      some.3,
      some.4,
      subst (λ (b : Bool). TellsOfBytes c.finish-lent.result.1.extent b c.finish-lent.result.1.found c.finish-lent.result.1.lack some.0) took.1
          (c.finish-lent.ensures.units some.0 took.0),
    )
