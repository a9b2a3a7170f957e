use Rattle.std.proofs.Common.{rules, ◌+◌, ◌-◌, ◌∙◌, sym, ap}
use Rattle.h264_base.specs.Body.{Body}
use Rattle.h264_strict.specs.SeiContent.{group}
use Rattle.h264_strict.specs.SeiPart.{times}
use Rattle.h264_strict.proofs.SeiParts.{times-next, times-stop, times-over}
use Rattle.h264_strict.proofs.sei.content.groups.Goals as goal

pub returns-in_err-one-clause-read : goal.returns-in_err-one-clause-read
returns-in_err-one-clause-read c =
    let stop = c.loop-n.invariant.rest ∙ times-stop c.args.count c.loop-n._n _ _ _ c.loop-n-test.true c.in_err-one.ensures.read in
    search (rules, stop)

pub loop-n-preserved : goal.loop-n-preserved
loop-n-preserved c =
    let next = times-next c.args.count c.loop-n._n (group c.args.group) c.loop-n.bits.body.bytes c.loop-n.bits.at c.one.new.bits.at c.loop-n-test.true
    c.in_ok-one.ensures.read in
    record {
      rest = c.loop-n.invariant.rest ∙ next ∙ ap (λ (b : Body). times (c.args.count - (c.loop-n._n + 1)) (group c.args.group) b.bytes c.one.new.bits.at)
          (sym c.in_ok-one.ensures.body);
      body = c.in_ok-one.ensures.body ∙ c.loop-n.invariant.body;
    }

pub returns-clause-read : goal.returns-clause-read
returns-clause-read c = sym (c.loop-n.invariant.rest ∙ times-over c.args.count c.loop-n._n _ _ _ c.loop-n-test.false)
