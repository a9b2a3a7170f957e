use Rattle.std.proofs.Common.{rules, ◌+◌, ◌-◌, ◌∙◌, sym, ap}
use Rattle.h264_base.specs.Body.{Body}
use Rattle.h264_strict.specs.SeiTiming.{clock_timestamp}
use Rattle.h264_strict.specs.SeiPart.{times}
use Rattle.h264_strict.proofs.SeiParts.{times-next, times-stop, times-over}
use Rattle.h264_strict.proofs.sei.timing.so_many_timestamps.Goals as goal

pub returns-in_err-clock_timestamp-clause-read : goal.returns-in_err-clock_timestamp-clause-read
returns-in_err-clock_timestamp-clause-read c =
    let stop = c.loop-n.invariant.rest ∙ times-stop c.args.count c.loop-n._n _ _ _ c.loop-n-test.true c.in_err-clock_timestamp.ensures.read in
    search (rules, stop)

pub loop-n-preserved : goal.loop-n-preserved
loop-n-preserved c =
    let next = times-next c.args.count c.loop-n._n (clock_timestamp c.args.offset) c.loop-n.bits.body.bytes c.loop-n.bits.at c.clock_timestamp.new.bits.at
    c.loop-n-test.true c.in_ok-clock_timestamp.ensures.read in
    record {
      rest = c.loop-n.invariant.rest ∙ next ∙ ap
          (λ (b : Body). times (c.args.count - (c.loop-n._n + 1)) (clock_timestamp c.args.offset) b.bytes c.clock_timestamp.new.bits.at)
          (sym c.in_ok-clock_timestamp.ensures.body);
      body = c.in_ok-clock_timestamp.ensures.body ∙ c.loop-n.invariant.body;
    }

pub returns-clause-read : goal.returns-clause-read
returns-clause-read c = sym (c.loop-n.invariant.rest ∙ times-over c.args.count c.loop-n._n _ _ _ c.loop-n-test.false)
