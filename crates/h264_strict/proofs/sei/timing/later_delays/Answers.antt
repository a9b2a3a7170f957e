use Rattle.std.proofs.Common.{rules, ◌+◌, ◌-◌, ◌<◌, ◌≤◌, min, arith, sym, ap, ◌∙◌}
use Rattle.h264_base.specs.Body.{Body}
use Rattle.h264_strict.specs.SeiTiming.{delays_from}
use Rattle.h264_strict.proofs.SeiDelays.{delays-next, delays-stop, delays-over}
use Rattle.h264_strict.proofs.sei.timing.later_delays.Goals as goal

pub returns-in_err-initial_delay-clause-read : goal.returns-in_err-initial_delay-clause-read
returns-in_err-initial_delay-clause-read c =
    let hrd = c.args.hrd.now in
    let n = min hrd.cpbs.count 32 in
    let few : c.loop-i.i < n = (let t = c.loop-i-test.true in let m = c.min-i-end.ensures in omega arith) in
    let stop = c.loop-i.invariant.rest ∙ delays-stop hrd n c.loop-i.i _ _ few c.in_err-initial_delay.ensures.read in
    search (rules, stop)

pub loop-i-preserved : goal.loop-i-preserved
loop-i-preserved c =
    let hrd = c.args.hrd.now in
    let n = min hrd.cpbs.count 32 in
    let few : c.loop-i.i < n = (let t = c.loop-i-test.true in let m = c.min-i-end.ensures in omega arith) in
    record {
      rest = c.loop-i.invariant.rest
          ∙ delays-next hrd n c.loop-i.i c.loop-i.bits.body.bytes c.loop-i.bits.at c.initial_delay.new.bits.at _ few c.in_ok-initial_delay.ensures.read
          ∙ ap (λ (b : Body). delays_from hrd (n - (c.loop-i.i + 1)) (c.loop-i.i + 1) b.bytes c.initial_delay.new.bits.at)
          (sym c.in_ok-initial_delay.ensures.body);
      body = c.in_ok-initial_delay.ensures.body ∙ c.loop-i.invariant.body;
    }

pub returns-clause-read : goal.returns-clause-read
returns-clause-read c =
    let hrd = c.args.hrd.now in
    let n = min hrd.cpbs.count 32 in
    let over : n ≤ c.loop-i.i = (let t = c.loop-i-test.false in let m = c.min-i-end.ensures in omega arith) in
    sym (c.loop-i.invariant.rest ∙ delays-over hrd n c.loop-i.i _ _ over)
