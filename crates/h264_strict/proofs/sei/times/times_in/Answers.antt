use Rattle.std.proofs.Common.{◌≡◌, suc, ◌+◌, ◌-◌, length, sym, ap, ◌∙◌, arith}
use Rattle.h264_strict.specs.SeiTimes.{times_from}
use Rattle.h264_strict.specs.declared.sei.times.TimesTold.{TimesTold}
use Rattle.h264_strict.proofs.SeiTold.{told-none, told-some, told-out}
use Rattle.h264_strict.proofs.sei.times.times_in.Goals as goal

pub loop-n-preserved : goal.loop-n-preserved
loop-n-preserved c =
    let bytes = c.args.rbsp.now.bytes in
    let same = ap length c.bytes-n-end.ensures.bytes in
    let left = length bytes - (c.loop-n._n + 1) in
    let up : length bytes - c.loop-n._n ≡ suc left = omega arith in
    record {
      within = c.in-Some.ensures.within;
      told = c.loop-n.invariant.told
          ∙ told-some c.args.known.now _ left bytes c.loop-n.at c.loop-n.times up c.in-Some.message (sym c.in-Some.ensures.value)
          ∙ ap (λ (t : TimesTold). times_from c.args.known.now left bytes c.in-Some.message.end t) (sym c.with_message-times.ensures);
    }

pub returns-in_default : goal.returns-in_default
returns-in_default c =
    let bytes = c.args.rbsp.now.bytes in
    let same = ap length c.bytes-n-end.ensures.bytes in
    let up : length bytes - c.loop-n._n ≡ suc (length bytes - (c.loop-n._n + 1)) = omega arith in
    sym (c.loop-n.invariant.told ∙ told-none c.args.known.now _ _ bytes c.loop-n.at c.loop-n.times up (sym c.message_at.ensures.value ∙ c.in_default.is))

pub returns : goal.returns
returns c =
    let bytes = c.args.rbsp.now.bytes in
    let same = ap length c.bytes-n-end.ensures.bytes in
    let out : length bytes - c.loop-n._n ≡ 0 = omega arith in
    sym (c.loop-n.invariant.told ∙ told-out c.args.known.now _ bytes c.loop-n.at c.loop-n.times out)
