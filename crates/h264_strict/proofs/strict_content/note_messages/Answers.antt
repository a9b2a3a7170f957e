use Rattle.std.proofs.Common.{◌≡◌, suc, ◌+◌, ◌-◌, None, get_or, length, arith, sym, ap, ◌∙◌}
use Rattle.h264_strict.specs.Strict.{with_places}
use Rattle.h264_strict.specs.StrictContent.{message_bits}
use Rattle.h264_strict.specs.StrictRules.{place_of}
use Rattle.h264_strict.proofs.Contents.{messages-none, messages-some, messages-out, none-noted}
use Rattle.h264_strict.proofs.strict_content.note_messages.Goals as goal

pub loop-n-init : goal.loop-n-init
loop-n-init c =
    let n = length c.args.rbsp.now.bytes in
    let all : n ≡ n - 0 = omega arith in
    record {
      within = omega arith;
      noted = λ r. ap
          (λ k. with_places (get_or c.args.found.now (place_of r) None) (message_bits r c.args.known.now k c.args.rbsp.now 0)) all;
    }

pub loop-n-preserved : goal.loop-n-preserved
loop-n-preserved c =
    let n = length c.args.rbsp.now.bytes in
    let same = ap length c.bytes-n-end.ensures.bytes in
    let up : n - c.loop-n._n ≡ suc (n - (c.loop-n._n + 1)) = omega arith in
    record {
      within = c.in-Some.ensures.within;
      noted = λ r. c.loop-n.invariant.noted r
          ∙ messages-some r c.args.known.now _ _ c.args.rbsp.now c.loop-n.at up c.in-Some.message _ _ c.stream_bit.result c.broken_if-rule.result
          (sym c.in-Some.ensures.value) c.stream_bit.ensures c.broken_if-rule.ensures (c.note_in.ensures r);
    }

pub returns-in_default : goal.returns-in_default
returns-in_default c r =
    let n = length c.args.rbsp.now.bytes in
    let same = ap length c.bytes-n-end.ensures.bytes in
    let up : n - c.loop-n._n ≡ suc (n - (c.loop-n._n + 1)) = omega arith in
    sym (c.loop-n.invariant.noted r ∙ none-noted _ _
    (messages-none r c.args.known.now _ _ c.args.rbsp.now c.loop-n.at up (sym c.message_at.ensures.value ∙ c.in_default.is)))

pub returns : goal.returns
returns c r =
    let n = length c.args.rbsp.now.bytes in
    let same = ap length c.bytes-n-end.ensures.bytes in
    let out : n - c.loop-n._n ≡ 0 = omega arith in
    sym (c.loop-n.invariant.noted r ∙ none-noted _ _ (messages-out r c.args.known.now _ c.args.rbsp.now c.loop-n.at out))
