use Rattle.std.proofs.Common.{◌≡◌, suc, ◌+◌, ◌-◌, length, drop, arith, true, false, sym, ap, ◌∙◌}
use Rattle.std.proofs.lemmas.List.{length-drop}
use Rattle.h264_strict.specs.SeiMessages.{is_trailing, are_messages, is_sei}
use Rattle.h264_strict.proofs.SeiListed.{sei-found, sei-read}
use Rattle.h264_strict.proofs.SeiReading.{sei-none, sei-last, sei-more, sei-out}
use Rattle.h264_strict.proofs.sei.messages.is_sei.Goals as goal

pub returns-in_default : goal.returns-in_default
returns-in_default c =
    let all = length c.args.bytes.now in
    let up : all - c.loop-n._n ≡ suc (all - (c.loop-n._n + 1)) = omega arith in
    let v : false ≡ is_sei c.args.bytes.now =
    sym (c.loop-n.invariant.0 ∙ sei-none _ _ c.loop-n.rest.now up (sym c.message_length.ensures.value ∙ c.in_default.is)) in
    record { value = v; yes = λ h. sei-found c.args.bytes.now (sym v ∙ h); no = λ s. v ∙ sei-read c.args.bytes.now s }

pub returns-then-is_trailing : goal.returns-then-is_trailing
returns-then-is_trailing c =
    let all = length c.args.bytes.now in
    let up : all - c.loop-n._n ≡ suc (all - (c.loop-n._n + 1)) = omega arith in
    let ends : is_trailing (drop c.in-Some.whole c.loop-n.rest.now) ≡ true = ap is_trailing (sym c.after-rest.ensures) ∙ sym c.is_trailing.ensures ∙
    c.if-is_trailing.true in
    let v : true ≡ is_sei c.args.bytes.now =
    sym (c.loop-n.invariant.0 ∙ sei-last _ _ c.loop-n.rest.now c.in-Some.whole up (sym c.message_length.ensures.value ∙ c.in-Some.is) ends) in
    record { value = v; yes = λ h. sei-found c.args.bytes.now (sym v ∙ h); no = λ s. v ∙ sei-read c.args.bytes.now s }

pub loop-n-preserved : goal.loop-n-preserved
loop-n-preserved c =
    let all = length c.args.bytes.now in
    let up : all - c.loop-n._n ≡ suc (all - (c.loop-n._n + 1)) = omega arith in
    let goes : is_trailing (drop c.in-Some.whole c.loop-n.rest.now) ≡ false = ap is_trailing (sym c.after-rest.ensures) ∙ sym c.is_trailing.ensures ∙
    c.if-is_trailing.false in
    let shorter : length c.after-rest.result.now ≡ length c.loop-n.rest.now - c.in-Some.whole = ap length c.after-rest.ensures ∙
    length-drop c.in-Some.whole c.loop-n.rest.now in (
      c.loop-n.invariant.0
          ∙ sei-more _ _ c.loop-n.rest.now c.in-Some.whole up (sym c.message_length.ensures.value ∙ c.in-Some.is) goes
          ∙ ap (λ l. are_messages (all - (c.loop-n._n + 1)) l) (sym c.after-rest.ensures),
      omega (arith, c.loop-n.invariant.1),
    )

pub returns : goal.returns
returns c =
    let all = length c.args.bytes.now in
    let out : all - c.loop-n._n ≡ 0 = omega arith in
    let v : false ≡ is_sei c.args.bytes.now = sym (c.loop-n.invariant.0 ∙ sei-out _ c.loop-n.rest.now out) in
    record { value = v; yes = λ h. sei-found c.args.bytes.now (sym v ∙ h); no = λ s. v ∙ sei-read c.args.bytes.now s }
