use Rattle.std.proofs.Common.{length, length-drop, sym, ap, arith}
use Rattle.h264_strict.proofs.SeiListed.{message-inside}
use Rattle.h264_strict.proofs.sei.payload.message_at.Goals as goal

pub payload_start-requires-clause-whole : goal.payload_start-requires-clause-whole
payload_start-requires-clause-whole c = (message-inside _ _ (sym c.in_ok-end.ensures.value)).0

pub overflow_add-from : goal.overflow_add-from
overflow_add-from c = let m = message-inside _ _ (sym c.in_ok-end.ensures.value) in let p = c.payload_start.ensures in let w = c.in_ok-end.ensures.within in
    omega arith

pub payload_value-payload_type-requires-clause-whole : goal.payload_value-payload_type-requires-clause-whole
payload_value-payload_type-requires-clause-whole c = (message-inside _ _ (sym c.in_ok-end.ensures.value)).0

pub holds-requires-clause-forward : goal.holds-requires-clause-forward
holds-requires-clause-forward c = let m = message-inside _ _ (sym c.in_ok-end.ensures.value) in let p = c.payload_start.ensures in omega arith

pub holds-requires-clause-after : goal.holds-requires-clause-after
holds-requires-clause-after c = let m = message-inside _ _ (sym c.in_ok-end.ensures.value) in let p = c.payload_start.ensures in omega arith

pub returns-clause-inside : goal.returns-clause-inside
returns-clause-inside c =
    let m = message-inside _ _ (sym c.in_ok-end.ensures.value) in
    let d = length-drop c.args.at c.bytes.result.now in
    let e = ap length c.after-bytes.ensures in
    let b = ap length c.bytes.ensures.bytes in
    let p = c.payload_start.ensures in
    let w = c.in_ok-end.ensures.within in
    omega arith
