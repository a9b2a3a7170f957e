use Rattle.std.proofs.Common.{rules, arith, ◌+◌, ◌-◌}
use lib.Count.{count_leading_zeros}
use Rattle.h264_bits.proofs.Peeks.{window-seven, window-leads, golomb-inside, golomb-outside, golomb-far, power-is, top-of, peek-below, pow-few}
use Rattle.h264_bits.proofs.codes.golomb.Goals as goal

pub overflow_sub-zeros : goal.overflow_sub-zeros
overflow_sub-zeros c = let b = peek-below 57 c.args.bytes.now c.args.i in let e = c.window.ensures in window-seven c.window.result (omega arith)

pub returns-then-zeros-gt31-clause-value : goal.returns-then-zeros-gt31-clause-value
returns-then-zeros-gt31-clause-value c = (let t = c.if-zeros-gt31.true in golomb-far c.window.result c.args.bytes.now c.args.i c.window.ensures (omega arith))

pub returns-then-next-bytes-clause-value : goal.returns-then-next-bytes-clause-value
returns-then-next-bytes-clause-value c =
    let z = count_leading_zeros 64 c.window.result - 7 in
    let t = c.if-zeros-gt31.false in let u = c.if-next-bytes.true in
    (golomb-outside z c.args.bytes.now c.args.i (omega arith) (window-leads c.window.result c.args.bytes.now c.args.i c.window.ensures (omega arith))
    (omega arith))

pub overflow_add-result : goal.overflow_add-result
overflow_add-result c =
    let z = count_leading_zeros 64 c.window.result - 7 in
    let t = c.if-zeros-gt31.false in
    let e = top-of c.window-2.result z c.args.bytes.now (c.args.i + z + 1) c.window-2.ensures (omega arith) in
    let b = peek-below z c.args.bytes.now (c.args.i + z + 1) in
    let p = pow-few z 31 (omega arith) in
    rw (power-is z (omega arith), e) (search rules)

pub overflow_cast-result-2 : goal.overflow_cast-result-2
overflow_cast-result-2 c =
    let z = count_leading_zeros 64 c.window.result - 7 in
    let t = c.if-zeros-gt31.false in
    let e = top-of c.window-2.result z c.args.bytes.now (c.args.i + z + 1) c.window-2.ensures (omega arith) in
    let b = peek-below z c.args.bytes.now (c.args.i + z + 1) in
    let p = pow-few z 31 (omega arith) in
    rw (power-is z (omega arith), e) (search rules)

pub returns-clause-value : goal.returns-clause-value
returns-clause-value c =
    let z = count_leading_zeros 64 c.window.result - 7 in
    let t = c.if-zeros-gt31.false in let u = c.if-next-bytes.false in
    let e = top-of c.window-2.result z c.args.bytes.now (c.args.i + z + 1) c.window-2.ensures (omega arith) in
    rw (power-is z (omega arith), e) (golomb-inside z c.args.bytes.now c.args.i (omega arith)
    (window-leads c.window.result c.args.bytes.now c.args.i c.window.ensures (omega arith)) (omega arith))

pub returns-clause-small : goal.returns-clause-small
returns-clause-small c =
    let z = count_leading_zeros 64 c.window.result - 7 in
    let t = c.if-zeros-gt31.false in
    let e = top-of c.window-2.result z c.args.bytes.now (c.args.i + z + 1) c.window-2.ensures (omega arith) in
    let b = peek-below z c.args.bytes.now (c.args.i + z + 1) in
    let p = pow-few z 31 (omega arith) in
    rw (power-is z (omega arith), e) (omega arith)
