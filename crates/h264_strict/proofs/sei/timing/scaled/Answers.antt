use Rattle.std.proofs.Common.{◌+◌, ◌*◌, ◌%◌, ◌^◌, ◌≤◌, ◌<◌, arith}
use Rattle.std.proofs.Math.Nat.{mod-le, pow-le-pow_right}
use Rattle.std.proofs.lemmas.Nat.{mul-le}
use Rattle.h264_strict.proofs.sei.timing.scaled.Goals as goal

pub returns-clause-bound : goal.returns-clause-bound
returns-clause-bound c =
    let k = c.args.exponent + c.min.result in
    let few : k ≤ 21 = (let m = c.min.ensures in omega arith) in
    let two : 0 < 2 = omega arith in
    let power : 2 ^ k ≤ 2 ^ 21 = pow-le-pow_right two few in
    let cut = mod-le (1 * 2 ^ k) 18446744073709551616 in
    let unit : 1 * 2 ^ k % 18446744073709551616 ≤ 2097152 = omega arith in
    let value : c.args.value_minus1 + 1 ≤ 4294967296 = omega arith in
    mul-le (c.args.value_minus1 + 1) (1 * 2 ^ k % 18446744073709551616) 4294967296 2097152 value unit
