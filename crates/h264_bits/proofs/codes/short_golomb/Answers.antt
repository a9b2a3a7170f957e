use Rattle.std.proofs.Common.{◌≡◌, ◌+◌, ◌-◌, ◌*◌, ◌^◌, arith}
use lib.Count.{count_leading_zeros}
use Rattle.h264_bits.specs.Peek.{peek_at}
use Rattle.h264_bits.proofs.Peeks.{zeros-above, number-leads, one-left, golomb-inside, golomb-outside, golomb-word, pow-few}
use Rattle.h264_bits.proofs.codes.short_golomb.Goals as goal

pub overflow_sub-zeros-2 : goal.overflow_sub-zeros-2
overflow_sub-zeros-2 c = zeros-above 25 c.args.bits (omega arith) c.requires

pub overflow_sub-result-2 : goal.overflow_sub-result-2
overflow_sub-result-2 c =
    let few = c.if-zeros-gt-SHORT_ZEROS.false in
    let above = zeros-above 25 c.args.bits (omega arith) c.requires in
    let below = c.requires in
    one-left c.args.bits (2 * (12 - (count_leading_zeros 64 c.args.bits - 39))) (omega arith) (omega arith)

pub returns-clause-word : goal.returns-clause-word
returns-clause-word c bytes i is inside =
    let z = count_leading_zeros 64 c.args.bits - 39 in
    let few = c.if-zeros-gt-SHORT_ZEROS.false in
    let l = number-leads 25 c.args.bits bytes i (omega arith) is (omega arith) in
    let shift : 2 * (12 - z) ≡ 25 - (2 * z + 1) = omega arith in
    let next : i + (2 * z + 1) ≡ i + 2 * z + 1 = omega arith in
    let p = pow-few z 12 (omega arith) in
    let v : 2 ^ z + peek_at z bytes (i + z + 1) - 1 ≡ 2 ^ z - 1 + peek_at z bytes (i + z + 1) = omega arith in
    rw (shift, golomb-word 25 c.args.bits z bytes i is (omega arith) l, v, next) (golomb-inside z bytes i (omega arith) l (omega arith))

pub returns-clause-outside : goal.returns-clause-outside
returns-clause-outside c bytes i is outside =
    let z = count_leading_zeros 64 c.args.bits - 39 in
    let few = c.if-zeros-gt-SHORT_ZEROS.false in
    golomb-outside z bytes i (omega arith) (number-leads 25 c.args.bits bytes i (omega arith) is (omega arith)) (omega arith)
