use Rattle.std.proofs.Common.{◌≤◌, ◌^◌, arith, rules}
use Rattle.h264_bits.proofs.Peeks.{pow-few}
use Rattle.h264_cabac.proofs.Quotients.{taken-is}
use Rattle.h264_cabac.proofs.register.divided.Goals as goal

pub overflow_cast-result : goal.overflow_cast-result
overflow_cast-result c =
    let r = c.args.r in
    let t = (taken-is r.number r.range r.ahead c.args.n c.requires.ahead c.requires.most (omega (arith, c.requires.low)) c.requires.high
    c.requires.below).small in
    let p : 2 ^ c.args.n ≤ 2 ^ 8 = (pow-few c.args.n 8 c.requires.few).1 in
    search rules

pub returns-clause-small : goal.returns-clause-small
returns-clause-small c =
    let r = c.args.r in
    (taken-is r.number r.range r.ahead c.args.n c.requires.ahead c.requires.most (omega (arith, c.requires.low)) c.requires.high c.requires.below).small
