use Rattle.std.proofs.Common.{◌≡◌, arith}
use Rattle.h264_command.proofs.strictly.put_never_judged.Goals as goal

pub returns : goal.returns
returns c =
    let last : c.loop-name.name-index ≡ 5 = (let t = c.loop-name-test.false in let e = c.loop-name.auto.name-index-end in omega arith) in
    rw last at c.loop-name.invariant
