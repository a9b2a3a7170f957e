use Rattle.std.proofs.Common.{rules, arith, refl, ◌+◌, ◌-◌, ◌<◌, ◌/◌}
use Rattle.std.specs.Prelude.{slice_index}
use Rattle.h264_bits.proofs.Clear.{AreZeros, last-in, last-none, byte-clear}
use Rattle.h264_bits.proofs.codes.last_one.Goals as goal

pub returns-then-bytes-k-ne0 : goal.returns-then-bytes-k-ne0
returns-then-bytes-k-ne0 c =
    let t = c.loop-k-test.true in
    let more : 0 < slice_index c.args.bytes.now (c.loop-k.k - 1) = (let n = c.if-bytes-k-ne0.true in omega arith) in
    let zeros : AreZeros c.args.bytes.now (c.loop-k.k - 1 + 1) = λ j h. c.loop-k.invariant j (omega arith) in
    last-in c.args.bytes.now (c.loop-k.k - 1) (slice_index c.args.bytes.now (c.loop-k.k - 1)) _ (omega arith) refl more (search rules) refl zeros

pub returns : goal.returns
returns c =
    let t = c.loop-k-test.false in
    last-none c.args.bytes.now _ (omega arith) (λ j. byte-clear c.args.bytes.now j (c.loop-k.invariant (j / 8) (omega arith)))
