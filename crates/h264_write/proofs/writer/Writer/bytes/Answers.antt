use Rattle.std.proofs.Common.{rules, arith}
use Rattle.h264_write.proofs.Bytes.{packed-stands, packed-zeros}
use Rattle.h264_write.proofs.writer.Writer.bytes.Goals as goal

pub returns-clause-stand : goal.returns-clause-stand
returns-clause-stand c = rw (← c.self.view_is, c.in_ok-bytes.ensures.bytes, c.as_slice.ensures.value) (packed-stands _ c.self.inside.bits.items (omega arith))

pub returns-clause-count : goal.returns-clause-count
returns-clause-count c = let l = c.as_slice.ensures.len in let n = c.in_ok-bytes.ensures.count in rw (← c.self.view_is) (search rules)

pub returns-clause-zeros : goal.returns-clause-zeros
returns-clause-zeros c =
    let n = c.in_ok-bytes.ensures.count in
    let l = c.as_slice.ensures.len in
    rw (← c.self.view_is, c.in_ok-bytes.ensures.bytes, c.as_slice.ensures.value)
    (λ i past within. packed-zeros _ c.self.inside.bits.items i past (omega arith))
