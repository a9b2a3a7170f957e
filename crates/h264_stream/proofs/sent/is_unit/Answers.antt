use Rattle.std.proofs.Common.{◌+◌, sym, subst, arith}
use Rattle.h264_stream.proofs.Sending.{IsRead, read-zero, read-other, read-zeros}
use Rattle.h264_stream.proofs.sent.is_unit.Goals.{then-byte-eq0, else-byte-eq0}
use Rattle.h264_stream.proofs.sent.is_unit.Goals as goal

pub loop-byte-preserved-then-byte-gt-CODE_END : goal.loop-byte-preserved-then-byte-gt-CODE_END
loop-byte-preserved-then-byte-gt-CODE_END c =
    read-other _ _ _ c.loop-byte-test.true c.loop-byte.invariant (λ zero. absurd (omega arith)) (λ small. absurd (omega arith))

pub loop-byte-preserved : goal.loop-byte-preserved
loop-byte-preserved c = elim c.if-byte-eq0.branch [
  | then-byte-eq0 w ↦ subst (λ z. IsRead c.args.bytes.now z (c.loop-byte.byte-index + 1)) (sym w.zeros-is)
      (read-zero _ _ _ c.loop-byte-test.true c.loop-byte.invariant w.if-byte-eq0.true (let few = c.loop-byte.invariant.few in omega arith))
  | else-byte-eq0 w ↦ subst (λ z. IsRead c.args.bytes.now z (c.loop-byte.byte-index + 1)) (sym w.zeros-is)
      (read-other _ _ _ c.loop-byte-test.true c.loop-byte.invariant w.if-byte-eq0.false (λ small. c.if-zeros-eq-CODE_ZEROS.false))
]

pub returns-else-zeros-eq0-clause-no : goal.returns-else-zeros-eq0-clause-no
returns-else-zeros-eq0-clause-no c = λ _ body. read-zeros c.loop-byte-test.false c.if-zeros-eq0.false c.loop-byte.invariant body.1
