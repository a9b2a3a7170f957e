use Rattle.std.proofs.Common.{arith}
use Rattle.h264_cabac.proofs.Decisions.{begins, begins-short, begins-great, begins-ready}
use Rattle.h264_cabac.proofs.engine.Engine.begin.Goals.{then-bytes-first-via-then-bytes-first, then-bytes-first-via-else-bytes-first+then-number-ge-FIRST_RANGE}
use Rattle.h264_cabac.proofs.engine.Engine.begin.Goals as goal

pub returns-then-bytes-first-clause-none : goal.returns-then-bytes-first-clause-none
returns-then-bytes-first-clause-none c =
    elim c.then-bytes-first.branch [
      | then-bytes-first-via-then-bytes-first w ↦ begins-short c.args.bytes.now c.args.first (omega arith)
      | then-bytes-first-via-else-bytes-first+then-number-ge-FIRST_RANGE w ↦
          begins-great c.args.bytes.now c.args.first c.load-number.result c.load-number.ensures (omega arith) (omega arith)
    ]

pub invariant_of-result : goal.invariant_of-result
invariant_of-result c =
    begins-ready c.args.bytes.now c.args.first c.load-number.result c.load-number.ensures (omega arith) c.requires.short (omega arith)

pub returns-clause-ok : goal.returns-clause-ok
returns-clause-ok c = begins c.args.bytes.now c.args.first c.load-number.result c.load-number.ensures (omega arith) (omega arith)
