use Rattle.std.proofs.Common.{arith, ◌<◌, ◌+◌, length}
use Rattle.h264_rbsp.proofs.Faults.{none-at-all, none-before, first-two, first-last, first-fourth, none-more}
use Rattle.h264_rbsp.proofs.emulation.first_fault.Goals as goal
use Rattle.h264_rbsp.proofs.emulation.first_fault.Goals.{then-body-place-eq2-via-then-body-place-eq2}
use Rattle.h264_rbsp.proofs.emulation.first_fault.Goals.{then-body-place-eq2-via-else-body-place-eq2+then-place-body-2}

pub returns-then-place-body-clause-first : goal.returns-then-place-body-clause-first
returns-then-place-body-clause-first c =
    let here = c.next_after_zeros-place in
    none-at-all c.args.body.now here.result (none-before c.args.body.now c.loop-start.start here.result c.loop-start.invariant.none here.ensures.none)
    (omega arith)

pub returns-then-body-place-eq2-clause-first : goal.returns-then-body-place-eq2-clause-first
returns-then-body-place-eq2-clause-first c =
    let here = c.next_after_zeros-place in
    let lt : here.result < length c.args.body.now = omega arith in
    let found = (here.ensures.found lt).1 in
    elim c.then-body-place-eq2.branch [
      | then-body-place-eq2-via-then-body-place-eq2 w ↦ first-two c.args.body.now c.loop-start.start here.result c.loop-start.invariant.none here.ensures.none
          found w.if-body-place-eq2.true
      | then-body-place-eq2-via-else-body-place-eq2+then-place-body-2 w ↦ first-last c.args.body.now c.loop-start.start here.result
          c.loop-start.invariant.none here.ensures.none found w.if-body-place-eq2.false w.if-place-body-2.true
    ]

pub returns-then-body-place-gt-GREATEST_ESCAPED-clause-first : goal.returns-then-body-place-gt-GREATEST_ESCAPED-clause-first
returns-then-body-place-gt-GREATEST_ESCAPED-clause-first c =
    let here = c.next_after_zeros-place in
    let lt : here.result < length c.args.body.now = omega arith in
    first-fourth c.args.body.now c.loop-start.start here.result c.loop-start.invariant.none here.ensures.none (here.ensures.found lt).1
    c.if-body-place-eq2.false c.if-place-body-2.false c.if-body-place-gt-GREATEST_ESCAPED.true

pub loop-start-preserved : goal.loop-start-preserved
loop-start-preserved c =
    let here = c.next_after_zeros-place in
    let lt : here.result < length c.args.body.now = omega arith in
    record {
      high = omega arith;
      none = none-more c.args.body.now c.loop-start.start here.result c.loop-start.invariant.none here.ensures.none (here.ensures.found lt).1
          c.if-body-place-eq2.false c.if-place-body-2.false c.if-body-place-gt-GREATEST_ESCAPED.false;
    }

pub returns-clause-first : goal.returns-clause-first
returns-clause-first c = none-at-all c.args.body.now (c.loop-start.start + 2) c.loop-start.invariant.none (omega arith)
