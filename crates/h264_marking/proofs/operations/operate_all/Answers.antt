use Rattle.std.proofs.Common.{sym, ◌∙◌}
use Rattle.h264_marking.proofs.Turns.{all_operated-met, all_operated-refused, all_operated-end}
use Rattle.h264_marking.proofs.operations.operate_all.Goals as goal

pub returns-then-not-operate : goal.returns-then-not-operate
returns-then-not-operate c = sym (all_operated-refused c.args.current.now c.args.operations.now c.loop-o.o-index _ c.loop-o.marks c.operate.new.self
    c.operate.result c.loop-o-test.true c.if-not-operate.true c.operate.ensures) ∙ c.loop-o.invariant

pub loop-o-preserved : goal.loop-o-preserved
loop-o-preserved c = sym (all_operated-met c.args.current.now c.args.operations.now c.loop-o.o-index _ c.loop-o.marks c.operate.new.self c.operate.result
    c.loop-o-test.true c.if-not-operate.false c.operate.ensures) ∙ c.loop-o.invariant

pub returns : goal.returns
returns c = sym (all_operated-end c.args.current.now c.args.operations.now c.loop-o.o-index c.loop-o.marks c.loop-o-test.false) ∙ c.loop-o.invariant
