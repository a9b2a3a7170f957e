use Rattle.std.proofs.Common.{arith, sym, ◌-◌}
use lib.Count.{count_leading_zeros}
use Rattle.h264_base.specs.Word.{padding}
use Rattle.h264_bits.proofs.Peeks.{window-seven, window-leads, zeros-lead, peek-below}
use Rattle.h264_bits.proofs.Clear.{set-found, set-none}
use Rattle.h264_bits.proofs.codes.first_set.Goals as goal

pub overflow_sub-zeros : goal.overflow_sub-zeros
overflow_sub-zeros c = let b = peek-below 57 c.args.bytes.now c.args.i in let e = c.window.ensures in window-seven c.window.result (omega arith)

pub returns-then-zeros-count-clause-set : goal.returns-then-zeros-count-clause-set
returns-then-zeros-count-clause-set c =
    let z = count_leading_zeros 64 c.window.result - 7 in
    let t = c.if-zeros-count.true in
    sym (set-found z c.args.bytes.now c.args.i (omega arith) (omega arith)
    (window-leads c.window.result c.args.bytes.now c.args.i c.window.ensures (omega arith)))

pub returns-else-zeros-count-clause-set : goal.returns-else-zeros-count-clause-set
returns-else-zeros-count-clause-set c =
    let t = c.if-zeros-count.false in
    sym (set-none c.args.bytes.now c.args.i (omega arith)
    (zeros-lead (padding c.args.i) c.window.result c.args.bytes.now c.args.i c.window.ensures (omega arith) (omega arith)))
