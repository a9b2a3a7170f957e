use Rattle.std.proofs.Common.{Some, sym, ap, ◌∙◌, arith}
use Rattle.h264_cabac.specs.Register.{engine_of}
use Rattle.h264_cabac.proofs.Registers.{count-zeros, passed-stands}
use Rattle.h264_cabac.proofs.Doublings.{register-inside, register-outside, low-after}
use Rattle.h264_cabac.proofs.register.renormalized.Goals as goal

pub overflow_sub-n : goal.overflow_sub-n
overflow_sub-n c = (count-zeros c.args.r.range (omega arith) c.requires.high).0

pub returns-then-n-bytes-clause-same : goal.returns-then-n-bytes-clause-same
returns-then-n-bytes-clause-same c =
    sym (register-outside c.args.bytes.now c.args.r _ c.requires.stands (count-zeros c.args.r.range (omega arith) c.requires.high).1 (omega arith))

pub passed-requires-clause-few : goal.passed-requires-clause-few
passed-requires-clause-few c = (count-zeros c.args.r.range (omega arith) c.requires.high).1.few

pub passed-requires-clause-ahead : goal.passed-requires-clause-ahead
passed-requires-clause-ahead c = let n = (count-zeros c.args.r.range (omega arith) c.requires.high).1.few in omega arith

pub passed-requires-clause-high : goal.passed-requires-clause-high
passed-requires-clause-high c = let n = (count-zeros c.args.r.range (omega arith) c.requires.high).1.high in omega arith

pub refilled-requires : goal.refilled-requires
refilled-requires c =
    let n = (count-zeros c.args.r.range (omega arith) c.requires.high).1 in
    let few = n.few in
    let high = n.high in
    rw c.passed.ensures (passed-stands c.args.bytes.now c.args.r _ (omega arith) (omega arith) (omega arith) c.requires.stands)

pub returns-clause-same : goal.returns-clause-same
returns-clause-same c =
    let n = (count-zeros c.args.r.range (omega arith) c.requires.high).1 in
    let few = n.few in
    ap Some (c.refilled.ensures.same ∙ ap (engine_of c.args.bytes.now) c.passed.ensures) ∙
    sym (register-inside c.args.bytes.now c.args.r _ c.requires.stands n (omega arith) (omega arith))

pub returns-clause-ready : goal.returns-clause-ready
returns-clause-ready c =
    let n = (count-zeros c.args.r.range (omega arith) c.requires.high).1 in
    low-after c.args.bytes.now c.passed.result c.refilled.result c.refilled.ensures.stands c.refilled.ensures.same c.refilled.ensures.loaded
    (rw c.passed.ensures n.low) (rw c.passed.ensures n.high)
