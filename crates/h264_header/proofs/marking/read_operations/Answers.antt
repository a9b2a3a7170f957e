use Rattle.std.proofs.Common.{refl}
use Rattle.std.proofs.lemmas.Result.{err_from_is_err_and}
use Rattle.h264_base.proofs.Steps.{kept}
use Rattle.h264_header.specs.Marking.{operation, operations}
use Rattle.h264_header.proofs.Entries.{listed-starts, listed-next, listed-stop, listed-ends, listed-over}
use Rattle.h264_header.proofs.marking.read_operations.Goals as goal

pub loop-turn-init : goal.loop-turn-init
loop-turn-init g c = record { rest = listed-starts operation 37 c.new-operations.result.items _ _ c.new-operations.ensures; room = c.requires }

pub returns-in_err-next : goal.returns-in_err-next
unfolding operations
returns-in_err-next g c = let p = err_from_is_err_and c.from_residual.result c.from_residual.ensures.1 in
    rw (p.1, p.2) (listed-stop operation 37 c.loop-turn._turn c.loop-turn.operations.items c.loop-turn-test.true c.loop-turn.invariant.rest
    c.in_err-next.ensures.meets)

pub returns-in-None : goal.returns-in-None
unfolding operations
returns-in-None g c = let m = rw c.in-None.is at c.in_ok-next.ensures.meets in
    listed-ends operation 37 c.loop-turn._turn c.loop-turn.operations.items c.loop-turn.operations c.loop-turn-test.true refl c.loop-turn.invariant.rest m

pub loop-turn-preserved : goal.loop-turn-preserved
loop-turn-preserved g c =
    let m = rw c.in-Some.is at c.in_ok-next.ensures.meets in
    record {
      rest = listed-next operation 37 c.loop-turn._turn c.loop-turn.operations.items _ c.loop-turn-test.true c.push.ensures.items c.loop-turn.invariant.rest m;
      room = let k = kept c.in_ok-next.ensures.meets in let r = c.loop-turn.invariant.room in rw k r;
    }

pub returns : goal.returns
unfolding operations
returns g c = listed-over operation 37 c.loop-turn._turn c.loop-turn.operations.items c.loop-turn.operations c.loop-turn-test.false refl
    c.loop-turn.invariant.rest
