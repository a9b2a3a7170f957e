use Rattle.std.proofs.Common.{Option, None, refl}
use Rattle.h264_header.specs.declared.header.Operation.{Operation}
use Rattle.std.proofs.lemmas.Result.{err_from_is_err_and}
use Rattle.h264_base.proofs.Steps.{bind, stop, done, checked}
use Rattle.h264_header.specs.Marking.{operation, operands, is_operation_allowed}
use Rattle.h264_header.proofs.Entries.{operation-room, operation-known}
use Rattle.h264_header.proofs.marking.read_operation.Goals as goal

pub returns-in_err-number-clause-meets : goal.returns-in_err-number-clause-meets
unfolding operation
returns-in_err-number-clause-meets g c = let p = err_from_is_err_and c.from_residual.result c.from_residual.ensures.1 in
    rw (p.1, p.2) (stop _ c.in_err-number.ensures.meets)

pub returns-in_err-check-clause-meets : goal.returns-in_err-check-clause-meets
unfolding operation
returns-in_err-check-clause-meets g c = let p = err_from_is_err_and c.from_residual-in_err-check.result c.from_residual-in_err-check.ensures.1 in
    let allowed = rw (c.is_operation_allowed.ensures, c.as_slice.ensures.value) at c.in_err-check.ensures in
    rw (p.1, p.2) (bind _ c.in_ok-number.ensures.meets
    (stop _ (checked _ _ {holds = is_operation_allowed c.args.before.now.items c.in_ok-number.number.value} _ _ allowed)))

pub returns-then-number-eq0-clause-meets : goal.returns-then-number-eq0-clause-meets
unfolding operation operands
returns-then-number-eq0-clause-meets g c = let allowed = rw (c.is_operation_allowed.ensures, c.as_slice.ensures.value) at c.in_ok-check.ensures in
    bind _ c.in_ok-number.ensures.meets (bind _ (checked _ _ {holds = is_operation_allowed c.args.before.now.items c.in_ok-number.number.value} _ _ allowed)
    (rw c.if-number-eq0.true (bind {view = λ (o : Option Operation). o} _ (done _ _ _ None _ _ None refl) (done _ _ _ _ _ _ _ refl))))

pub returns-in_err-operation-clause-meets : goal.returns-in_err-operation-clause-meets
unfolding operation
returns-in_err-operation-clause-meets g c = let p = err_from_is_err_and c.from_residual-in_err-operation.result c.from_residual-in_err-operation.ensures.1 in
    let allowed = rw (c.is_operation_allowed.ensures, c.as_slice.ensures.value) at c.in_ok-check.ensures in
    rw (p.1, p.2) (bind _ c.in_ok-number.ensures.meets
    (bind _ (checked _ _ {holds = is_operation_allowed c.args.before.now.items c.in_ok-number.number.value} _ _ allowed) (stop _ c.in_err-operation.ensures)))

pub returns-clause-meets : goal.returns-clause-meets
unfolding operation
returns-clause-meets g c = let allowed = rw (c.is_operation_allowed.ensures, c.as_slice.ensures.value) at c.in_ok-check.ensures in
    bind _ c.in_ok-number.ensures.meets (bind _ (checked _ _ {holds = is_operation_allowed c.args.before.now.items c.in_ok-number.number.value} _ _ allowed)
    (bind _ c.in_ok-operation.ensures (done _ _ _ _ _ _ _ refl)))

pub read_operands-requires-clause-known : goal.read_operands-requires-clause-known
read_operands-requires-clause-known g c = let allowed = rw (c.is_operation_allowed.ensures, c.as_slice.ensures.value) at c.in_ok-check.ensures in
    operation-known _ c.in_ok-number.number.value c.if-number-eq0.false allowed.checks

pub returns-clause-room : goal.returns-clause-room
returns-clause-room g c = let allowed = rw (c.is_operation_allowed.ensures, c.as_slice.ensures.value) at c.in_ok-check.ensures in
    operation-room _ c.in_ok-number.number.value c.if-number-eq0.false allowed.checks
