use Rattle.std.proofs.Common.{refl}
use Rattle.std.proofs.lemmas.Result.{err_from_is_err_and}
use Rattle.h264_base.proofs.Steps.{bind, stop, done}
use Rattle.h264_header.specs.Marking.{operands}
use Rattle.h264_header.proofs.Entries.{one-operand, operand-stops}
use Rattle.h264_header.proofs.marking.read_operands.Goals as goal

pub returns-then-number-eq5 : goal.returns-then-number-eq5
unfolding operands
returns-then-number-eq5 g c = rw c.if-number-eq5.true (done _ _ _ _ _ _ _ refl)

pub returns-in_err-operand : goal.returns-in_err-operand
returns-in_err-operand g c = let p = err_from_is_err_and c.from_residual.result c.from_residual.ensures.1 in
    rw (p.1, p.2) (operand-stops c.args.number c.requires.some c.requires.known c.if-number-eq5.false (rw c.operand_name.ensures at c.in_err-operand.ensures))

pub returns-then-number-ne3 : goal.returns-then-number-ne3
returns-then-number-ne3 g c = rw (
  one-operand c.args.number c.requires.some c.requires.known c.if-number-ne3.true c.if-number-eq5.false,
  ← c.operand_name.ensures,
) (bind _ c.in_ok-operand.ensures (done _ _ _ _ _ _ _ (rw c.with_operand.ensures refl)))

pub returns-in_err-long_term_frame_idx : goal.returns-in_err-long_term_frame_idx
unfolding operands
returns-in_err-long_term_frame_idx g c = let p =
    err_from_is_err_and c.from_residual-in_err-long_term_frame_idx.result c.from_residual-in_err-long_term_frame_idx.ensures.1 in
    let first = rw (c.operand_name.ensures, c.if-number-ne3.false) at c.in_ok-operand.ensures in
    rw (p.1, p.2, c.if-number-ne3.false) (bind _ first (stop _ c.in_err-long_term_frame_idx.ensures))

pub returns : goal.returns
unfolding operands
returns g c = let first = rw (c.operand_name.ensures, c.if-number-ne3.false) at c.in_ok-operand.ensures in
    rw c.if-number-ne3.false (bind _ first (bind _ c.in_ok-long_term_frame_idx.ensures (done _ _ _ _ _ _ _ refl)))
