use Rattle.std.proofs.lemmas.Result.{err_from_is_err_and}
use Rattle.std.proofs.Common.{refl, arith}
use Rattle.h264_base.proofs.Steps.{bind, stop, done, checked}
use Rattle.h264_cavlc.specs.Zeros.{run_before, coded_run_before}
use Rattle.h264_cavlc.proofs.ShortWords.{last-table}
use Rattle.h264_cavlc.proofs.Sizes.{unequal}
use Rattle.h264_cavlc.proofs.zeros.read_long_run_before.Goals as goal

pub returns-in_err-found-clause-meets : goal.returns-in_err-found-clause-meets
unfolding run_before coded_run_before
returns-in_err-found-clause-meets g c =
    let p = err_from_is_err_and c.from_residual.result c.from_residual.ensures.1 in
    let e = unequal c.args.zeros_left 0 (omega arith) in
    rw (p.1, p.2, e, last-table c.args.zeros_left c.requires.many) (stop _ c.in_err-found.ensures.meets)

pub returns-in_err-check-clause-meets : goal.returns-in_err-check-clause-meets
unfolding run_before coded_run_before
returns-in_err-check-clause-meets g c =
    let p = err_from_is_err_and c.from_residual-in_err-check.result c.from_residual-in_err-check.ensures.1 in
    let e = unequal c.args.zeros_left 0 (omega arith) in
    rw (p.1, p.2, e, last-table c.args.zeros_left c.requires.many) (bind _ c.in_ok-found.ensures.meets (stop _ (checked _ _ _ _ c.in_err-check.ensures)))

pub returns-clause-meets : goal.returns-clause-meets
unfolding run_before coded_run_before
returns-clause-meets g c =
    let e = unequal c.args.zeros_left 0 (omega arith) in
    rw (e, last-table c.args.zeros_left c.requires.many)
    (bind _ c.in_ok-found.ensures.meets (bind _ (checked _ _ _ _ c.in_ok-check.ensures) (done _ _ _ _ _ _ _ refl)))
