use Rattle.std.proofs.Common.{arith, lt-ltb, refl}
use Rattle.std.proofs.lemmas.Result.{err_from_is_err_and}
use Rattle.h264_base.proofs.Steps.{bind, stop, done, checked}
use Rattle.h264_cavlc.specs.Zeros.{total_zeros, coded_total_zeros}
use Rattle.h264_cavlc.proofs.zeros.read_any_total_zeros.Goals as goal
use Rattle.std.proofs.lemmas.Bool.{le-ltb}

pub returns-then-from-size-clause-meets : goal.returns-then-from-size-clause-meets
unfolding total_zeros
returns-then-from-size-clause-meets g c = rw (le-ltb c.args.total c.args.size (omega arith)) (done _ _ _ _ _ _ _ refl)

pub returns-in_err-found-clause-meets : goal.returns-in_err-found-clause-meets
unfolding total_zeros coded_total_zeros
returns-in_err-found-clause-meets g c = let p = err_from_is_err_and c.from_residual.result c.from_residual.ensures.1 in
    let e = lt-ltb c.args.total c.args.size (omega arith) in
    let m = rw (c.total_zeros_table-table.ensures, c.next_16.ensures.kept) at c.in_err-found.ensures.meets in rw (p.1, p.2, e) (stop _ m)

pub returns-in_err-check-clause-meets : goal.returns-in_err-check-clause-meets
unfolding total_zeros coded_total_zeros
returns-in_err-check-clause-meets g c = let p = err_from_is_err_and c.from_residual-in_err-check.result c.from_residual-in_err-check.ensures.1 in
    let e = lt-ltb c.args.total c.args.size (omega arith) in
    let m = rw (c.total_zeros_table-table.ensures, c.next_16.ensures.kept) at c.in_ok-found.ensures.meets in
    let k = rw (c.from-2.ensures, c.from-3.ensures) at c.in_err-check.ensures in rw (p.1, p.2, e) (bind _ m (stop _ (checked _ _ _ _ k)))

pub returns-clause-meets : goal.returns-clause-meets
unfolding total_zeros coded_total_zeros
returns-clause-meets g c = let e = lt-ltb c.args.total c.args.size (omega arith) in
    let m = rw (c.total_zeros_table-table.ensures, c.next_16.ensures.kept) at c.in_ok-found.ensures.meets in
    let k = rw (c.from-2.ensures, c.from-3.ensures) at c.in_ok-check.ensures in rw e (bind _ m (bind _ (checked _ _ _ _ k) (done _ _ _ _ _ _ _ refl)))
