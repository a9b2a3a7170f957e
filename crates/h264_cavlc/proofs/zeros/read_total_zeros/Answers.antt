use Rattle.std.proofs.Common.{◌+◌, ◌≤◌, arith, lt-ltb, refl}
use Rattle.std.proofs.lemmas.Bool.{le-leb, le-ltb}
use Rattle.std.proofs.lemmas.Result.{err_from_is_err_and}
use Rattle.h264_base.specs.declared.rule.Rule.TheVariants.{ResidualWord}
use Rattle.h264_base.proofs.Steps.{bind, stop, done, checked}
use Rattle.h264_cavlc.specs.Zeros.{total_zeros, coded_total_zeros}
use Rattle.h264_cavlc.proofs.zeros.read_total_zeros.Goals as goal

pub returns-then-from-size-clause-meets : goal.returns-then-from-size-clause-meets
unfolding total_zeros
returns-then-from-size-clause-meets g c = rw (le-ltb c.args.total c.args.size (omega arith)) (done _ _ _ _ _ _ _ refl)

pub returns-in_err-read_held_entry-clause-meets : goal.returns-in_err-read_held_entry-clause-meets
unfolding total_zeros coded_total_zeros
returns-in_err-read_held_entry-clause-meets g c =
    let p = err_from_is_err_and c.from_residual.result c.from_residual.ensures.1 in
    let e = lt-ltb c.args.total c.args.size (omega arith) in
    let m = rw (c.total_zeros_table-table.ensures, c.in-Some.ensures.kept) at c.in_err-read_held_entry.ensures.meets in
    rw (p.1, p.2, e) (stop _ (m ResidualWord))

pub returns-then-from-size-2-clause-meets : goal.returns-then-from-size-2-clause-meets
unfolding total_zeros coded_total_zeros
returns-then-from-size-2-clause-meets g c =
    let e = lt-ltb c.args.total c.args.size (omega arith) in
    let m = rw (c.total_zeros_table-table.ensures, c.in-Some.ensures.kept) at c.in_ok-read_held_entry.ensures.meets in
    let value = c.in_ok-read_held_entry.ensures.value in
    let f = c.in_ok-read_held_entry.field-0 in
    let few : c.args.total + f.value ≤ c.args.size =
    (let t = c.if-from-size-2.true in let u = c.from-in-Some-total_zeros_word.ensures in let w = c.from-in-Some-total_zeros_word-2.ensures in
    rw value (omega arith)) in
    rw e (bind _ (m ResidualWord) (bind _ (checked _ _ _ _ (record { checks = le-leb _ _ few })) (done _ _ _ _ _ _ _ (rw value refl))))
