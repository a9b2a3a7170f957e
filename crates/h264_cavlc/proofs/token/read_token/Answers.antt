use Rattle.std.proofs.Common.{◌/◌, ◌≤◌, arith, refl}
use Rattle.std.proofs.lemmas.Bool.{le-leb}
use Rattle.std.proofs.lemmas.Result.{err_from_is_err_and}
use Rattle.h264_base.specs.declared.rule.Rule.TheVariants.{ResidualWord}
use Rattle.h264_base.proofs.Steps.{bind, stop, done, checked}
use Rattle.h264_cavlc.specs.Token.{coeff_token}
use Rattle.h264_cavlc.proofs.Tokens.{ones-within}
use Rattle.h264_cavlc.proofs.Ends.{word-met-within}
use Rattle.h264_cavlc.proofs.token.read_token.Goals as goal

pub returns-in_err-read_held_entry-clause-meets : goal.returns-in_err-read_held_entry-clause-meets
unfolding coeff_token
returns-in_err-read_held_entry-clause-meets g c =
    let p = err_from_is_err_and c.from_residual.result c.from_residual.ensures.1 in
    let m = rw (c.coeff_token_table-table.ensures, c.in-Some.ensures.kept) at c.in_err-read_held_entry.ensures.meets in
    rw (p.1, p.2) (stop _ (m ResidualWord))

pub returns-then-from-size-clause-meets : goal.returns-then-from-size-clause-meets
unfolding coeff_token
returns-then-from-size-clause-meets g c =
    let m = rw (c.coeff_token_table-table.ensures, c.in-Some.ensures.kept) at c.in_ok-read_held_entry.ensures.meets in
    let value = c.in_ok-read_held_entry.ensures.value in
    let f = c.in_ok-read_held_entry.field-0 in
    let few : f.value / 4 ≤ c.args.size = (let t = c.if-from-size.true in let u = c.from.ensures in rw value (omega arith)) in
    bind _ (m ResidualWord) (bind _ (checked _ _ _ _ (record { checks = le-leb _ _ few })) (done _ _ _ _ _ _ _ (rw value refl)))

pub returns-then-from-size-clause-within : goal.returns-then-from-size-clause-within
returns-then-from-size-clause-within g c =
    let value = c.in_ok-read_held_entry.ensures.value in
    rw (← value) (ones-within _ _ _ c.args.size c.args.nc c.coeff_token_table-table.ensures (c.in_ok-read_held_entry.ensures.meets ResidualWord))

pub returns-then-from-size-clause-inside : goal.returns-then-from-size-clause-inside
returns-then-from-size-clause-inside g c = word-met-within _ _ _ (c.in_ok-read_held_entry.ensures.meets ResidualWord)
