use Rattle.std.proofs.Common.{refl}
use Rattle.std.proofs.lemmas.Result.{err_from_is_err_and}
use Rattle.h264_base.proofs.Steps.{bind, stop, done, checked}
use Rattle.h264_cavlc.specs.Token.{coeff_token}
use Rattle.h264_cavlc.proofs.Tokens.{ones-within}
use Rattle.h264_cavlc.proofs.Ends.{word-met-within}
use Rattle.h264_cavlc.proofs.token.read_any_token.Goals as goal

pub returns-in_err-found-clause-meets : goal.returns-in_err-found-clause-meets
unfolding coeff_token
returns-in_err-found-clause-meets g c = let p = err_from_is_err_and c.from_residual.result c.from_residual.ensures.1 in
    let m = rw (c.coeff_token_table-table.ensures, c.next_16.ensures.kept) at c.in_err-found.ensures.meets in rw (p.1, p.2) (stop _ m)

pub returns-in_err-check-clause-meets : goal.returns-in_err-check-clause-meets
unfolding coeff_token
returns-in_err-check-clause-meets g c = let p = err_from_is_err_and c.from_residual-in_err-check.result c.from_residual-in_err-check.ensures.1 in
    let m = rw (c.coeff_token_table-table.ensures, c.next_16.ensures.kept) at c.in_ok-found.ensures.meets in
    let k = rw c.from.ensures at c.in_err-check.ensures in rw (p.1, p.2) (bind _ m (stop _ (checked _ _ _ _ k)))

pub returns-clause-meets : goal.returns-clause-meets
unfolding coeff_token
returns-clause-meets g c = let m = rw (c.coeff_token_table-table.ensures, c.next_16.ensures.kept) at c.in_ok-found.ensures.meets in
    let k = rw c.from.ensures at c.in_ok-check.ensures in bind _ m (bind _ (checked _ _ _ _ k) (done _ _ _ _ _ _ _ refl))

pub returns-clause-within : goal.returns-clause-within
returns-clause-within g c = ones-within _ _ _ c.args.size c.args.nc c.coeff_token_table-table.ensures c.in_ok-found.ensures.meets

pub returns-clause-inside : goal.returns-clause-inside
returns-clause-inside g c = word-met-within _ _ _ c.in_ok-found.ensures.meets
