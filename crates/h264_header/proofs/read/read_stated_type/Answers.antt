use Rattle.std.proofs.Common.{refl}
use Rattle.std.proofs.lemmas.Result.{err_from_is_err_and}
use Rattle.h264_base.proofs.Steps.{bind, stop, done, checked}
use Rattle.h264_header.specs.Header.{stated_type}
use Rattle.h264_header.proofs.read.read_stated_type.Goals as goal

pub returns-in_err-stated : goal.returns-in_err-stated
unfolding stated_type
returns-in_err-stated g c = let p = err_from_is_err_and c.from_residual.result c.from_residual.ensures.1 in rw (p.1, p.2) (stop _ c.in_err-stated.ensures.meets)

pub returns-in_err-check : goal.returns-in_err-check
unfolding stated_type
returns-in_err-check g c = let p = err_from_is_err_and c.from_residual-in_err-check.result c.from_residual-in_err-check.ensures.1 in
    rw (p.1, p.2) (bind _ c.in_ok-stated.ensures.meets (stop _ (checked _ _ _ _ c.in_err-check.ensures)))

pub returns-in_err-check-2 : goal.returns-in_err-check-2
unfolding stated_type
returns-in_err-check-2 g c = let p = err_from_is_err_and c.from_residual-in_err-check-2.result c.from_residual-in_err-check-2.ensures.1 in
    let judged = rw c.is_judged_type.ensures at c.in_err-check-2.ensures in
    rw (p.1, p.2) (bind _ c.in_ok-stated.ensures.meets (bind _ (checked _ _ _ _ c.in_ok-check.ensures) (stop _ (checked _ _ _ _ judged))))

pub returns : goal.returns
unfolding stated_type
returns g c = let judged = rw c.is_judged_type.ensures at c.in_ok-check-2.ensures in
    bind _ c.in_ok-stated.ensures.meets (bind _ (checked _ _ _ _ c.in_ok-check.ensures)
    (bind _ (checked _ _ _ _ judged) (done _ _ _ _ _ _ _ (rw c.type_of.ensures refl))))
