use Rattle.std.proofs.Common.{rules, refl}
use Rattle.std.proofs.lemmas.Int.{to_z-of_z}
use Rattle.std.proofs.lemmas.Result.{err_from_is_err_and}
use Rattle.std.specs.Int.{w32}
use mir.Val.{SFits}
use Rattle.h264_base.proofs.Steps.{bind, stop, done, checked}
use Rattle.h264_bits.specs.Forms.{signed_within}
use Rattle.h264_bits.proofs.forms.se_within.Goals as goal

pub returns-in_err-found-clause-meets : goal.returns-in_err-found-clause-meets
unfolding signed_within
returns-in_err-found-clause-meets g c = let p = err_from_is_err_and c.from_residual.result c.from_residual.ensures.1 in
    rw (p.1, p.2) (stop _ c.in_err-found.ensures.meets)

pub returns-in_err-check-clause-meets : goal.returns-in_err-check-clause-meets
unfolding signed_within
returns-in_err-check-clause-meets g c = let p = err_from_is_err_and c.from_residual-in_err-check.result c.from_residual-in_err-check.ensures.1 in
    let f0 : SFits w32 c.args.min = search rules in let f1 : SFits w32 c.args.max = search rules in
    let f2 : SFits w32 c.in_ok-found.found.value = search rules in let low = simp to_z-of_z at c.in_err-check.ensures in
    rw (p.1, p.2) (bind _ c.in_ok-found.ensures.meets (stop _ (checked _ _ _ _ low)))

pub returns-in_err-check-2-clause-meets : goal.returns-in_err-check-2-clause-meets
unfolding signed_within
returns-in_err-check-2-clause-meets g c = let p = err_from_is_err_and c.from_residual-in_err-check-2.result c.from_residual-in_err-check-2.ensures.1 in
    let f0 : SFits w32 c.args.min = search rules in let f1 : SFits w32 c.args.max = search rules in
    let f2 : SFits w32 c.in_ok-found.found.value = search rules in let low = simp to_z-of_z at c.in_ok-check.ensures in
    let high = simp to_z-of_z at c.in_err-check-2.ensures in
    rw (p.1, p.2) (bind _ c.in_ok-found.ensures.meets (bind _ (checked _ _ _ _ low) (stop _ (checked _ _ _ _ high))))

pub returns-clause-meets : goal.returns-clause-meets
unfolding signed_within
returns-clause-meets g c = let f0 : SFits w32 c.args.min = search rules in let f1 : SFits w32 c.args.max = search rules in
    let f2 : SFits w32 c.in_ok-found.found.value = search rules in let low = simp to_z-of_z at c.in_ok-check.ensures in
    let high = simp to_z-of_z at c.in_ok-check-2.ensures in
    bind _ c.in_ok-found.ensures.meets (bind _ (checked _ _ _ _ low) (bind _ (checked _ _ _ _ high) (done _ _ _ _ _ _ _ (simp to_z-of_z refl))))
