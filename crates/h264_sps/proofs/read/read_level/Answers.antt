use Rattle.std.proofs.Common.{refl, ◌∙◌, sym}
use Rattle.h264_base.proofs.Steps.{bind, stop, done, checked}
use Rattle.h264_bits.proofs.Supported.{supported}
use Rattle.h264_sps.specs.Sps.{level}
use Rattle.h264_sps.proofs.Ways.{passed-on}
use Rattle.h264_sps.proofs.read.read_level.Goals as goal

pub returns-in_err-level : goal.returns-in_err-level
unfolding level
returns-in_err-level g c = passed-on _ c.from_residual.ensures.1 (stop _ c.in_err-level.ensures.meets)

pub returns-in_err-support : goal.returns-in_err-support
unfolding level
returns-in_err-support g c = passed-on _ c.from_residual-in_err-support.ensures.1
    (bind _ c.in_ok-level.ensures.meets (stop _ (supported _ _ _ _ (rw c.is_level_6.ensures at c.in_err-support.ensures))))

pub returns-in-Some : goal.returns-in-Some
unfolding level
returns-in-Some g c =
    let found = sym c.limits.ensures ∙ c.in-Some.is in
    bind _ c.in_ok-level.ensures.meets (bind _ (supported _ _ _ _ (rw c.is_level_6.ensures at c.in_ok-support.ensures))
    (rw found (bind _ (checked _ _ _ _ (record { checks = refl })) (done _ _ _ _ _ _ _ refl))))

pub returns-in-None : goal.returns-in-None
unfolding level
returns-in-None g c =
    let found = sym c.limits.ensures ∙ c.in-None.is in
    bind _ c.in_ok-level.ensures.meets (bind _ (supported _ _ _ _ (rw c.is_level_6.ensures at c.in_ok-support.ensures))
    (rw found (stop _ (checked _ _ _ _ (record { checks = (refl, refl) })))))
