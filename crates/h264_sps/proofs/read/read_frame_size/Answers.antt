use Rattle.std.proofs.Common.{refl, ◌∙◌, sym}
use Rattle.h264_base.proofs.Steps.{bind, stop, done, checked}
use Rattle.h264_sps.specs.Sps.{fits, frame_size}
use Rattle.h264_sps.proofs.Regroup.{four-checks, found-some, found-none}
use Rattle.h264_sps.proofs.Ways.{passed-on, by-run}
use Rattle.h264_sps.proofs.read.read_frame_size.Goals as goal

pub returns-in_err-width_minus1 : goal.returns-in_err-width_minus1
unfolding frame_size
returns-in_err-width_minus1 g c = passed-on _ c.from_residual.ensures.1 (stop _ c.in_err-width_minus1.ensures.meets)

pub returns-in_err-height_minus1 : goal.returns-in_err-height_minus1
unfolding frame_size
returns-in_err-height_minus1 g c = passed-on _ c.from_residual-in_err-height_minus1.ensures.1
    (bind _ c.in_ok-width_minus1.ensures.meets (stop _ c.in_err-height_minus1.ensures.meets))

pub returns-in-Some : goal.returns-in-Some
unfolding frame_size fits
returns-in-Some g c =
    let f = found-some _ _ _ (sym c.allowed_size.ensures ∙ c.in-Some.is) in
    bind _ c.in_ok-width_minus1.ensures.meets
    (bind _ c.in_ok-height_minus1.ensures.meets
    (by-run (four-checks _ _ _ _ _ _ _ _ _) (rw f.0 (bind _ (checked _ _ _ _ (record { checks = refl })) (done _ _ _ _ _ _ _ (sym f.1))))))

pub returns-in-None : goal.returns-in-None
unfolding frame_size fits
returns-in-None g c =
    let f = found-none _ _ (sym c.allowed_size.ensures ∙ c.in-None.is) in
    bind _ c.in_ok-width_minus1.ensures.meets
    (bind _ c.in_ok-height_minus1.ensures.meets
    (by-run (four-checks _ _ _ _ _ _ _ _ _) (rw f (stop _ (checked _ _ _ _ (record { checks = (refl, refl) }))))))
