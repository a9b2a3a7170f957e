use Rattle.std.proofs.Common.{◌≡◌, ℕ, refl}
use Rattle.std.proofs.lemmas.Result.{err_from_is_err_and}
use Rattle.h264_base.proofs.Steps.{bind, stop, done, checked}
use Rattle.h264_bits.specs.Forms.{optional}
use Rattle.h264_bits.specs.declared.element.Found.{Found}
use Rattle.h264_header.specs.Header.{idr_pic_id}
use Rattle.h264_header.proofs.read.read_idr.Goals as goal

pub returns-then-not-idr : goal.returns-then-not-idr
unfolding optional
returns-then-not-idr g c = rw c.if-not-idr.true (done _ _ _ _ _ _ _ refl)

pub returns-in_err-id : goal.returns-in_err-id
unfolding optional idr_pic_id
returns-in_err-id g c = let p = err_from_is_err_and c.from_residual.result c.from_residual.ensures.1 in
    rw (p.1, p.2, c.if-not-idr.false) (stop _ (stop {Y = Found ℕ} {R' = λ x y. y ≡ x} _ c.in_err-id.ensures.meets))

pub returns-in_err-check : goal.returns-in_err-check
unfolding optional idr_pic_id
returns-in_err-check g c = let p = err_from_is_err_and c.from_residual-in_err-check.result c.from_residual-in_err-check.ensures.1 in
    rw (p.1, p.2, c.if-not-idr.false) (stop _
    (bind {Y = Found ℕ} {R' = λ x y. y ≡ x} _ c.in_ok-id.ensures.meets (stop _ (checked _ _ _ _ c.in_err-check.ensures))))

pub returns : goal.returns
unfolding optional idr_pic_id
returns g c = rw c.if-not-idr.false (bind {view = λ (x : Found ℕ). x} _
    (bind _ c.in_ok-id.ensures.meets (bind _ (checked _ _ _ _ c.in_ok-check.ensures) (done _ _ _ _ _ _ c.in_ok-id.id refl))) (done _ _ _ _ _ _ _ refl))
