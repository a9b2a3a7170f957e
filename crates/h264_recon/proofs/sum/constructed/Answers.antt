use Rattle.std.proofs.Common.{◌≡◌, ◌<◌, ℕ, length, get_or, pos, ◌+ℤ◌, rules, arith, w16}
use Rattle.std.proofs.lemmas.Simd.{Each1-get_or}
use Rattle.h264_inter.proofs.SignedLanes.{natural_read}
use Rattle.h264_recon.proofs.Rows.{sums_of, sums_lane, all_bytes}
use Rattle.h264_recon.proofs.sum.constructed.Goals as goal

pub overflow_cast-result : goal.overflow_cast-result
overflow_cast-result c =
    let r = c.args in
    let long : length r.residual ≡ 8 = search rules in
    let low = λ (k : ℕ) (p : k < 8). (Each1-get_or _ r.predicted k 0 (omega (arith, p, c.fits-predicted.0)) c.fits-predicted.1).fits in
    let at = λ (k : ℕ) (p : k < 8). sums_lane r.predicted r.residual k c.fits-predicted.0 long p (low k p) (c.requires.small k p) in
    all_bytes (sums_of r.predicted r.residual) (λ k. pos (get_or r.predicted k 0) +ℤ get_or r.residual k (pos 0)) ((at 0 (omega arith)).long) at

pub returns : goal.returns
returns c k p =
    let r = c.args in
    let long : length r.residual ≡ 8 = search rules in
    let low = (Each1-get_or _ r.predicted k 0 (omega (arith, p, c.fits-predicted.0)) c.fits-predicted.1).fits in
    natural_read w16 (sums_of r.predicted r.residual) k _ (sums_lane r.predicted r.residual k c.fits-predicted.0 long p low (c.requires.small k p))
