use Rattle.std.proofs.Common.{◌≡◌, ◌<◌, ℕ, length, rules, w16, w32, arith}
use Rattle.std.proofs.lemmas.Simd.{Each1-get_or}
use Rattle.h264_inter.proofs.SignedLanes.{all_fit, weighted_fits, weighted_lane, weighted_at, held_of, weighted_of, recast_lane, signed_read}
use Rattle.h264_inter.proofs.pairs.weighted.Goals as goal

pub overflow_cast-result : goal.overflow_cast-result
overflow_cast-result c =
    let r = c.args in
    let first : length r.first ≡ 8 = search rules in
    let second : length r.second ≡ 8 = search rules in
    let low = λ (k : ℕ) (p : k < 8). (Each1-get_or _ r.a k 0 (omega (arith, p, c.fits-a.0)) c.fits-a.1).fits in
    let high = λ (k : ℕ) (p : k < 8). (Each1-get_or _ r.b k 0 (omega (arith, p, c.fits-b.0)) c.fits-b.1).fits in
    let at = λ (k : ℕ) (p : k < 8). weighted_lane r.a r.b r.first r.second k c.fits-a.0 c.fits-b.0 first second p (low k p) (high k p) (c.requires.first k p)
    (c.requires.second k p) in
    all_fit w32 w16 (held_of (weighted_of r.a r.b r.first r.second)) (weighted_at r.a r.b r.first r.second) ((at 0 (omega arith)).long) at
    (λ k p. weighted_fits r.a r.b r.first r.second k (low k p) (high k p) (c.requires.first k p) (c.requires.second k p))

pub returns : goal.returns
returns c k p =
    let r = c.args in
    let first : length r.first ≡ 8 = search rules in
    let second : length r.second ≡ 8 = search rules in
    let low = (Each1-get_or _ r.a k 0 (omega (arith, p, c.fits-a.0)) c.fits-a.1).fits in
    let high = (Each1-get_or _ r.b k 0 (omega (arith, p, c.fits-b.0)) c.fits-b.1).fits in
    let lane = weighted_lane r.a r.b r.first r.second k c.fits-a.0 c.fits-b.0 first second p low high (c.requires.first k p) (c.requires.second k p) in
    signed_read w16 _ k _ (recast_lane w32 w16 _ k _ lane (weighted_fits r.a r.b r.first r.second k low high (c.requires.first k p) (c.requires.second k p)))
