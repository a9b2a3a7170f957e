use Rattle.std.proofs.Common.{◌<◌, ℕ, arith, w16}
use Rattle.h264_inter.proofs.SignedLanes.{apart_of, apart_at, apart_lane, all_natural, natural_read}
use Rattle.h264_inter.proofs.pairs.difference_and.Goals as goal

pub overflow_cast-result : goal.overflow_cast-result
overflow_cast-result c =
    let r = c.args in
    let at = λ (k : ℕ) (p : k < 8). apart_lane r.a r.b r.more k c.fits-a.0 c.fits-b.0 c.fits-more.0 p (c.requires.a k p) (c.requires.b k p)
    (c.requires.more k p) in
    all_natural (apart_of r.a r.b r.more) (apart_at r.a r.b r.more) ((at 0 (omega arith)).long) at

pub returns : goal.returns
returns c k p =
    let r = c.args in
    natural_read w16 (apart_of r.a r.b r.more) k _
    (apart_lane r.a r.b r.more k c.fits-a.0 c.fits-b.0 c.fits-more.0 p (c.requires.a k p) (c.requires.b k p) (c.requires.more k p))
