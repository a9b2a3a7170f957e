use Rattle.std.proofs.Common.{◌≡◌, ◌+◌, ◌-◌, ◌%◌, get_or, ap, ◌∙◌, arith}
use Rattle.h264_plane.proofs.Lanes.{from_splat}
use Rattle.h264_deblock.proofs.lanes.negated.Goals as goal

pub returns : goal.returns
returns c n p =
    let sum : 0 + (256 - get_or c.args.a n 0) ≡ 256 - get_or c.args.a n 0 = omega arith in
    from_splat 16 (λ x y. (x + (256 - y)) % 256) 0 c.args.a n c.fits-a.0 p ∙ ap (λ z. z % 256) sum
