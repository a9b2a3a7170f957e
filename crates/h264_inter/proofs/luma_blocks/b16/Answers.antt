use Rattle.std.proofs.Common.{◌≡◌, ◌+◌, ◌*◌, ℕ, arith, ap, ◌∙◌, pos}
use Rattle.h264_plane.specs.Samples.{at}
use Rattle.h264_inter.specs.Luma.{half, six}
use Rattle.h264_inter.proofs.Strips.{riffle_is}
use Rattle.h264_inter.proofs.luma_blocks.b16.Goals as goal

pub returns : goal.returns
returns c =
    let a = c.args in
    let p = a.p.now in
    let f = λ (u : ℕ). half (six (λ i. pos (at p (a.x + u + i) (a.y + a.r)))) in
    riffle_is c.riffled.result c.beside.result c.every_other-even.result c.every_other-odd.result f c.riffled.ensures c.beside.ensures.low c.beside.ensures.high
    (λ k q. c.every_other-even.ensures.each k q ∙ ap f (let e : 2 * k + 0 ≡ 2 * k = omega arith in e)) c.every_other-odd.ensures.each
