use Rattle.std.proofs.Common.{◌∙◌, refl}
use Rattle.h264_inter.proofs.Weights.{mean_of_lanes}
use Rattle.h264_inter.proofs.chroma_blocks.means8.Goals as goal

pub bytes-requires : goal.bytes-requires
bytes-requires c k q =
    let w = c.args.w in
    let r = c.requires.bytes in
    let mean = mean_of_lanes w.a w.b w.c w.d _ _ _ _ _ _ _ _ _ _ _ _ c.requires.weights (r.0.a k q) (r.0.b k q) (r.1.a k q) (r.1.b k q)
    (c.times.ensures k q) (c.times-2.ensures k q) (c.times-3.ensures k q) (c.times-4.ensures k q) (c.plus-upper.ensures k q) (c.plus-lower.ensures k q)
    (c.plus.ensures k q) (c.raised.ensures k q) in
    rw (c.part64.ensures k q) mean.1

pub returns : goal.returns
returns c p x y upper lower k q =
    let w = c.args.w in
    let r = c.requires.bytes in
    let mean = mean_of_lanes w.a w.b w.c w.d _ _ _ _ _ _ _ _ _ _ _ _ c.requires.weights (r.0.a k q) (r.0.b k q) (r.1.a k q) (r.1.b k q)
    (c.times.ensures k q) (c.times-2.ensures k q) (c.times-3.ensures k q) (c.times-4.ensures k q) (c.plus-upper.ensures k q) (c.plus-lower.ensures k q)
    (c.plus.ensures k q) (c.raised.ensures k q) in
    rw (c.bytes.ensures) (c.part64.ensures k q ∙ mean.0 ∙ rw (upper.a.each k q, upper.b.each k q, lower.a.each k q, lower.b.each k q) refl)
