use Rattle.std.proofs.Common.{◌≡◌, ◌+◌, ◌/◌, List, get_or, arith, ap, ◌∙◌, ℕ}
use Rattle.h264_deblock.proofs.lanes.average.Goals as goal

pub narrow-requires : goal.narrow-requires
narrow-requires c n p =
    omega (arith, c.halves.ensures n p, c.sum.ensures n p, c.widened.ensures.small n p, c.widened-2.ensures.small n p)

pub returns : goal.returns
returns c n p =
    let a : get_or c.widened.result n 0 ≡ get_or c.args.a n 0 = ap (λ (l : List ℕ). get_or l n 0) c.widened.ensures.same in
    let b : get_or c.widened-2.result n 0 ≡ get_or c.args.b n 0 = ap (λ (l : List ℕ). get_or l n 0) c.widened-2.ensures.same in
    let m : get_or c.halves.result n 0 ≡ (get_or c.args.a n 0 + get_or c.args.b n 0 + 1) / 2 =
    omega (arith, c.halves.ensures n p, c.sum.ensures n p, c.widened.ensures.small n p, c.widened-2.ensures.small n p, a, b) in
    ap (λ (l : List ℕ). get_or l n 0) c.narrow.ensures ∙ m
