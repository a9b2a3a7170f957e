use Rattle.std.proofs.Common.{◌≡◌, ◌+◌, ◌/◌, List, get_or, slice_index, arith, ap, ◌∙◌, ℕ}
use Rattle.h264_inter.proofs.lanes.mean16.Goals as goal

pub narrow-requires : goal.narrow-requires
narrow-requires c k p =
    omega (arith, c.half_of_sums-halves.ensures k p, c.widened.ensures.small k p, c.widened-2.ensures.small k p)

pub returns : goal.returns
returns c k p =
    let a : get_or c.widened.result k 0 ≡ slice_index c.args.a k = ap (λ (l : List ℕ). get_or l k 0) c.widened.ensures.same in
    let b : get_or c.widened-2.result k 0 ≡ slice_index c.args.b k = ap (λ (l : List ℕ). get_or l k 0) c.widened-2.ensures.same in
    let m : get_or c.half_of_sums-halves.result k 0 ≡ (slice_index c.args.a k + slice_index c.args.b k + 1) / 2 =
    omega (arith, c.half_of_sums-halves.ensures k p, c.widened.ensures.small k p, c.widened-2.ensures.small k p, a, b) in
    ap (λ (l : List ℕ). get_or l k 0) c.narrow.ensures ∙ m
