use Rattle.std.proofs.Common.{◌+◌, ◌*◌, ◌≤◌, pos, replicate, get_or, inl, inr, arith}
use Rattle.std.proofs.lemmas.Bool.{cases_lt, leb-true}
use Rattle.std.proofs.lemmas.Nat.{mul-le}
use Rattle.h264_scale.specs.Lanes.{size_below}
use Rattle.h264_scale.proofs.Sizes.{few_fit}
use Rattle.h264_scale.proofs.range.are_small_together.Goals as goal

pub returns : goal.returns
returns c small b within =
    let l = get_or c.args.levels.now b (replicate 16 (pos 0)) in
    let factor = c.greatest_factor in
    let size = c.size_of_four.result + c.size_of_four-2.result + c.size_of_four-3.result + c.size_of_four-4.result in
    let below : size_below 16 l ≤ size = elim (cases_lt b 4) [
      | inl p ↦ omega (arith, c.size_of_four.ensures.each b (omega arith) (omega (arith, p)))
      | inr p ↦ elim (cases_lt b 8) [
        | inl q ↦ omega (arith, c.size_of_four-2.ensures.each b (omega (arith, p)) (omega (arith, q)))
        | inr q ↦ elim (cases_lt b 12) [
          | inl r ↦ omega (arith, c.size_of_four-3.ensures.each b (omega (arith, q)) (omega (arith, r)))
          | inr r ↦ omega (arith, c.size_of_four-4.ensures.each b (omega (arith, r)) (omega (arith, within)))
        ]
      ]
    ] in
    let few = leb-true (size * factor.result) 32735 small in
    let product = mul-le (size_below 16 l) factor.result size factor.result below (omega arith) in
    few_fit c.args.qp factor.result factor.ensures.most l (omega (arith, product, few))
