use Rattle.std.proofs.Common.{◌≡◌, ◌+◌, ◌*◌, ◌/◌, ◌%◌, ◌<◌, slice_index, arith, ap, ◌∙◌, ⊎_elim}
use Rattle.std.proofs.lemmas.Bool.{cases_eq}
use Rattle.h264_deblock.proofs.Turns.{at_first, at_second}
use Rattle.h264_deblock.proofs.columns.pair_in_turn.Goals as goal

pub returns : goal.returns
returns c u i =
    let r = c.woven.result in
    let half : u / 2 < 8 = omega arith in
    ⊎_elim
    (λ (even : u % 2 ≡ 0).
    let here : u ≡ 2 * (u / 2) = omega (arith, even) in
    ap (slice_index r) here ∙ c.woven.ensures.first (u / 2) half ∙ c.eight.ensures (u / 2) half ∙ at_first _ _ u even)
    (λ odd.
    let one : u % 2 ≡ 1 = omega (arith, odd) in
    let here : u ≡ 2 * (u / 2) + 1 = omega (arith, odd) in
    ap (slice_index r) here ∙ c.woven.ensures.second (u / 2) half ∙ c.eight-2.ensures (u / 2) half ∙ at_second _ _ u one)
    (cases_eq (u % 2) 0)
