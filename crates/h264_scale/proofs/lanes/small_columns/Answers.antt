use Rattle.std.proofs.Common.{◌∙◌, sym}
use Rattle.h264_scale.specs.Fours.{IsSmall, block_of}
use Rattle.h264_scale.proofs.Small.{small_steps}
use Rattle.h264_scale.proofs.Vectors.{passed_places, passed_wide, places_in, size_of_places}
use Rattle.h264_scale.proofs.lanes.small_columns.Goals as goal

pub returns-then-not-are_small-clause-answers : goal.returns-then-not-are_small-clause-answers
returns-then-not-are_small-clause-answers c m p h small =
    sym c.if-not-are_small.true ∙ c.are_small.ensures.1 (rw (size_of_places m _ (passed_wide m c.args.d p h)) small)

pub narrow-requires : goal.narrow-requires
narrow-requires c = places_in _ (c.are_small.ensures.0 c.if-not-are_small.false)

pub returns-clause-columns : goal.returns-clause-columns
returns-clause-columns c m p h =
    let wide = passed_wide m c.args.d p h in
    let small : IsSmall (block_of m) = rw (size_of_places m _ wide) at (c.are_small.ensures.0 c.if-not-are_small.false) in
    let short = (small_steps (block_of m) small).d_short in
    (c.columns.ensures m (passed_places m c.narrow.result (c.narrow.ensures ∙ wide) short) short, small)
