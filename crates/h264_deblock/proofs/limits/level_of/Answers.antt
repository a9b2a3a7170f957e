use Rattle.std.proofs.Common.{[], ◌∷◌}
use Rattle.h264_deblock.proofs.Levels.{four-numbers, numbers-below}
use Rattle.h264_deblock.proofs.limits.level_of.Goals as goal

pub returns-clause-below : goal.returns-clause-below
returns-clause-below c =
    numbers-below c.index-by_a.result (c.number.result ∷ c.number-2.result ∷ c.number-3.result ∷ c.number-4.result ∷ [])
    (four-numbers c.index-by_a.result _ _ _ _ c.number.ensures c.number-2.ensures c.number-3.ensures c.number-4.ensures)
