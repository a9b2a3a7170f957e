use Rattle.std.proofs.Common.{List, ℕ, get_or, ap, ◌∙◌}
use Rattle.h264_inter.proofs.lanes.beside.Goals as goal

pub returns-clause-low : goal.returns-clause-low
returns-clause-low c k p = c.beside.ensures.first k p ∙ ap (λ (l : List ℕ). get_or l k 0) c.bytes.ensures

pub returns-clause-high : goal.returns-clause-high
returns-clause-high c k p = c.beside.ensures.second k p ∙ ap (λ (l : List ℕ). get_or l k 0) c.bytes-2.ensures
