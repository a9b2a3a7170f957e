use Rattle.std.proofs.Common.{arith, ◌∙◌}
use Rattle.h264_inter.proofs.luma_blocks.samples_row.Goals as goal

pub returns-else-this-gt8 : goal.returns-else-this-gt8
returns-else-this-gt8 g c u q =
    let few = c.if-this-gt8.false in
    c.beside.ensures.low u (omega arith) ∙ c.load-few.ensures.each u (omega arith)
