use Rattle.h264_scale.specs.Fours.{transposed, halves, joined, block_e, block_f, block_residual}
use Rattle.h264_scale.proofs.Small.{small_steps}
use Rattle.h264_scale.proofs.Vectors.{rounded_block_in}
use Rattle.h264_scale.proofs.lanes.transform.Goals as goal

pub returns-clause-value : goal.returns-clause-value
unfolding block_residual
returns-clause-value c d p h =
    let s = small_steps d h in
    let f = c.step.ensures (transposed d) p s.turned s.halves_short s.joined_short in
    let g = c.transposed.ensures (joined (halves (transposed d))) f s.joined_short in
    let last = c.step-2.ensures (block_f (block_e d)) g s.f_short s.g_short s.h_short in
    c.rounded_rows.ensures.value (joined (halves (block_f (block_e d)))) last s.h_in

pub returns-clause-bound : goal.returns-clause-bound
returns-clause-bound c d p h =
    let s = small_steps d h in
    let f = c.step.ensures (transposed d) p s.turned s.halves_short s.joined_short in
    let g = c.transposed.ensures (joined (halves (transposed d))) f s.joined_short in
    let last = c.step-2.ensures (block_f (block_e d)) g s.f_short s.g_short s.h_short in
    rw (c.rounded_rows.ensures.value (joined (halves (block_f (block_e d)))) last s.h_in) (rounded_block_in _ s.h_in)
