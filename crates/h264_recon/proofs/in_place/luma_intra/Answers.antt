use Rattle.h264_recon.specs.ReadLevels.{levels_in}
use Rattle.h264_recon.proofs.Beside.{has16}
use Rattle.h264_recon.proofs.FromLevels.{if_so}
use Rattle.h264_recon.proofs.Kernels.{blocks_made, whole_made}
use Rattle.h264_recon.proofs.in_place.luma_intra.Goals as goal

pub returns-in-Blocks-clause-made : goal.returns-in-Blocks-clause-made
returns-in-Blocks-clause-made c =
    if_so c.luma4.result (λ made ok. blocks_made _ _ _ (levels_in c.args.levels.now) _ _ _ c.in-Blocks.is (made (rw c.in-Blocks.is at ok))) c.luma4.ensures.made

pub returns-in-Whole-clause-made : goal.returns-in-Whole-clause-made
returns-in-Whole-clause-made c =
    let own = c.add_luma.new.samples in
    if_so c.add_luma.result (λ added ok. whole_made _ _ _ (levels_in c.args.levels.now) _ _ c.predict16.result own c.in-Whole.is
    (has16 _ c.args.available _ _ _ _ c.neighbours16.ensures.sides (rw c.in-Whole.is at ok) (c.neighbours16.ensures.samples own) c.predict16.ensures) added)
    c.add_luma.ensures.added
