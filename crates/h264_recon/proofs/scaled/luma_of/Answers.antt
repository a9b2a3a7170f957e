use Rattle.std.proofs.Common.{refl}
use Rattle.std.proofs.lemmas.Result.{err_from_is_err_and}
use Rattle.h264_scale.specs.Macroblock.{luma_dc_fits}
use Rattle.h264_scale.proofs.Whole.{always, never, refused}
use Rattle.h264_recon.specs.ReadLevels.{luma_by}
use Rattle.h264_recon.proofs.FromLevels.{dc16_of, uncoded_of}
use Rattle.h264_recon.proofs.scaled.luma_of.Goals as goal

pub returns-in_err-dc16-in-Intra16x16-clause-range : goal.returns-in_err-dc16-in-Intra16x16-clause-range
unfolding luma_by luma_dc_fits
returns-in_err-dc16-in-Intra16x16-clause-range c =
    let p = err_from_is_err_and c.from_residual.result c.from_residual.ensures.1 in
    let range = rw c.shown16-dc.ensures at c.in_err-dc16-in-Intra16x16.ensures.range in
    rw (c.in-Intra16x16.is, p.1) (never _ (refused _ range.1))

pub returns-in_ok-dc16-in-Intra16x16-clause-range : goal.returns-in_ok-dc16-in-Intra16x16-clause-range
unfolding luma_by luma_dc_fits
returns-in_ok-dc16-in-Intra16x16-clause-range c =
    let range = rw c.shown16-dc.ensures at c.in_ok-dc16-in-Intra16x16.ensures.range in
    rw c.in-Intra16x16.is (always _ (range.0 refl))

pub returns-in_ok-dc16-in-Intra16x16-clause-blocks : goal.returns-in_ok-dc16-in-Intra16x16-clause-blocks
unfolding luma_by
returns-in_ok-dc16-in-Intra16x16-clause-blocks c =
    let range = rw c.shown16-dc.ensures at c.in_ok-dc16-in-Intra16x16.ensures.range in
    let scaled = rw c.shown16-dc.ensures at c.in_ok-dc16-in-Intra16x16.ensures.scaled in
    rw c.in-Intra16x16.is (dc16_of c.args.mb.now.qp c.args.mb.now _ refl refl scaled (range.0 refl))

pub returns-in-Pcm-clause-range : goal.returns-in-Pcm-clause-range
unfolding luma_by luma_dc_fits
returns-in-Pcm-clause-range c = rw c.in-Pcm.is (always _ refl)

pub returns-in-Pcm-clause-blocks : goal.returns-in-Pcm-clause-blocks
unfolding luma_by
returns-in-Pcm-clause-blocks c = rw c.in-Pcm.is (uncoded_of c.args.mb.now.qp)

pub returns-in-Intra4x4-clause-range : goal.returns-in-Intra4x4-clause-range
unfolding luma_by
returns-in-Intra4x4-clause-range c = rw c.in-Intra4x4.is (always _ c.plain_blocks.ensures.dc)

pub returns-in-Intra4x4-clause-blocks : goal.returns-in-Intra4x4-clause-blocks
unfolding luma_by
returns-in-Intra4x4-clause-blocks c = rw c.in-Intra4x4.is c.plain_blocks.ensures

pub returns-in-Inter-clause-range : goal.returns-in-Inter-clause-range
unfolding luma_by
returns-in-Inter-clause-range c = rw c.in-Inter.is (always _ c.plain_blocks-in-Inter.ensures.dc)

pub returns-in-Inter-clause-blocks : goal.returns-in-Inter-clause-blocks
unfolding luma_by
returns-in-Inter-clause-blocks c = rw c.in-Inter.is c.plain_blocks-in-Inter.ensures
