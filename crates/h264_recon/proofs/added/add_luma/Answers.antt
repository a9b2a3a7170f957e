use Rattle.std.proofs.Common.{◌≡◌, arith, refl}
use Rattle.std.proofs.lemmas.Result.{err_from_is_err_and}
use Rattle.h264_plane.specs.Blocks.{number_of}
use Rattle.h264_scale.proofs.Whole.{all_none, all_more, always, never, refused, luma_dc_unfit, luma_unfit, luma_whole}
use Rattle.h264_recon.specs.ReadLevels.{levels_in}
use Rattle.h264_recon.proofs.ByBlock.{none_added, luma_more, luma_added, luma_stays}
use Rattle.h264_recon.proofs.FromLevels.{uncoded_fits, uncoded_luma}
use Rattle.h264_recon.proofs.added.add_luma.Goals as goal

pub returns-in_err-blocks-clause-range : goal.returns-in_err-blocks-clause-range
unfolding levels_in
returns-in_err-blocks-clause-range c =
    let l = levels_in c.args.levels.now in
    let p = err_from_is_err_and c.from_residual.result c.from_residual.ensures.1 in
    rw p.1 (never _ (luma_dc_unfit l.qp l.luma (refused _ c.in_err-blocks.ensures.range.1)))

pub returns-in-NotCoded-clause-range : goal.returns-in-NotCoded-clause-range
unfolding levels_in
returns-in-NotCoded-clause-range c =
    let l = levels_in c.args.levels.now in
    always _ (uncoded_fits l.qp l.luma (rw c.in-NotCoded.is at c.in_ok-blocks.ensures.blocks))

pub returns-in-NotCoded-clause-added : goal.returns-in-NotCoded-clause-added
unfolding levels_in
returns-in-NotCoded-clause-added c =
    let l = levels_in c.args.levels.now in
    luma_stays l _ _ (record { clipped = c.add_nothing.ensures.clipped; same = c.add_nothing.ensures.same })
    (uncoded_luma l (rw c.in-NotCoded.is at c.in_ok-blocks.ensures.blocks))

pub loop-b-init : goal.loop-b-init
loop-b-init c = record { size = c.told-samples; fit = all_none _; added = none_added 16 number_of _ _ }

pub loop-b-preserved : goal.loop-b-preserved
unfolding levels_in
loop-b-preserved c =
    let l = levels_in c.args.levels.now in
    let h = c.in_ok-blocks.ensures.blocks in
    let b = c.loop-b.b in
    record {
      size = c.add_luma_block.array_long;
      fit = all_more b _ c.loop-b.invariant.fit ((c.in_ok-add_luma_block.ensures.range l.luma h).0 refl);
      added = luma_more b _ c.args.samples.now c.loop-b.samples c.add_luma_block.new.samples (omega arith) c.loop-b.invariant.added
          (c.in_ok-add_luma_block.ensures.added l.luma h);
    }

pub returns-in_err-add_luma_block : goal.returns-in_err-add_luma_block
unfolding levels_in
returns-in_err-add_luma_block c =
    let l = levels_in c.args.levels.now in
    let h = c.in_ok-blocks.ensures.blocks in
    let p = err_from_is_err_and c.from_residual-in_err-add_luma_block.result c.from_residual-in_err-add_luma_block.ensures.1 in
    rw p.1 (record {
      range = never _ (luma_unfit l.qp l.luma c.loop-b.b (omega arith) (refused _ (c.in_err-add_luma_block.ensures.range l.luma h).1));
      added = tt;
    })

pub returns : goal.returns
unfolding levels_in
returns c =
    let l = levels_in c.args.levels.now in
    let end : c.loop-b.b ≡ 16 = omega arith in
    record {
      range = always _ (luma_whole l.qp l.luma c.in_ok-blocks.ensures.blocks.dc (rw end at c.loop-b.invariant.fit));
      added = luma_added l _ _ (rw end at c.loop-b.invariant.added);
    }
